-- A field is a row, or the end field, exactly when its questions are answered yes.
--   RowOk            the questions of the row after n rows, answered yes
--   EndOk            the same of an end field
--   row_ok, ok_row   a field that is a row, and back
--   end_ok, ok_end   a field that is the end field, and back
--   Asked            a number from 2 to 13
--   field_number     a refusal has such a number
use mathlib.Core.Logic.{◌⊎◌, inl, inr, ⊎_elim, ⊎_map}
use mathlib.Core.Path.{◌≡◌, refl, subst, ◌∙◌}
use mathlib.Core.Bool.{Bool, true, false}
use mathlib.Core.List.{List}
use Prim.Native.Nat.{ℕ, ◌≤◌, ◌<◌}
use native.Mathlib.Omega.{arith}
use borrow.Author.Tests.{ltb-true, leb-true, eqb-true, lt-ltb, le-leb, eq-eqb}
use lib.Dec.{eqb, leb, ltb}
use Rattle.std.proofs.Common.{Err, Ok, Result}
use Rattle.table.specs.Pick.{pick}
use lib.ListN.{length}
use Rattle.table.specs.Layout.{«place», head_size, row_tag, end_tag, row_length, end_length, row_size, end_size}
use Rattle.table.specs.Fields.{tag_of, length_of, parent_of, kind_of, role_of, impossible_of}
use Rattle.table.specs.declared.layout.Limits.{Limits}
use Rattle.picture.specs.Depth.{depth}
use Rattle.picture.specs.Questions.{ask, tag_ok, length_for, kind_ok, role_ok, parent_ok, depth_ok, impossible_ok, value_field, row_field, end_field, field_at}
use Rattle.picture.specs.declared.field.Field.{Field}
use Rattle.picture.specs.declared.field.Field.TheVariants.{End, Row}

pub record RowOk (limits : Limits) (s : List ℕ) (n : ℕ) : Type 0 where
  pub tag : tag_of s n ≡ row_tag
  pub row_length_is : length_of s n ≡ row_length
  pub few : n < limits.rows
  pub whole : place n row_size ≤ length s
  pub kind : kind_ok n (kind_of s n) ≡ true
  pub role : role_ok n (role_of s n) ≡ true
  pub parent : parent_ok n (parent_of s n) ≡ true
  pub shallow : depth_ok limits (depth (parent_of s) n) ≡ true
  pub impossible : impossible_ok (impossible_of s n) ≡ true

pub record EndOk (s : List ℕ) (n : ℕ) : Type 0 where
  pub tag : tag_of s n ≡ end_tag
  pub end_length_is : length_of s n ≡ end_length
  pub rows : 0 < n
  pub stops : length s ≡ place n end_size

-- a field that is no refusal
good : Result Field ℕ → Bool
good (Ok (Row d)) = true
good (Ok End) = true
good (Err q) = false

-- a question on the way to such a field was answered yes
passed : (q : ℕ) (b : Bool) (next f : Result Field ℕ) → good f ≡ true → ask q b next ≡ f → (b ≡ true) × (next ≡ f)
unfolding good
passed q true next f g h = (refl, h)
passed q false next (Ok (Row d)) g h = absurd (let z : ◌≡◌ {A = ℕ} 0 1 = cc in omega arith)
passed q false next (Ok End) g h = absurd (let z : ◌≡◌ {A = ℕ} 0 1 = cc in omega arith)
passed q false next (Err p) g h = absurd (let z : ◌≡◌ {A = ℕ} 0 1 = cc in omega arith)

module _ (limits : Limits) (s : List ℕ) (n : ℕ) (f : Result Field ℕ) (g : good f ≡ true) where
  row_part : tag_of s n ≡ row_tag → length_of s n ≡ row_length → row_field limits s n ≡ f → RowOk limits s n × (Ok (Row (depth (parent_of s) n)) ≡ f)
  unfolding row_field value_field
  row_part t l h =
      let r = passed 5 _ _ f g h in
      let w = passed 6 _ _ f g r.1 in
      let k = passed 9 _ _ f g w.1 in
      let o = passed 10 _ _ f g k.1 in
      let p = passed 11 _ _ f g o.1 in
      let d = passed 12 _ _ f g p.1 in
      let i = passed 13 _ _ f g d.1 in (
        record {
          tag = t;
          row_length_is = l;
          few = ltb-true n limits.rows r.0;
          whole = leb-true (place n row_size) (length s) w.0;
          kind = k.0;
          role = o.0;
          parent = p.0;
          shallow = d.0;
          impossible = i.0;
        },
        i.1,
      )

  end_part : tag_of s n ≡ end_tag → length_of s n ≡ end_length → end_field s n ≡ f → EndOk s n × ((Ok End) ≡ f)
  unfolding end_field
  end_part t l h =
      let r = passed 7 _ _ f g h in
      let e = passed 8 _ _ f g r.1 in (
        record {
          tag = t;
          end_length_is = l;
          rows = ltb-true 0 n r.0;
          stops = eqb-true (length s) (place n end_size) e.0;
        },
        e.1,
      )

-- a tag that passed 3, with the length that it asks for, is a row's or the end field's
by_tag : (tag len : ℕ) (b : Bool) → eqb tag row_tag ≡ b → tag_ok tag ≡ true → len ≡ length_for tag → ((tag ≡ row_tag) × (len ≡ row_length) × (b ≡ true)) ⊎ ((tag ≡ end_tag) × (len ≡ end_length) × (b ≡ false))
unfolding tag_ok length_for
by_tag tag len true e t l = inl (eqb-true tag row_tag e, l ∙ simp e, refl)
by_tag tag len false e t l = inr (eqb-true tag end_tag (simp e at t), l ∙ simp e, refl)

head : (limits : Limits) (s : List ℕ) (n : ℕ) (f : Result Field ℕ) → good f ≡ true → field_at limits s n ≡ f → (RowOk limits s n × (Ok (Row (depth (parent_of s) n)) ≡ f)) ⊎ (EndOk s n × ((Ok End) ≡ f))
unfolding field_at
head limits s n f g h =
    let b = passed 2 (leb (place n head_size) (length s)) _ f g h in
    let t = passed 3 (tag_ok (tag_of s n)) _ f g b.1 in
    let l = passed 4 (eqb (length_of s n) (length_for (tag_of s n))) _ f g t.1 in
    ⊎_map (λ w. row_part limits s n f g w.0 w.1 (rw w.2 at l.1)) (λ w. end_part limits s n f g w.0 w.1 (rw w.2 at l.1))
    (by_tag (tag_of s n) (length_of s n) (eqb (tag_of s n) row_tag) refl t.0 (eqb-true (length_of s n) (length_for (tag_of s n)) l.0))

pub row_ok : (limits : Limits) (s : List ℕ) (n d : ℕ) → field_at limits s n ≡ Ok (Row d) → RowOk limits s n × (d ≡ depth (parent_of s) n)
unfolding good
row_ok limits s n d h =
    ⊎_elim (λ w. (w.0, (let e : Ok (Row (depth (parent_of s) n)) ≡ Ok (Row d) = w.1 in cc))) (λ w. absurd (let e : (Ok End) ≡ Ok (Row d) = w.1 in let z : ◌≡◌ {A = ℕ} 0 1 = cc in omega arith)) (head limits s n (Ok (Row d)) refl h)

pub end_ok : (limits : Limits) (s : List ℕ) (n : ℕ) → field_at limits s n ≡ Ok End → EndOk s n
unfolding good
end_ok limits s n h =
    ⊎_elim (λ w. absurd (let e : Ok (Row (depth (parent_of s) n)) ≡ (Ok End) = w.1 in let z : ◌≡◌ {A = ℕ} 0 1 = cc in omega arith)) (λ w. w.0) (head limits s n (Ok End) refl h)

pub ok_row : (limits : Limits) (s : List ℕ) (n : ℕ) → RowOk limits s n → field_at limits s n ≡ Ok (Row (depth (parent_of s) n))
unfolding field_at tag_ok length_for row_field value_field
ok_row limits s n r =
    simp (le-leb (place n head_size) (length s) (omega (arith, r.whole)), r.tag, r.row_length_is, lt-ltb _ _ r.few, le-leb _ _ r.whole, r.kind, r.role, r.parent, r.shallow, r.impossible)

pub ok_end : (limits : Limits) (s : List ℕ) (n : ℕ) → EndOk s n → field_at limits s n ≡ Ok End
unfolding field_at tag_ok length_for end_field
ok_end limits s n r =
    simp (le-leb (place n head_size) (length s) (omega (arith, r.stops)), r.tag, r.end_length_is, lt-ltb 0 n r.rows, eq-eqb _ _ r.stops)

-- a refusal's number is that of a question of a field
pub record Asked (q : ℕ) : Type 0 where
  pub least : 2 ≤ q
  pub most : q ≤ 13

asked : {q : ℕ} → 2 ≤ q → q ≤ 13 → Asked q
asked least most = record { least = least; most = most }

asks : (p q : ℕ) (b : Bool) (next : Result Field ℕ) → Asked p → (next ≡ Err q → Asked q) → ask p b next ≡ Err q → Asked q
asks p q true next here rest h = rest h
asks p q false next here rest h = let e : p ≡ q = cc in subst Asked e here

picks : (q : ℕ) (b : Bool) (x y : Result Field ℕ) → (x ≡ Err q → Asked q) → (y ≡ Err q → Asked q) → pick b x y ≡ Err q → Asked q
picks q true x y f g h = f h
picks q false x y f g h = g h

module _ (limits : Limits) (s : List ℕ) (n q : ℕ) where
  row_number : row_field limits s n ≡ Err q → Asked q
  unfolding row_field value_field
  row_number =
      asks 5 q (ltb n limits.rows) _ (asked (omega arith) (omega arith))
      (asks 6 q (leb (place n row_size) (length s)) _ (asked (omega arith) (omega arith))
      (asks 9 q (kind_ok n (kind_of s n)) _ (asked (omega arith) (omega arith))
      (asks 10 q (role_ok n (role_of s n)) _ (asked (omega arith) (omega arith))
      (asks 11 q (parent_ok n (parent_of s n)) _ (asked (omega arith) (omega arith))
      (asks 12 q (depth_ok limits (depth (parent_of s) n)) _ (asked (omega arith) (omega arith))
      (asks 13 q (impossible_ok (impossible_of s n)) _ (asked (omega arith) (omega arith))
      (λ h. absurd (let z : ◌≡◌ {A = ℕ} 0 1 = cc in omega arith))))))))

  end_number : end_field s n ≡ Err q → Asked q
  unfolding end_field
  end_number =
      asks 7 q (ltb 0 n) _ (asked (omega arith) (omega arith))
      (asks 8 q (eqb (length s) (place n end_size)) _ (asked (omega arith) (omega arith))
      (λ h. absurd (let z : ◌≡◌ {A = ℕ} 0 1 = cc in omega arith)))

  pub field_number : field_at limits s n ≡ Err q → Asked q
  unfolding field_at
  field_number =
      asks 2 q (leb (place n head_size) (length s)) _ (asked (omega arith) (omega arith))
      (asks 3 q (tag_ok (tag_of s n)) _ (asked (omega arith) (omega arith))
      (asks 4 q (eqb (length_of s n) (length_for (tag_of s n))) _ (asked (omega arith) (omega arith))
      (picks q (eqb (tag_of s n) row_tag) _ _ row_number end_number)))
