-- Row i comes up. What it reads as, what it takes in, how it is written anew, and what is hung to it.
--   row_again                      a row that was read is written with the same parent
--   taken_pictures                 names that were taken in are defined
--   label_shown                    the label that is read is that of the row which it is a copy of
--   row_unfolded                   the row that is written anew is the unfolded one
--   names_taken                    the names that were taken in, rising
--   risen_anew, risen_idle         the table then: the row takes in definitions, or it wants no defined name
--   has_row, anew_length           row i is there, and writing it anew keeps the length
use Prim.Native.Nat.{◌%◌, ◌/◌, ◌<◌, ◌^◌, ◌≤◌, suc, ℕ}
use borrow.Author.Tests.{eqb-true, lt-ltb, not-false}
use lib.Dec.{eqb, ltb}
use lib.ListN.{length}
use mathlib.Core.Bool.{Bool, ◌&&◌, false, false≢true, not, true}
use mathlib.Core.List.{List, [], ◌++◌, ◌∷◌}
use mathlib.Core.Path.{◌∙◌, ◌≡◌, ap, ap₂, refl, subst, sym}
use native.Mathlib.Omega.{arith}
use Rattle.table.specs.Fields.{kind_of, parent_of, role_of, row_of, wanted_of}
use Rattle.table.specs.Layout.{name_bytes, name_count, number_size, row_length, row_tag, «place»}
use Rattle.table.specs.NameSet.{complement, has, intersection, none}
use Rattle.table.specs.NameValues.{overlap, set_of}
use Rattle.table.specs.Number.{be, be_bytes}
use Rattle.table.specs.Pick.{pick}
use Rattle.table.specs.Put.{put}
use Rattle.table.proofs.Bools.{is_true, true_is}
use Rattle.table.proofs.NameSets.{has_below, has_complement, has_intersection, has_none, set_ext}
use Rattle.table.proofs.Puts.{length_put}
use Rattle.table.proofs.Rows.{
  HoldsRow,
  held_excluded,
  held_impossible,
  held_kind,
  held_role,
  held_wanted,
  length_row_of,
  parent_same,
}
use Rattle.table_rows.specs.Rows.{HasRow}
use Rattle.ale.specs.PictureSignature.{below, picture_signature}
use Rattle.ale.specs.Rows.{filter_below, member}
use Rattle.ale.specs.Table.{Table}
use Rattle.ale.specs.Tree.{Label}
use Rattle.ale.proofs.RowLists.{filter_from_same}
use Rattle.tbox.specs.Definitions.{Definitions}
use Rattle.tbox.specs.Unfold as Theory
use Rattle.tbox.specs.Unfold.{Origin, attach, origin_at, taken_by, taking, unfolded_row, visit}
use Rattle.tbox.proofs.UnfoldedTables.{WantsNone, taken_idle, taking_idle}
use Rattle.meaning.specs.File.{code_at, mark_code, row_at, rows_from}
use Rattle.definition_parts.specs.Parts.{Agrees}
use Rattle.table_rows.specs.Rows.{prefix}
use Rattle.unfold_rows.specs.Growing.{Attached, Capped, Pictures, Rising, Standing, mixed, raw_row}
use Rattle.unfold_rows.specs.Labels.{LabelRead, relabelled}
use Rattle.unfold_rows.specs.Takings.{Shows, TakenIn}
use Rattle.unfold_rows.specs.declared.take.Taking.{Taking}
use Rattle.unfold_rows.proofs.Mixed.{Split, mixed_next, row_kept, row_stands, row_written}

-- a parent of two bytes is written as it was, whatever the number that they were made from
parent_bytes : (p k r m w x : ℕ) → be_bytes 2 (parent_of (row_of p k r m w x) 0) ≡ be_bytes 2 p
unfolding row_of be_bytes be
parent_bytes p k r m w x =
    let a : parent_of (row_of p k r m w x) 0 / 256 ^ 1 % 256 ≡ p / 256 ^ 1 % 256 = omega arith in
    let b : parent_of (row_of p k r m w x) 0 / 256 ^ 0 % 256 ≡ p / 256 ^ 0 % 256 = omega arith in
    ap₂ (λ y z. y ∷ z ∷ []) a b

same_row : (a b k r m w x : ℕ) → be_bytes number_size a ≡ be_bytes number_size b → row_of a k r m w x ≡ row_of b k r m w x
unfolding row_of
same_row a b k r m w x e =
    let rest = (k ∷ r ∷ m ∷ []) ++ (be_bytes name_bytes w ++ be_bytes name_bytes x) in
    ap (λ z. (row_tag ∷ []) ++ (be_bytes number_size row_length ++ (z ++ rest))) e

pub row_again : (s : List ℕ) (n p k r m w x m' w' x' : ℕ) → HoldsRow s n p k r m w x →
    row_of (parent_of s n) (kind_of s n) (role_of s n) m' w' x' ≡ row_of p k r m' w' x'
row_again s n p k r m w x m' w' x' h =
    ap₂ (λ a b. row_of (parent_of s n) a b m' w' x') (held_kind h) (held_role h)
    ∙ ap (λ a. row_of a k r m' w' x') (parent_same h.same)
    ∙ same_row (parent_of (row_of p k r m w x) 0) p k r m' w' x' (parent_bytes p k r m w x)

-- ---- names that were taken in

module _ (D : Definitions picture_signature) (tbox starts : List ℕ) (defined : ℕ)
    (agrees : Agrees D tbox starts defined) where
  pub taken_pictures : (taken : ℕ) → ((n : ℕ) → has taken n ≡ true → has defined n ≡ true) →
      Pictures D tbox starts taken
  taken_pictures taken known n h =
      agrees.pictures n (true_is (has D.defined.set n) (ap (λ z. has z n) agrees.names ∙ known n h))

  module _ (i rows limit : ℕ) (d : List ℕ) (v : List (Origin picture_signature)) (p : Table picture_signature)
      (standing : Standing D i v rows d) (here : i < rows) where
    abbrev o : Origin picture_signature
    o = origin_at picture_signature p v i

    abbrev l : Label picture_signature
    l = o.table.label o.row

    split : Split D i v o
    split = mixed_next D i v (record { parent = 0; table = p; row = 0 }) (omega (arith, standing.count))

    held : HoldsRow d i o.parent (code_at i (o.table.kind o.row)) (o.table.role o.row)
        (mark_code l.bottom)
        l.wanted.set l.excluded.set
    held = record { same = row_stands D d i rows v o split standing.bytes }

    wanted_read : wanted_of d i ≡ l.wanted.set
    wanted_read = held_wanted held (below l.wanted)

    label_shown : (t : Taking) → LabelRead d i t → Shows t (record { label = l; taken = [] })
    label_shown t r = record {
      wanted = r.wanted ∙ wanted_read;
      excluded = r.excluded ∙ held_excluded held (below l.excluded);
      impossible = r.impossible ∙ held_impossible held;
      taken = λ n. ap (λ z. has z n) r.taken ∙ has_none n;
    }

    row_unfolded : (t : Taking) → Shows t (taking picture_signature D l) →
        relabelled d i t defined ≡ row_at i (unfolded_row picture_signature D o)
    row_unfolded t h =
        ap₂ (λ a b. row_of (parent_of d i) (kind_of d i) (role_of d i) t.impossible (intersection a (complement b))
        (set_of t.excluded))
        h.wanted (sym agrees.names)
        ∙ ap₂ (λ a b. row_of (parent_of d i) (kind_of d i) (role_of d i) a
        (intersection (taking picture_signature D l).label.wanted.set (complement D.defined.set)) b)
        h.impossible h.excluded
        ∙ row_again d i o.parent (code_at i (o.table.kind o.row)) (o.table.role o.row)
        (mark_code l.bottom)
        l.wanted.set l.excluded.set (mark_code (taking picture_signature D l).label.bottom)
        (intersection (taking picture_signature D l).label.wanted.set (complement D.defined.set))
        (taking picture_signature D l).label.excluded.set held

    names_taken : (t : Taking) → Shows t (taking picture_signature D l) →
        filter_below (has (set_of t.taken)) name_count ≡ taken_by picture_signature D l
    names_taken t h =
        filter_from_same (has (set_of t.taken)) (λ n. member n (taking picture_signature D l).taken) 0 name_count
        (λ n a b. h.taken n)

    visited : visit picture_signature D p v i ≡ attach picture_signature D v i (taken_by picture_signature D l)
    visited =
        ap (λ b. pick b (attach picture_signature D v i (taken_by picture_signature D l)) v)
        (lt-ltb i (length v) (omega (arith, standing.count)))

    -- the row takes in definitions
    pub risen_anew : (start t : Taking) → rows ≤ limit → LabelRead d i start → TakenIn start tbox starts defined t →
        (row m e : List ℕ) (r : ℕ) → row ≡ relabelled d i t defined → m ≡ put d (place i 0) row →
        Attached tbox starts (set_of t.taken) i limit rows m r e →
        Capped D limit (suc i) (visit picture_signature D p v i) r e
    risen_anew start t small read taken row m e r is at a =
        let h = taken.shows D (record { label = l; taken = [] }) agrees (label_shown start read) in
        let anew : prefix rows m ≡ rows_from 0 (mixed D (suc i) v) =
        ap (prefix rows) at
        ∙ row_written D d row i rows v o split standing.count standing.bytes (is ∙ row_unfolded t h) in
        subst (λ w. Capped D limit (suc i) w r e)
        (ap (attach picture_signature D v i) (names_taken t h) ∙ sym visited)
        (a.capped D v (taken_pictures (set_of t.taken) taken.known) (omega (arith, standing.count))
        (record {
          few = λ b. record { count = standing.count; bytes = anew };
          many = λ b. absurd (omega (arith, standing.count));
        }))

    -- it wants no defined name
    idle : overlap (wanted_of d i) defined ≡ false → WantsNone picture_signature D l
    idle f n a b =
        false≢true
        (sym (has_none n)
        ∙ ap (λ z. has z n)
        (sym (eqb-true (intersection (wanted_of d i) defined) 0
        (not-false (eqb (intersection (wanted_of d i) defined) 0) f)))
        ∙ has_intersection (wanted_of d i) defined n
        ∙ ap₂ (λ x y. x && y)
        (ap (λ z. has z n) wanted_read ∙ is_true (has l.wanted.set n) a)
        (ap (λ z. has z n) (sym agrees.names) ∙ is_true (has D.defined.set n) b))

    kept_names : WantsNone picture_signature D l →
        l.wanted.set ≡ intersection l.wanted.set (complement D.defined.set)
    kept_names none =
        set_ext l.wanted.set (intersection l.wanted.set (complement D.defined.set))
        (λ n. sym (has_intersection l.wanted.set (complement D.defined.set) n
        ∙ ap (λ z. has l.wanted.set n && z) (has_complement D.defined.set n (below D.defined))
        ∙ both_ways (has l.wanted.set n) (ltb n name_count) (has D.defined.set n)
        (λ a. lt-ltb n name_count (has_below l.wanted.set n (below l.wanted) a))
        (λ a b. none n (true_is (has l.wanted.set n) a) (true_is (has D.defined.set n) b))))
      where
        both_ways : (a b c : Bool) → (a ≡ true → b ≡ true) → (a ≡ true → c ≡ true → ⊥) → (a && (b && not c)) ≡ a
        both_ways true b true f g = absurd (g refl refl)
        both_ways true b false f g = ap (λ z. z && true) (f refl)
        both_ways false b c f g = refl

    row_idle : WantsNone picture_signature D l → row_at i (raw_row o) ≡ row_at i (unfolded_row picture_signature D o)
    row_idle none =
        ap (λ z. row_of o.parent (code_at i (o.table.kind o.row)) (o.table.role o.row)
        (mark_code l.bottom) z l.excluded.set)
        (kept_names none)
        ∙ ap (λ (s : Theory.Taking picture_signature).
        row_of o.parent (code_at i (o.table.kind o.row)) (o.table.role o.row) (mark_code s.label.bottom)
        (intersection s.label.wanted.set (complement D.defined.set)) s.label.excluded.set)
        (sym (taking_idle picture_signature D l none))

    pub risen_idle : rows ≤ limit → overlap (wanted_of d i) defined ≡ false →
        Capped D limit (suc i) (visit picture_signature D p v i) rows d
    risen_idle small f =
        subst (λ w. Capped D limit (suc i) w rows d)
        (sym (visited ∙ ap (attach picture_signature D v i) (taken_idle picture_signature D l (idle f))))
        (record {
          few = λ b.
              record {
                count = standing.count;
                bytes = standing.bytes ∙ row_kept D i v o split (row_idle (idle f));
              };
          many = λ b. absurd (omega (arith, standing.count));
        })

-- ---- room

pub has_row : (i limit rows : ℕ) (out : List ℕ) → Rising i limit rows out → HasRow out i
has_row i limit rows out h =
    (omega (arith, h.here, h.within, h.small), omega (arith, h.here, h.within, h.room))

-- row i written anew keeps the length
pub anew_length : (d m : List ℕ) (i : ℕ) (t : Taking) (defined : ℕ) → HasRow d i →
    m ≡ put d (place i 0) (relabelled d i t defined) → length m ≡ length d
anew_length d m i t defined h e =
    ap length e
    ∙ length_put d (place i 0) (relabelled d i t defined)
    (omega (
      arith,
      h.1,
      length_row_of (parent_of d i) (kind_of d i) (role_of d i) t.impossible
          (intersection (set_of t.wanted) (complement defined)) (set_of t.excluded),
    ))
