-- Definitions hung to a row by rising name. The laws of the loop.
--   names_from                          the names of a set from a name on, rising
--   names_first, names_after           they begin with the lowest; after it with the next
--   readable_copies, readable_source   the rows of a readable picture can be copied
--   hung_most                          there are never more rows than one beyond the limit
--   hung_of                            a picture that was found, by what it is
--   hang_capped                        one definition more
--   Onward                             once the names that are left are attached, all are
--   onward_start, onward_next, onward_end
use Prim.Native.Nat.{◌+◌, ◌-◌, ◌<◌, ◌≤◌, suc, ℕ}
use borrow.Author.Tests.{ltb-false, ltb-true, ne_eqb}
use lib.Dec.{ltb}
use lib.ListN.{get_or, length, length-append}
use mathlib.Core.Bool.{false, true}
use mathlib.Core.List.{List, [], ◌++◌, ◌∷◌}
use mathlib.Core.Logic.{◌⊎◌, inl, inr, ⊎_elim}
use mathlib.Core.Path.{◌∙◌, ◌≡◌, ap, refl, subst, sym}
use native.Mathlib.Omega.{arith}
use Rattle.table.specs.Bounds.{Bounded}
use Rattle.table.specs.Fields.{kind_of}
use Rattle.table.specs.Layout.{name_count}
use Rattle.table.specs.NameSet.{has}
use Rattle.table.specs.Pick.{pick}
use Rattle.table.specs.declared.layout.Limits.{Limits}
use Rattle.table.proofs.Bools.{by_test, false_is}
use Rattle.ale.specs.PictureSignature.{picture_signature}
use Rattle.ale.specs.Rows.{filter_below, filter_from}
use Rattle.ale.specs.Table.{Table}
use Rattle.ale.proofs.RowLists.{filter_from_none, filter_from_split}
use Rattle.tbox.specs.Definitions.{Definitions}
use Rattle.tbox.specs.Unfold.{Origin, attach, hung, parent_in}
use Rattle.tbox.proofs.Origins.{copies_length}
use Rattle.picture.specs.Readable.{Readable, row_count}
use Rattle.picture.proofs.Readables.{
  readable_impossible,
  readable_kind,
  readable_length,
  readable_most,
  readable_parent,
  readable_some,
}
use Rattle.definition_parts.proofs.NameSteps.{Walk, walk_between, walk_held, walk_later}
use Rattle.definition_parts.proofs.NameWalks.{Lowest, Struck}
use Rattle.meaning.specs.File.{kind_code, rows_from}
use Rattle.meaning.specs.Meaning.{kind_at, picture_table}
use Rattle.definition_parts.specs.Names.{names_of}
use Rattle.definition_parts.specs.Parts.{part_at}
use Rattle.table_rows.specs.Rows.{prefix}
use Rattle.unfold_rows.specs.Copies.{Hung, Source}
use Rattle.unfold_rows.specs.Growing.{Capped, Pictures, mixed}
use Rattle.unfold_rows.proofs.Bridge.{Copyable, kind_back}
use Rattle.unfold_rows.proofs.Mixed.{hung_written}

-- ---- names, rising

abbrev pub names_from : ℕ → ℕ → List ℕ
names_from taken o = filter_from (has taken) o (name_count - o)

names_skip : (taken a r : ℕ) → a ≤ r → r ≤ name_count → ((k : ℕ) → a ≤ k → k < r → has taken k ≡ false) →
    names_from taken a ≡ names_from taken r
names_skip taken a r l m f =
    filter_from_split (has taken) a (r - a) (name_count - r) (name_count - a) r (omega arith) (omega arith)
    ∙ ap (λ z. z ++ names_from taken r)
    (filter_from_none (has taken) a (r - a) (λ j p q. false_is (has taken j) (f j p (omega arith))))

names_next : (taken n : ℕ) → n < name_count → has taken n ≡ true → names_from taken n ≡ n ∷ names_from taken (n + 1)
names_next taken n l h =
    ap (filter_from (has taken) n) (let e : name_count - n ≡ suc (name_count - (n + 1)) = omega arith in e)
    ∙ ap (λ b. pick b (n ∷ filter_from (has taken) (suc n) (name_count - (n + 1)))
    (filter_from (has taken) (suc n) (name_count - (n + 1)))) h
    ∙ ap (λ z. n ∷ filter_from (has taken) z (name_count - (n + 1))) (let e : suc n ≡ n + 1 = omega arith in e)

pub names_first : (taken r : ℕ) → Lowest taken r → names_from taken 0 ≡ names_from taken r
names_first taken r h = names_skip taken 0 r (omega arith) h.0 (λ k a b. h.1.0 k b)

pub names_after : (taken left name next r : ℕ) → Walk taken left name → name < name_count → Struck left name next →
    Lowest next r → names_from taken name ≡ name ∷ names_from taken r
names_after taken left name next r w l s low =
    let later = walk_later taken left name next r w l s low in
    names_next taken name l (walk_held taken left name w l)
    ∙ ap (λ z. name ∷ z)
    (names_skip taken (name + 1) r (omega arith) low.0
    (λ k a b. walk_between taken left name next r w l s low k (omega arith) b))

-- ---- rows that can be copied

module _ (limits : Limits) (s : List ℕ) (readable : Readable limits s) where
  pub readable_source : Bounded limits → Source s (row_count s)
  readable_source b = record {
    some = readable_some limits s readable;
    most = omega (arith, b.0, readable_most limits s readable);
    whole = omega (arith, readable_length limits s readable);
    parents = λ j a l. readable_parent limits s readable j (λ z. omega arith) l;
  }

  pub readable_copies : (k y : ℕ) → (k ≡ 0 → ⊥) → (y ≡ 0 → ⊥) → k < row_count s → Copyable s k y
  readable_copies k y a b l = record {
    kinds = ap (λ z. pick z 0 (kind_code (kind_at (kind_of s k)))) (ne_eqb y 0 b)
        ∙ kind_back (kind_of s k) (readable_kind limits s readable k a l);
    marks = readable_impossible limits s readable k l;
  }

-- ---- one definition more

pub hung_most : (s : List ℕ) (i limit first : ℕ) (d : List ℕ) (r : ℕ) (e : List ℕ) → Hung s i limit first d r e →
    r ≤ limit + 1
hung_most s i limit first d r e h =
    by_test (ltb limit (first + (row_count s - 1)))
    (λ t. omega (arith, h.stopped (ltb-true limit (first + (row_count s - 1)) t)))
    (λ f. let b = ltb-false limit (first + (row_count s - 1)) f in omega (arith, (h.fitted b).0))

pub hung_of : (s t : List ℕ) (i limit first : ℕ) (d : List ℕ) (r : ℕ) (e : List ℕ) → s ≡ t →
    Hung s i limit first d r e → Hung t i limit first d r e
hung_of s t i limit first d r e same h = subst (λ z. Hung z i limit first d r e) same h

module _ (D : Definitions picture_signature) (i limit : ℕ) where
  hung_length : (q : Table picture_signature) (v : List (Origin picture_signature)) →
      length (v ++ hung picture_signature q i (length v)) ≡ length v + (q.rows - 1)
  hung_length q v =
      length-append v (hung picture_signature q i (length v))
      ∙ ap (λ n. length v + n)
      (copies_length picture_signature q (parent_in picture_signature i (length v)) 1 (q.rows - 1))

  -- a table that has the rows of v, or more than the limit
  capped_cases : (v : List (Origin picture_signature)) (rows : ℕ) (d : List ℕ) → Capped D limit (suc i) v rows d →
      (rows ≡ length v) ⊎ ((limit < length v) × (limit < rows))
  capped_cases v rows d c =
      by_test (ltb limit (length v))
      (λ t. let l = ltb-true limit (length v) t in inr (l, c.many l))
      (λ f. inl (c.few (ltb-false limit (length v) f)).count)

  hang_table : (s d e : List ℕ) (rows r : ℕ) (v : List (Origin picture_signature)) → i < length v →
      ((k : ℕ) → k < row_count s - 1 → Copyable s (1 + k) (length v + k)) → Capped D limit (suc i) v rows d →
      Hung s i limit rows d r e →
      Capped D limit (suc i) (v ++ hung picture_signature (picture_table s) i (length v)) r e
  hang_table s d e rows r v l copyable c h =
      let size = hung_length (picture_table s) v in
      record {
        few = λ small.
            let was = c.few (omega arith) in
            let (count, added) = h.fitted (omega (arith, was.count)) in
            record {
              count = omega (arith, was.count);
              bytes =
                  ap (λ n. prefix n e) count
                  ∙ hung_written D s d e i (suc i) rows (row_count s) v was.count l was.bytes added
                  (subst (λ n. (k : ℕ) → k < row_count s - 1 → Copyable s (1 + k) (n + k)) (sym was.count) copyable)
                  ∙ ap (λ n. rows_from 0 (mixed D (suc i) (v ++ hung picture_signature (picture_table s) i n)))
                  was.count;
            };
        many = λ large.
            ⊎_elim (λ same. omega (arith, h.stopped (omega arith))) (λ (a, b). omega (arith, h.stopped (omega arith)))
            (capped_cases v rows d c);
      }

  pub hang_capped : (limits : Limits) (s : List ℕ) → Readable limits s → (n : ℕ) → D.picture n ≡ picture_table s →
      (d e : List ℕ) (rows r : ℕ) (v : List (Origin picture_signature)) → i < length v →
      Capped D limit (suc i) v rows d →
      Hung s i limit rows d r e →
      Capped D limit (suc i) (v ++ hung picture_signature (D.picture n) i (length v)) r e
  hang_capped limits s readable n same d e rows r v l c h =
      subst (λ q. Capped D limit (suc i) (v ++ hung picture_signature q i (length v)) r e) (sym same)
      (hang_table s d e rows r v l
      (λ k b.
      readable_copies limits s readable (1 + k) (length v + k) (λ z. omega arith) (λ z. omega arith) (omega arith))
      c h)

-- ---- the loop

abbrev pub Onward : List ℕ → List ℕ → ℕ → ℕ → ℕ → ℕ → List ℕ → ℕ → List ℕ → List ℕ → Type 0
Onward tbox starts taken i limit rows₀ out₀ rows out left =
    (D : Definitions picture_signature) (v : List (Origin picture_signature)) → Pictures D tbox starts taken →
    i < length v → Capped D limit (suc i) v rows₀ out₀ →
    (u : List (Origin picture_signature)) × (i < length u) × Capped D limit (suc i) u rows out
    × (attach picture_signature D u i left ≡ attach picture_signature D v i (names_of taken))

module _ (tbox starts : List ℕ) (taken i limit rows₀ : ℕ) (out₀ : List ℕ) where
  pub onward_start : Onward tbox starts taken i limit rows₀ out₀ rows₀ out₀ (names_of taken)
  onward_start D v p l c = (v, l, c, refl)

  pub onward_next : (rows name r : ℕ) (left next d e : List ℕ) (limits : Limits) →
      Readable limits (part_at tbox (get_or starts name 0)) → has taken name ≡ true → left ≡ name ∷ next →
      Onward tbox starts taken i limit rows₀ out₀ rows d left →
      Hung (part_at tbox (get_or starts name 0)) i limit rows d r e →
      Onward tbox starts taken i limit rows₀ out₀ r e next
  onward_next rows name r left next d e limits readable member more on h D v p l c =
      let (u, b, f, g) = on D v p l c in
      let w = u ++ hung picture_signature (D.picture name) i (length u) in (
        w,
        omega (arith, hung_length D i limit (D.picture name) u),
        hang_capped D i limit limits (part_at tbox (get_or starts name 0)) readable name
            (p name member) d e rows r u b f h,
        sym (ap (attach picture_signature D u i) more) ∙ g,
      )

  pub onward_end : (rows : ℕ) (left out : List ℕ) → left ≡ [] →
      Onward tbox starts taken i limit rows₀ out₀ rows out left →
      (D : Definitions picture_signature) (v : List (Origin picture_signature)) → Pictures D tbox starts taken →
      i < length v → Capped D limit (suc i) v rows₀ out₀ →
      Capped D limit (suc i) (attach picture_signature D v i (filter_below (has taken) name_count)) rows out
  unfolding names_of
  onward_end rows left out none on D v p l c =
      let (u, b, f, g) = on D v p l c in
      subst (λ w. Capped D limit (suc i) w rows out) (sym (ap (attach picture_signature D u i) none) ∙ g) f
