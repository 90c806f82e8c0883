-- A picture of which no row wants a defined name is its own unfolded picture: its rows stay as they are, so 29 and 30
-- are answered yes.
--   word_set               the set of the defined names is a word of so many bits
--   apart                  a set without a defined name
--   rows_own               the unfolded rows are the picture's own
--   tree_own               the table of a table's rows has its trees
--   few_own, shallow_own   29 and 30
--   file_own               the unfolded picture is the picture itself, whatever its bytes
use Prim.Native.Nat.{◌%◌, ◌+◌, ◌<◌, ◌^◌, ◌≤◌, suc, zero, ℕ}
use borrow.Author.Tests.{eqb-true, le-leb, not-false}
use lib.Dec.{T, eqb, leb}
use lib.ListN.{get_or, length}
use mathlib.Core.Bool.{Bool, ◌&&◌, false, false≢true, true}
use mathlib.Core.List.{List}
use mathlib.Core.Path.{◌∙◌, ◌≡◌, ap, refl, subst, sym}
use native.Mathlib.Nat.{mod-eq_of_lt}
use native.Mathlib.Omega.{arith}
use Rattle.table.proofs.Bools.{by_test, is_true}
use Rattle.table.proofs.NameSets.{has_intersection, has_none, set_ext}
use Rattle.table.proofs.Ranges.{at_each, at_some}
use Rattle.table.proofs.SetsBelow.{set_below_below}
use Rattle.table.specs.Layout.{name_count}
use Rattle.table.specs.NameSet as Set
use Rattle.table.specs.Range.{each, some}
use Rattle.table.specs.declared.layout.Limits.{Limits}
use Rattle.ale.proofs.SameTables.{SameTable, tree_of_same}
use Rattle.ale.specs.Encoding.{Row, no_row, table_of}
use Rattle.ale.specs.PictureSignature.{NameSet, picture_signature}
use Rattle.ale.specs.Table.{Table, tree_of}
use Rattle.tbox.proofs.Origins.{copies_length}
use Rattle.tbox.proofs.UnfoldedTables.{WantsNone, grown_idle, rows_of_from, unfolded_idle}
use Rattle.tbox.specs.Theory.{whole_tree}
use Rattle.tbox.specs.Unfold.{grown, unfold_rows}
use Rattle.picture.proofs.Depths.{depth_same}
use Rattle.picture.proofs.Readables.{readable_depth, readable_most, readable_some}
use Rattle.picture.specs.Depth.{depth}
use Rattle.picture.specs.Readable.{Readable}
use Rattle.meaning.proofs.FileTables.{name_set_same}
use Rattle.meaning.proofs.Pictures.{picture_parents}
use Rattle.meaning.specs.Meaning.{picture_table}
use Rattle.definitions.specs.Tbox.{defined_word, defines, tbox_of}
use Rattle.definitions.specs.Unfolded.{any_defined, unfolded_count, unfolded_few, unfolded_file, unfolded_shallow, wants_defined}

-- ---- sets

pub word_set : (book : List ℕ) → defined_word book % 2 ^ name_count ≡ defined_word book
unfolding defined_word
word_set book = mod-eq_of_lt (set_below_below (defines book) name_count)

pub apart : (book : List ℕ) (names : NameSet) → any_defined book names ≡ false →
    (n : ℕ) → T (Set.has names.set n) → T (picture_signature.has (tbox_of book).defined n) → ⊥
apart book names e n h d =
    let both : Set.has (Set.intersection names.set (defined_word book)) n ≡ true =
    has_intersection names.set (defined_word book) n
    ∙ ap (λ b. b && Set.has (defined_word book) n) (is_true (Set.has names.set n) h)
    ∙ ap (λ w. Set.has w n) (sym (word_set book)) ∙ is_true (picture_signature.has (tbox_of book).defined n) d in
    let empty : Set.intersection names.set (defined_word book) ≡ Set.none =
    eqb-true (Set.intersection names.set (defined_word book)) Set.none
    (not-false (eqb (Set.intersection names.set (defined_word book)) Set.none) e) in
    false≢true (sym (has_none n) ∙ ap (λ w. Set.has w n) (sym empty) ∙ both)

-- ---- the table of a table's rows

module _ (p : Table picture_signature) where
  abbrev row_of : ℕ → Row picture_signature
  row_of j = record { parent = p.parent j; kind = p.kind j; role = p.role j; label = p.label j }

  rows_length : (k n : ℕ) → length (rows_of_from picture_signature p k n) ≡ n
  rows_length k zero = refl
  rows_length k (suc n) = ap suc (rows_length (suc k) n)

  rows_at : (k n j : ℕ) → j < n →
      get_or (rows_of_from picture_signature p k n) j (no_row picture_signature) ≡ row_of (k + j)
  rows_at k zero j l = absurd (omega arith)
  rows_at k (suc n) zero l = ap row_of (let e : k ≡ k + 0 = omega arith in e)
  rows_at k (suc n) (suc j) l =
      rows_at (suc k) n j (omega arith) ∙ ap row_of (let e : suc k + j ≡ k + suc j = omega arith in e)

  abbrev again : Table picture_signature
  again = table_of picture_signature (rows_of_from picture_signature p 0 p.rows)

  own_row : (j : ℕ) → j < p.rows →
      get_or (rows_of_from picture_signature p 0 p.rows) j (no_row picture_signature) ≡ row_of j
  own_row j l = rows_at 0 p.rows j l ∙ ap row_of (let e : 0 + j ≡ j = omega arith in e)

  table_own : SameTable picture_signature again p
  table_own = record {
    rows = rows_length 0 p.rows;
    labels = λ j l. ap (λ o. o.label) (own_row j (omega (arith, rows_length 0 p.rows)));
    parents = λ j l z. ap (λ o. o.parent) (own_row j (omega (arith, rows_length 0 p.rows)));
    kinds = λ j l z. ap (λ o. o.kind) (own_row j (omega (arith, rows_length 0 p.rows)));
    roles = λ j l z. ap (λ o. o.role) (own_row j (omega (arith, rows_length 0 p.rows)));
  }

  pub tree_own : 0 < p.rows → whole_tree picture_signature again ≡ whole_tree picture_signature p
  tree_own some =
      tree_of_same picture_signature again p table_own again.rows 0 (omega (arith, rows_length 0 p.rows))
      ∙ ap (λ n. tree_of picture_signature p n 0) (rows_length 0 p.rows)

-- ---- a picture of which no row wants a defined name

sets_same : (a b : NameSet) → ((n : ℕ) → T (Set.has a.set n) → T (Set.has b.set n)) →
    ((n : ℕ) → T (Set.has b.set n) → T (Set.has a.set n)) → a ≡ b
sets_same a b f g =
    name_set_same a b (set_ext a.set b.set (λ n. same (Set.has a.set n) (Set.has b.set n) (f n) (g n)))
  where
    same : (x y : Bool) → (T x → T y) → (T y → T x) → x ≡ y
    same true true f g = refl
    same true false f g = absurd (f tt)
    same false true f g = absurd (g tt)
    same false false f g = refl

module _ (limits : Limits) (s : List ℕ) (readable : Readable limits s)
    (book : List ℕ) (idle : wants_defined book s ≡ false) where
  abbrev p : Table picture_signature
  p = picture_table s

  wants_none : (j : ℕ) → j < p.rows → WantsNone picture_signature (tbox_of book) (p.label j)
  wants_none j l =
      apart book (p.label j).wanted
      (by_test (any_defined book (p.label j).wanted)
      (λ e. absurd (false≢true (sym idle
      ∙ at_some (λ j. any_defined book (p.label j).wanted) p.rows 0 j (omega arith) (omega arith) e)))
      (λ e. e))

  pub rows_own : unfold_rows picture_signature (tbox_of book) limits.rows p ≡ rows_of_from picture_signature p 0 p.rows
  rows_own =
      unfolded_idle picture_signature (tbox_of book) sets_same p (readable_some limits s readable)
      (picture_parents limits s readable) wants_none limits.rows

  pub few_own : unfolded_few limits book s ≡ true
  unfolding unfolded_few unfolded_count
  few_own =
      le-leb (length (grown picture_signature (tbox_of book) p limits.rows)) limits.rows
      (omega (
        arith,
        readable_most limits s readable,
        copies_length picture_signature p (λ i. i) 0 p.rows,
        ap length (grown_idle picture_signature (tbox_of book) sets_same p (readable_some limits s readable)
            (picture_parents limits s readable) wants_none limits.rows),
      ))

  own_depth : (j : ℕ) → j < p.rows → depth (again p).parent j ≤ limits.depth
  own_depth j l =
      omega (
        arith,
        readable_depth limits s readable j l,
        depth_same p.parent (again p).parent j (λ k h. sym (ap (λ o. o.parent) (own_row p k (omega arith))))
            (λ k a b. picture_parents limits s readable k (omega arith) (λ e. omega arith)),
      )

  pub shallow_own : unfolded_shallow limits book s ≡ true
  unfolding unfolded_shallow
  shallow_own =
      subst (λ ws. each (λ j. leb (depth (table_of picture_signature ws).parent j) limits.depth) (length ws) 0 ≡ true)
      (sym rows_own)
      (at_each (λ j. leb (depth (again p).parent j) limits.depth) (again p).rows 0
      (λ j a b. le-leb (depth (again p).parent j) limits.depth
      (own_depth j (omega (arith, rows_length p 0 p.rows)))))

pub file_own : (limits : Limits) (book s : List ℕ) → wants_defined book s ≡ false → unfolded_file limits book s ≡ s
unfolding unfolded_file
file_own limits book s idle = rw idle
