-- The table of a file is the table of its rows, so it has the same trees. Row 0's kind is written as the root's and says nothing.
--   name_set_same     sets with the same number are equal
--   set_at_set        a set read back from its number
--   kind_at_code      a kind read back from its byte
--   label_back       a label read back from its two numbers and its mark
--   ParentsFit       the parents of the rows after row 0 fit their field
--   parents_fit      so they do where parents come first and a row's number fits
--   file_table       the table of a file of rows says what the rows say
--   file_tree        so the tree of a row is the same
use Prim.Native.Nat.{◌<◌, ◌^◌, ◌≤◌, ℕ}
use borrow.Author.Tests.{ne_eqb}
use lib.Dec.{T, T_prop, eqb, ltb}
use lib.ListN.{length}
use mathlib.Core.Bool.{Bool, false, true}
use mathlib.Core.List.{List}
use mathlib.Core.Path.{◌≡◌, ap, refl, subst}
use native.Mathlib.Nat.{mod-eq_of_lt}
use native.Mathlib.Omega.{arith}
use Rattle.ale.proofs.SameTables.{SameTable, tree_of_same}
use Rattle.ale.specs.Encoding.{Row, table_of}
use Rattle.ale.specs.PictureSignature.{NameSet, below, picture_signature}
use Rattle.ale.specs.Table.{ParentsFirst, tree_of}
use Rattle.ale.specs.Tree.{Kind, Label, exists, forAll}
use Rattle.table.specs.Layout.{name_count, number_size}
use Rattle.meaning.specs.File.{file_of, kind_code, mark_code}
use Rattle.meaning.specs.Meaning.{kind_at, picture_table, set_at}
use Rattle.meaning.proofs.Files.{file_excluded, file_impossible, file_kind, file_parent, file_role, file_wanted, row_count_file_of, row_in}

pub name_set_same : (a b : NameSet) → a.set ≡ b.set → a ≡ b
name_set_same a b e =
    subst (λ n. (f : T (ltb n (2 ^ name_count))) → a ≡ record { set = n; fits = f }) e
    (λ f. ap (λ g. record { set = a.set; fits = g }) (T_prop (ltb a.set (2 ^ name_count)) a.fits f)) b.fits

pub set_at_set : (a : NameSet) → set_at a.set ≡ a
set_at_set a = name_set_same (set_at a.set) a (mod-eq_of_lt (below a))

pub kind_at_code : (k : Kind) → kind_at (kind_code k) ≡ k
kind_at_code exists = refl
kind_at_code forAll = refl

mark_back : (b : Bool) → eqb (mark_code b) 1 ≡ b
mark_back true = refl
mark_back false = refl

pub label_back : (l : Label picture_signature) →
    record { wanted = set_at l.wanted.set; excluded = set_at l.excluded.set; bottom = eqb (mark_code l.bottom) 1 } ≡ l
label_back l = rw (set_at_set l.wanted, set_at_set l.excluded, mark_back l.bottom)

abbrev pub ParentsFit : List (Row picture_signature) → Type 0
ParentsFit ws = (j : ℕ) → j < length ws → ¬ (j ≡ 0) → (row_in ws j).parent < 256 ^ number_size

pub parents_fit : (ws : List (Row picture_signature)) → ParentsFirst picture_signature (table_of picture_signature ws) →
    length ws ≤ 256 ^ number_size → ParentsFit ws
parents_fit ws up few j l z = omega (arith, up j l z)

module _ (ws : List (Row picture_signature)) (fit : ParentsFit ws) where
  pub file_table : SameTable picture_signature (picture_table (file_of ws)) (table_of picture_signature ws)
  file_table =
      let n = row_count_file_of ws in
      record {
        rows = n;
        labels = λ j b.
            let l : j < length ws = omega arith in
            rw (file_wanted ws j l, file_excluded ws j l, file_impossible ws j l) (label_back (row_in ws j).label);
        parents = λ j b z. let l : j < length ws = omega arith in file_parent ws j l (fit j l z);
        kinds = λ j b z.
            let l : j < length ws = omega arith in
            rw (file_kind ws j l, ne_eqb j 0 z) (kind_at_code (row_in ws j).kind);
        roles = λ j b z. file_role ws j (omega arith);
      }

  pub file_tree : (n i : ℕ) → i < length ws →
      tree_of picture_signature (picture_table (file_of ws)) n i ≡ tree_of picture_signature (table_of picture_signature ws) n i
  file_tree n i l = tree_of_same picture_signature (picture_table (file_of ws)) (table_of picture_signature ws) file_table n i (rw file_table.rows l)
