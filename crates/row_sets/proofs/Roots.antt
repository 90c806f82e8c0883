-- The root: the merged tree that the code begins with is that of {root}.
--   rows_root       no row and row 0 are {root}
--   merged_root     the merged tree of that set
use Prim.Native.Nat.{◌<◌, suc, zero, ℕ}
use borrow.Author.Tests.{ne_eqb}
use mathlib.Core.Bool.{false}
use mathlib.Core.List.{List, [], ◌∷◌}
use mathlib.Core.Path.{◌≡◌, ap}
use native.Mathlib.Omega.{arith}
use Rattle.ale.proofs.RowLists.{filter_from_none}
use Rattle.ale.specs.Merged.{merged}
use Rattle.ale.specs.Rows.{filter_below}
use Rattle.ale.specs.PictureSignature.{picture_signature}
use Rattle.meaning.specs.Meaning.{picture_table}
use Rattle.meaning.specs.NormalTable.{merged_tree}
use Rattle.table.specs.declared.layout.Limits.{Limits}
use Rattle.row_sets.specs.Parts.{merged_at}
use Rattle.row_sets.specs.Rows.{also}

pub rows_root : (rows : ℕ) → 0 < rows → filter_below (also 0 (λ j. false)) rows ≡ 0 ∷ []
rows_root zero rooted = absurd (omega arith)
rows_root (suc n) rooted =
    ap (λ (l : List ℕ). 0 ∷ l) (filter_from_none (also 0 (λ j. false)) 1 n (λ j a b. rw (ne_eqb j 0 (λ e. omega arith)) tt))

pub merged_root : (limits : Limits) (s : List ℕ) (rows : ℕ) → 0 < rows →
    merged_at s rows limits.depth (also 0 (λ j. false)) ≡ merged_tree limits s
unfolding merged_at merged_tree
merged_root limits s rows rooted =
    ap (λ (l : List ℕ). merged picture_signature (picture_table s) limits.depth l) (rows_root rows rooted)
