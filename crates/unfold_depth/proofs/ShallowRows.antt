-- The test of depths, row by row.
--   shallow_at      the test of one row
--   shallow_hangs   each row but row 0 hangs from one before it
--   shallow_root   row 0 passes, so the test is that of the other rows
use Prim.Native.Nat.{◌-◌, ◌<◌, suc, zero, ℕ}
use borrow.Author.Tests.{le-leb}
use lib.Dec.{leb}
use mathlib.Core.Bool.{Bool, true}
use mathlib.Core.List.{List}
use mathlib.Core.Path.{◌∙◌, ◌≡◌, ap, refl, sym}
use native.Mathlib.Nat.{sub-zero}
use native.Mathlib.Omega.{arith}
use Rattle.table.proofs.Ranges.{each_on}
use Rattle.table.specs.Fields.{parent_of}
use Rattle.table.specs.Range.{each}
use Rattle.picture.proofs.Depths.{depth_root}
use Rattle.picture.proofs.Questions.{ok_parent}
use Rattle.picture.specs.Depth.{depth}
use Rattle.picture.specs.Questions.{parent_ok}
use Rattle.unfold_depth.specs.Depths.{Hung, shallow}

abbrev pub shallow_at : List ℕ → ℕ → ℕ → Bool
shallow_at table limit j = leb (depth (parent_of table) j) limit

pub shallow_hangs : (table : List ℕ) (rows limit : ℕ) → Hung table rows limit → (j : ℕ) → 0 < j → j < rows →
    parent_ok j (parent_of table j) ≡ true
shallow_hangs table rows limit hung j some l =
    ok_parent j (parent_of table j) (λ e. omega arith) (hung.ordered j (λ e. omega arith) l)

pub shallow_root : (table : List ℕ) (rows limit : ℕ) →
    shallow table rows limit ≡ each (shallow_at table limit) (rows - 1) 1
unfolding each
shallow_root table zero limit = refl
shallow_root table (suc rows) limit =
    ap (λ n. each (shallow_at table limit) n 0) (sym (sub-zero (suc rows)))
    ∙ each_on (shallow_at table limit) (suc rows) 0 (omega arith)
    (ap (λ d. leb d limit) (depth_root (parent_of table)) ∙ le-leb 0 limit (omega arith))
