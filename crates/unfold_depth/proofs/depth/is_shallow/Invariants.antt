-- At the loop's head the depths of the rows before row n are noted, and what is left to ask is the test from row n on.
use mathlib.Core.Path.{◌≡◌}
use Prim.Native.Nat.{◌-◌}
use lib.ListN.{length}
use Rattle.table.specs.Bounds.{max_rows}
use Rattle.table.specs.Range.{each}
use Rattle.picture_questions.specs.Depths.{Known}
use Rattle.unfold_depth.specs.Depths.{shallow}
use Rattle.unfold_depth.proofs.ShallowRows.{shallow_at}
use Rattle.unfold_depth.proofs.depth.is_shallow.Given as goal

abbrev pub invariant-loop-n : goal.invariant-loop-n
invariant-loop-n l = record {
  size : length l.depths ≡ max_rows;
  known : Known l.table l.n l.depths;
  rest : shallow l.table l.rows l.limit ≡ each (shallow_at l.table l.limit) (l.rows - l.n) l.n;
}
