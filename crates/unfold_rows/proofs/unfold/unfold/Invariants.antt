-- At the loop's head: the table has the rows after i of them have come up, or more than the limit (`Grows`).
use Prim.Native.Nat.{◌-◌, ◌≤◌}
use lib.ListN.{length}
use mathlib.Core.Path.{◌≡◌}
use Rattle.table.specs.NameValues.{set_of}
use Rattle.unfold_rows.proofs.Unfolding.{Grows}
use Rattle.unfold_rows.proofs.unfold.unfold.Given as goal

abbrev pub invariant-loop-i : goal.invariant-loop-i
invariant-loop-i l =
    (l.i ≤ l.limit)
    × (length l.out ≡ length l.initial.out)
    × Grows l.picture l.tbox.bytes.now l.tbox.starts.now (set_of l.tbox.defined) l.limit l.table.rows l.out l.i

abbrev pub decreases-loop-i : goal.decreases-loop-i
decreases-loop-i l = l.limit - l.i
