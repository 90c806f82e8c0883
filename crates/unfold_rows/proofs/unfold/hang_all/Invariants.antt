-- At the loop's head: once the names that are left are attached, all are (`Onward`).
use Prim.Native.Nat.{◌+◌, ◌≤◌}
use lib.ListN.{length}
use mathlib.Core.Path.{◌≡◌}
use Rattle.table.specs.NameValues.{set_of}
use Rattle.definition_parts.specs.Names.{names_of}
use Rattle.definition_parts.proofs.NameWalks.{Walk}
use Rattle.unfold_rows.proofs.Attaching.{Onward}
use Rattle.unfold_rows.proofs.unfold.hang_all.Given as goal

abbrev pub invariant-loop-name : goal.invariant-loop-name
invariant-loop-name l = record {
  few : l.grown.rows ≤ l.limit + 1;
  same_length : length l.out ≡ length l.initial.out;
  walk : Walk (set_of l.fn.taken) (names_of (set_of l.name-iterator.left));
  onward : Onward l.tbox.bytes.now l.tbox.starts.now (set_of l.fn.taken) l.i l.limit l.initial.grown.rows l.initial.out
      l.grown.rows l.out (names_of (set_of l.name-iterator.left));
}
