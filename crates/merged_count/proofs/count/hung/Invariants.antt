-- At the loop's head what hangs from the rows of the set before those that are left has been collected.
use mathlib.Core.Bool.{◌&&◌}
use lib.Dec.{ltb}
use Rattle.row_sets.specs.Rows.{holds}
use Rattle.row_sets.proofs.Gathers.{FoundTo}
use Rattle.row_sets.proofs.MemberWalks.{Over}
use Rattle.merged_count.specs.Count.{HungFrom}
use Rattle.merged_count.proofs.count.hung.Given as goal

abbrev pub invariant-loop-j : goal.invariant-loop-j
invariant-loop-j l = record {
  over : Over l.fn.set l.table.rows l.j-iterator;
  first : FoundTo (holds l.fn.set) l.table.rows l.j-iterator.from l.first;
  hung : HungFrom l.table.bytes.now l.table.rows (λ k. ltb k l.j-iterator.from && holds l.fn.set k) l.successors;
}
