-- At the loop's head the rows of the set before those that are left have been collected.
use Rattle.row_sets.specs.Rows.{holds}
use Rattle.row_sets.proofs.Gathers.{Gathered}
use Rattle.row_sets.proofs.MemberWalks.{Over}
use Rattle.row_sets.proofs.values.gather.Given as goal

abbrev pub invariant-loop-j : goal.invariant-loop-j
invariant-loop-j l = record {
  over : Over l.fn.set l.table.rows l.j-iterator;
  gathered : Gathered l.table.bytes.now l.table.rows (holds l.fn.set) l.j-iterator.from l.values;
}
