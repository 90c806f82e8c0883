-- The loop goes along the rows that hang from row u, and the first all-successor of the role is the answer.
use mathlib.Core.Path.{◌≡◌}
use Rattle.homomorphism_search.proofs.Walks.{WalkAt}
use Rattle.table.specs.Fields.{parent_of}
use Rattle.refutation_writer.specs.Refuting.{value_row}
use Rattle.refutation_writer.proofs.RefutingTurns.{is_value}
use Rattle.refutation_writer.proofs.refute.value_row.Given as goal

abbrev pub invariant-loop-v : goal.invariant-loop-v
invariant-loop-v l =
    (l.v-iterator.table.now ≡ l.first)
    × WalkAt (parent_of l.first.bytes.now) l.first.rows l.u (is_value l.first.bytes.now l.role) 0
    (value_row l.first.bytes.now l.u l.role) l.v-iterator.next
