-- Each part writes the rows of the tree, or of the successors, that its definition gives at what the code has read, one after the other: an individual and
-- what hangs from it, a successor and the others. The row that no edge serves is what the search left (Misses). The remaining depth falls from
-- `write_falsified` to what hangs from the row.
use mathlib.Core.Path.{◌≡◌}
use Rattle.refutation_writer.specs.Refuting.{realized_rows}
use Rattle.refutation_writer.specs.Searches.{first_of, second_of}
use Rattle.refutation_writer.proofs.Walks.{WalkAt}
use Prim.Native.Nat.{◌*◌, ◌+◌}
use Rattle.refutation_writer.proofs.refute.+against.Given as goal

abbrev pub decreases-write_against : goal.decreases-write_against
decreases-write_against l = 4 * l.depth + 1

abbrev pub decreases-write_against_value : goal.decreases-write_against_value
decreases-write_against_value l = 4 * l.depth + 2

abbrev pub decreases-write_falsified : goal.decreases-write_falsified
decreases-write_falsified l = 4 * l.depth

abbrev pub decreases-write_reached : goal.decreases-write_reached
decreases-write_reached l = 4 * l.depth + 2

abbrev pub decreases-write_realized : goal.decreases-write_realized
decreases-write_realized l = 4 * l.depth + 3

abbrev pub invariant-write_realized-loop-v : goal.invariant-write_realized-loop-v
invariant-write_realized-loop-v l =
    (l.v-iterator.table.now ≡ l.search.first.now)
    × WalkAt (realized_rows (first_of l.search) (second_of l.search) l.depth l.c) (first_of l.search) l.search.first.now.rows l.u l.parent
    l.initial.out l.k l.next l.out l.v-iterator.next
