-- An individual, and then what hangs from it; there the walk along the links writes the some-successors one after the other, so what was written and
-- what is ahead are always the whole. A successor's tree is less deep.
use Prim.Native.Nat.{◌*◌, ◌+◌, ◌-◌}
use mathlib.Core.Path.{◌≡◌}
use Rattle.refutation_writer.proofs.Canonicals.{canonical_rows}
use Rattle.refutation_writer.proofs.Walks.{WalkAt}
use Rattle.refutation_writer.proofs.writer.+canonical.Given as goal

abbrev pub decreases-write_canonical : goal.decreases-write_canonical
decreases-write_canonical l = 2 * l.depth + 1

abbrev pub decreases-write_canonical_below : goal.decreases-write_canonical_below
decreases-write_canonical_below l = 2 * l.depth

abbrev pub invariant-write_canonical_below-loop-v : goal.invariant-write_canonical_below-loop-v
invariant-write_canonical_below-loop-v l =
    (l.v-iterator.table.now ≡ l.first)
    × WalkAt (canonical_rows l.first.bytes.now (l.depth - 1)) l.first.bytes.now l.first.rows l.u l.parent l.initial.out l.k
    l.next l.out l.v-iterator.next
