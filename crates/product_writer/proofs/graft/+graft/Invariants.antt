-- A pair of rows is made of the names that both have and the pairs of their successors, which one pass along both
-- tables finds; what was written and what is
-- left are always the whole. A pair of successors is less deep. Where one row has no successors there is no pair of
-- them, and the row is a leaf.
use Prim.Native.Nat.{◌*◌, ◌+◌, ◌-◌}
use mathlib.Core.Path.{◌≡◌}
use Rattle.product_writer.specs.Tables.{pairs_below, pairs_from}
use Rattle.product_writer.proofs.Pairings.{EachAt, PairsAt}
use Rattle.product_writer.proofs.graft.+graft.Given as goal

abbrev pub decreases-graft : goal.decreases-graft
decreases-graft l = 4 * l.depth + 2

abbrev pub decreases-graft_each : goal.decreases-graft_each
decreases-graft_each l = 4 * l.depth + 4

abbrev pub decreases-graft_pair : goal.decreases-graft_pair
decreases-graft_pair l = 4 * l.depth + 3

abbrev pub decreases-graft_pairs : goal.decreases-graft_pairs
decreases-graft_pairs l = 4 * l.depth + 1

abbrev pub invariant-graft_each-loop-v : goal.invariant-graft_each-loop-v
invariant-graft_each-loop-v l = record {
  table_kept : l.v-iterator.table.now ≡ l.rest.table.now;
  at :
      EachAt l.first.bytes.now l.rest.table.now.bytes.now l.rest.table.now.rows l.depth l.limit l.parent l.initial.grown
      l.initial.out
      (pairs_from l.first.bytes.now l.rest.table.now.bytes.now l.rest.table.now.rows l.depth l.c l.rest.next) l.c
      l.v-iterator.next l.grown l.out;
}

abbrev pub invariant-graft_pairs-loop-c : goal.invariant-graft_pairs-loop-c
invariant-graft_pairs-loop-c l = record {
  table_kept : l.c-iterator.table.now ≡ l.first;
  rest_kept : l.rest.table.now ≡ l.second;
  at :
      PairsAt l.first.bytes.now l.second.bytes.now l.second.rows
      (l.depth - 1) l.limit l.parent l.initial.grown l.initial.out
      (pairs_below l.first.bytes.now l.second.bytes.now l.depth l.u l.w) l.first.rows l.c-iterator.next l.rest.next
      l.grown l.out;
}
