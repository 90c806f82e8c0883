-- A row, and then what hangs from it, along the links; what was written and what is left are always the whole. A
-- successor's tree is less deep.
use Prim.Native.Nat.{◌*◌, ◌+◌, ◌-◌}
use mathlib.Core.Path.{◌≡◌}
use Rattle.ale.specs.PictureSignature.{picture_signature}
use Rattle.ale.specs.Tree.{successors_of}
use Rattle.homomorphism_search.specs.Search.{tree_at}
use Rattle.product_rows.specs.Siblings.{forest_from}
use Rattle.product_rows.proofs.Growth.{Onward}
use Rattle.product_rows.proofs.copy.+copy.Given as goal

abbrev pub decreases-copy_below : goal.decreases-copy_below
decreases-copy_below l = 2 * l.depth

abbrev pub decreases-copy_tree : goal.decreases-copy_tree
decreases-copy_tree l = 2 * l.depth + 1

abbrev pub invariant-copy_below-loop-c : goal.invariant-copy_below-loop-c
invariant-copy_below-loop-c l = record {
  table_kept : l.c-iterator.table.now ≡ l.t;
  onward :
      Onward l.limit l.parent l.initial.grown l.initial.out (successors_of picture_signature
      (tree_at l.t.bytes.now l.depth l.v))
      (forest_from l.t.bytes.now l.t.rows (l.depth - 1) l.c-iterator.next) l.grown l.out;
}
