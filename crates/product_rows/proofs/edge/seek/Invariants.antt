-- The loop goes along the links past every row that stands before the place.
use mathlib.Core.Path.{◌≡◌}
use Rattle.product_rows.specs.Siblings.{drop_lower, siblings}
use Rattle.product_rows.proofs.edge.seek.Given as goal

abbrev pub invariant-loop-e : goal.invariant-loop-e
invariant-loop-e l = record {
  table_kept : l.e-iterator.table ≡ l.walk.table;
  above_kept : l.e-iterator.above ≡ l.walk.above;
  rest :
      drop_lower l.walk.table.now.bytes.now l.key
      (siblings l.walk.table.now.bytes.now l.walk.table.now.rows l.walk.next)
      ≡ drop_lower l.walk.table.now.bytes.now l.key
      (siblings l.walk.table.now.bytes.now l.walk.table.now.rows l.e-iterator.next);
}
