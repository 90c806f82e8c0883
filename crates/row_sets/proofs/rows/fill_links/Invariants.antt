-- At the loop's head the tables have the rows from j on. Each row becomes the lowest of its parent's.
use Rattle.table.specs.Bounds.{max_rows}
use Rattle.table.specs.Fields.{parent_of}
use Rattle.table_rows.proofs.Links.{LinkedFrom}
use Rattle.row_sets.proofs.rows.fill_links.Given as goal

abbrev pub invariant-loop-j : goal.invariant-loop-j
invariant-loop-j l = LinkedFrom (parent_of l.s) l.rows max_rows l.j l.links
