-- At the loop's head the rows that hang from row c and stand before the next have been added.
use mathlib.Core.Path.{◌≡◌}
use Rattle.row_sets.proofs.Links.{Walked}
use Rattle.row_sets.proofs.rows.Successors.add.Given as goal

abbrev pub invariant-loop-j : goal.invariant-loop-j
invariant-loop-j l =
    (l.j-iterator.table.now ≡ l.table)
    × Walked l.table.bytes.now l.table.rows l.c l.j-iterator.next l.initial.successors l.successors
