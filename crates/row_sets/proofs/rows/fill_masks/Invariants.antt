-- At the loop's head the table has the rows before j.
use Rattle.row_sets.proofs.Masks.{MaskedTo}
use Rattle.row_sets.proofs.rows.fill_masks.Given as goal

abbrev pub invariant-loop-j : goal.invariant-loop-j
invariant-loop-j l = MaskedTo l.s l.rows l.j l.masks
