-- The numbers are the same, or not.
use borrow.Author.Tests.{eq-eqb, ne_eqb}
use Rattle.row_sets.proofs.rows.only.Goals as goal

pub returns-then-i-j : goal.returns-then-i-j
returns-then-i-j c = simp (eq-eqb _ _ c.if-i-j.true)

pub returns-else-i-j : goal.returns-else-i-j
returns-else-i-j c = simp (ne_eqb _ _ c.if-i-j.false)
