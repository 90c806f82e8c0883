-- Each return follows from the tests on the way to it.
use borrow.Author.Tests.{eq-eqb, ne_eqb, lt-ltb}
use Rattle.picture.specs.Questions.{end_field}
use mathlib.Core.Path.{sym}
use native.Mathlib.Omega.{arith}
use Rattle.picture_reader.proofs.field.end_field.Goals as goal

pub returns-then-n-eq0 : goal.returns-then-n-eq0
unfolding end_field
returns-then-n-eq0 c = simp c.if-n-eq0.true

pub returns-then-s-place : goal.returns-then-s-place
unfolding end_field
returns-then-s-place c = rw (sym c.place.ensures) (simp (lt-ltb 0 c.args.n (omega (arith, c.if-n-eq0.false)), eq-eqb _ _ c.if-s-place.true))

pub returns-else-s-place : goal.returns-else-s-place
unfolding end_field
returns-else-s-place c = rw (sym c.place.ensures) (simp (lt-ltb 0 c.args.n (omega (arith, c.if-n-eq0.false)), ne_eqb _ _ c.if-s-place.false))
