-- Each return follows from the tests on the way to it; once 5 and 6 were answered yes the row stands whole.
use borrow.Author.Tests.{lt-ltb, le-ltb, le-leb, lt-leb}
use Rattle.picture.specs.Questions.{row_field}
use mathlib.Core.Path.{sym}
use native.Mathlib.Omega.{arith}
use Rattle.picture_reader.proofs.field.row_field.Goals as goal

pub returns-then-limits-n : goal.returns-then-limits-n
unfolding row_field
returns-then-limits-n c =
    let a = c.args in
    simp (le-ltb a.n a.limits.rows (omega arith))

pub returns-then-s-place : goal.returns-then-s-place
unfolding row_field
returns-then-s-place c = rw (sym c.place.ensures) (simp (lt-ltb _ _ c.if-limits-n.false, lt-leb _ _ c.if-s-place.true))

pub value_field-requires : goal.value_field-requires
value_field-requires c =
    let pre = c.requires in
    (pre.0, ((omega arith, omega (arith, c.place.ensures)), pre.1))

pub returns : goal.returns
unfolding row_field
returns c = rw (sym c.place.ensures) (simp (lt-ltb _ _ c.if-limits-n.false, le-leb _ _ c.if-s-place.false) c.value_field.ensures)
