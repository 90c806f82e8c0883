-- Each return follows from the tests on the way to it: the head's bytes, the tag, the length.
use borrow.Author.Tests.{eq-eqb, ne_eqb, le-leb, lt-leb}
use Rattle.picture.specs.Questions.{field_at}
use Rattle.table.specs.Layout.{head_size, «place»}
use lib.ListN.{length}
use mathlib.Core.Path.{sym, ◌∙◌}
use native.Mathlib.Omega.{arith}
use Rattle.picture_reader.proofs.field.field_at.Goals as goal

pub returns-then-s-place : goal.returns-then-s-place
unfolding field_at
returns-then-s-place c =
    let a = c.args in
    simp (lt-leb (place a.n head_size) (length a.s.now) (omega (arith, c.place.ensures, c.if-s-place.true)))

pub returns-then-not-tag_ok : goal.returns-then-not-tag_ok
unfolding field_at
returns-then-not-tag_ok c = rw (sym c.place.ensures, sym c.tag-tag.ensures) (simp (le-leb _ _ c.if-s-place.false, sym c.tag_ok.ensures ∙ c.if-not-tag_ok.true))

pub returns-then-said_length-length_for : goal.returns-then-said_length-length_for
unfolding field_at
returns-then-said_length-length_for c = rw (sym c.place.ensures, sym c.tag-tag.ensures, sym c.said_length.ensures.0, sym c.length_for.ensures) (simp (le-leb _ _ c.if-s-place.false, sym c.tag_ok.ensures ∙ c.if-not-tag_ok.false, ne_eqb _ _ c.if-said_length-length_for.true))

pub returns-in-16 : goal.returns-in-16
unfolding field_at
returns-in-16 c = rw (sym c.place.ensures, sym c.tag-tag.ensures, sym c.said_length.ensures.0, sym c.length_for.ensures) (simp (le-leb _ _ c.if-s-place.false, sym c.tag_ok.ensures ∙ c.if-not-tag_ok.false, eq-eqb _ _ c.if-said_length-length_for.false, eq-eqb _ _ c.in-16.is) c.row_field.ensures)

pub returns-in-0-to-15 : goal.returns-in-0-to-15
unfolding field_at
returns-in-0-to-15 c = rw (sym c.place.ensures, sym c.tag-tag.ensures, sym c.said_length.ensures.0, sym c.length_for.ensures) (simp (le-leb _ _ c.if-s-place.false, sym c.tag_ok.ensures ∙ c.if-not-tag_ok.false, eq-eqb _ _ c.if-said_length-length_for.false, ne_eqb _ _ c.in-0-to-15.in-0-to-15-own.rest.1) c.end_field.ensures)
