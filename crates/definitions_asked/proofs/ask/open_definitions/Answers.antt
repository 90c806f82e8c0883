-- The end field alone; a no of 25 or of 2 to 13; or what is left to ask.
use mathlib.Core.Path.{◌∙◌, refl, sym}
use Rattle.picture.proofs.Exits.{exits}
use Rattle.definitions_asked.specs.Given.{given_of}
use Rattle.definitions_asked.proofs.Openings.{opens_empty, refused_form, refused_reading}
use Rattle.definitions_asked.proofs.ask.open_definitions.Goals as goal

pub returns-then-ends_at : goal.returns-then-ends_at
returns-then-ends_at c =
    let a = c.args in
    opens_empty a.tbox.now (sym c.ends_at.ensures ∙ c.if-ends_at.true) a.limits a.first.now a.rest.now c.requires
    _ refl c.none.ensures

pub returns-then-not-has_definitions_form : goal.returns-then-not-has_definitions_form
returns-then-not-has_definitions_form c =
    let a = c.args in
    rw c.refuse.ensures
    (refused_form a.limits a.tbox.now (given_of a.first.now a.rest.now)
    (sym c.has_definitions_form.ensures ∙ c.if-not-has_definitions_form.true))

pub returns-in_err-read_definitions : goal.returns-in_err-read_definitions
returns-in_err-read_definitions c =
    let a = c.args in
    rw (exits c.from_residual.result _ c.from_residual.ensures.1)
    (refused_reading a.limits a.tbox.now (given_of a.first.now a.rest.now)
    (sym c.has_definitions_form.ensures ∙ c.if-not-has_definitions_form.false) _
    (sym c.read_definitions.ensures ∙ c.in_err-read_definitions.was))
