-- The end field says how long the file is, so the tag and the length that it begins with are there; each test that
-- fails decides.
use borrow.Author.Tests.{eq-eqb, ne_eqb}
use mathlib.Core.Bool.{true}
use mathlib.Core.Path.{◌≡◌, ◌∙◌, ap, sym}
use native.Mathlib.Omega.{arith}
use Rattle.table.specs.Fields.{ends_at}
use Rattle.homomorphism.specs.Layout.{«image_place»}
use Rattle.evidence.specs.Form.{map_form}
use Rattle.table.proofs.Rows.{ends_parts}
use Rattle.evidence_check.proofs.form.has_map_form.Goals as goal

pub returns-then-not-ends_at : goal.returns-then-not-ends_at
unfolding map_form
returns-then-not-ends_at c =
    let a = c.args in
    simp (ap (ends_at a.e.now) (sym c.image_place.ensures) ∙ sym c.ends_at.ensures ∙ c.if-not-ends_at.true)

pub bounds-e-0 : goal.bounds-e-0
bounds-e-0 c =
    let ends : ends_at c.args.e.now (image_place c.args.rows) ≡ true = ap (ends_at c.args.e.now) (sym c.image_place.ensures)
    ∙ sym c.ends_at.ensures
    ∙ c.if-not-ends_at.false in
    let a = c.args in
    omega (arith, (ends_parts a.e.now (image_place a.rows) (ends)).0)

pub load16-requires : goal.load16-requires
load16-requires c =
    let ends : ends_at c.args.e.now (image_place c.args.rows) ≡ true = ap (ends_at c.args.e.now) (sym c.image_place.ensures)
    ∙ sym c.ends_at.ensures
    ∙ c.if-not-ends_at.false in
    let a = c.args in
    omega (arith, (ends_parts a.e.now (image_place a.rows) (ends)).0)

pub returns-in-65 : goal.returns-in-65
unfolding map_form
returns-in-65 c =
    let ends : ends_at c.args.e.now (image_place c.args.rows) ≡ true = ap (ends_at c.args.e.now) (sym c.image_place.ensures)
    ∙ sym c.ends_at.ensures
    ∙ c.if-not-ends_at.false in
    simp (ends, eq-eqb _ _ c.in-65.is, c.load16.ensures.0)

pub returns-in-0-to-64 : goal.returns-in-0-to-64
unfolding map_form
returns-in-0-to-64 c =
    let ends : ends_at c.args.e.now (image_place c.args.rows) ≡ true = ap (ends_at c.args.e.now) (sym c.image_place.ensures)
    ∙ sym c.ends_at.ensures
    ∙ c.if-not-ends_at.false in
    simp (ends, ne_eqb _ _ c.in-0-to-64.in-0-to-64-own.rest.1)
