-- The reading is that of the first field, and of the second after a row. What would follow the second does not matter:
-- there is no room for a second row.
use mathlib.Core.Path.{ap, refl, sym, ◌∙◌}
use native.Mathlib.Omega.{arith}
use Rattle.std.proofs.Common.{Ok}
use Rattle.picture.proofs.Exits.{exits}
use Rattle.picture.specs.Questions.{field_at}
use Rattle.picture.proofs.Scans.{close_ok, located_err, located_ok, reading_first, reading_second, rest_same}
use Rattle.picture_questions.proofs.Depths.{known_root}
use Rattle.picture_reader.proofs.read.scan_one.Goals as goal

pub field_after-requires-in-Row : goal.field_after-requires-in-Row
field_after-requires-in-Row c = (c.requires.0, (omega arith, known_root _ _ refl))

pub returns-in_err-field_after : goal.returns-in_err-field_after
returns-in_err-field_after c =
    let args = c.args in
    exits c.from_residual.result _ c.from_residual.ensures.1
    ∙ sym (reading_first args.limits args.s.now
    ∙ located_err (field_at args.limits args.s.now 0) 0 _ _ (sym c.field_after.ensures ∙ c.in_err-field_after.was))

pub returns-in_err-field_after-in-Row : goal.returns-in_err-field_after-in-Row
returns-in_err-field_after-in-Row c =
    let args = c.args in
    let limits = args.limits in
    let s = args.s.now in
    exits c.from_residual-in_err-field_after-in-Row.result _ c.from_residual-in_err-field_after-in-Row.ensures.1
    ∙ sym (reading_second limits s _ (located_ok (field_at limits s 0) 0 _ (sym c.field_after.ensures ∙ c.in_ok-field_after.was) ∙ ap Ok c.in-Row.is)
    ∙ located_err (field_at limits s 1) 1 _ _ (sym c.field_after-in-Row.ensures ∙ c.in_err-field_after-in-Row.was))

pub returns-in_ok-field_after-in-Row : goal.returns-in_ok-field_after-in-Row
returns-in_ok-field_after-in-Row c =
    let args = c.args in
    let limits = args.limits in
    let s = args.s.now in
    let second = located_ok (field_at limits s 1) 1 _ (sym c.field_after-in-Row.ensures ∙ c.in_ok-field_after-in-Row.was) in
    sym
    (reading_second limits s _ (located_ok (field_at limits s 0) 0 _ (sym c.field_after.ensures ∙ c.in_ok-field_after.was) ∙ ap Ok c.in-Row.is)
    ∙ rest_same limits s (field_at limits s 1) 1 _ (Ok 1) refl (λ r. absurd (omega (arith, r.whole)))
    ∙ rw second (close_ok _ 1))

pub returns-in-End : goal.returns-in-End
returns-in-End c =
    let args = c.args in
    sym (reading_first args.limits args.s.now
    ∙ rw (located_ok (field_at args.limits args.s.now 0) 0 _ (sym c.field_after.ensures ∙ c.in_ok-field_after.was), c.in-End.is) refl)
