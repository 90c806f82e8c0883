-- The form decides which questions are asked, and what they need of the file.
use mathlib.Core.Bool.{false}
use mathlib.Core.Path.{◌∙◌, ◌≡◌, ap, sym}
use Rattle.std.proofs.Common.{Err, Ok}
use Rattle.picture.proofs.Exits.{exits}
use Rattle.picture.proofs.Orders.{on_no, on_yes}
use Rattle.refutation_reader.proofs.Individuals.{form_individuals}
use Rattle.evidence.specs.Form.{map_form}
use Rattle.evidence.specs.declared.check.Taken.TheVariants.{Map, Refutation}
use Rattle.evidence_check.proofs.CheckLaws.{check_map, check_neither, check_refutation}
use Rattle.evidence_check.proofs.check.check.Goals as goal

pub map_asked-requires : goal.map_asked-requires
map_asked-requires c =
    let (bounded, (first, second)) = c.requires in
    (first, (second, sym c.has_map_form.ensures ∙ c.if-has_map_form.true))

pub returns-then-has_map_form : goal.returns-then-has_map_form
returns-then-has_map_form c =
    let a = c.args in
    sym (check_map a.first.now a.second.now a.e.now a.limits a.m c.requires.1.1.counted
    (sym c.has_map_form.ensures ∙ c.if-has_map_form.true)
    ∙ on_yes (Ok Map) _ (sym c.map_asked.ensures ∙ c.in_ok-map_asked.was))

pub returns-in_err-map_asked : goal.returns-in_err-map_asked
returns-in_err-map_asked c =
    let a = c.args in
    exits c.from_residual.result _ c.from_residual.ensures.1
    ∙ sym (check_map a.first.now a.second.now a.e.now a.limits a.m c.requires.1.1.counted
    (sym c.has_map_form.ensures ∙ c.if-has_map_form.true)
    ∙ on_no (Ok Map) _ _ (sym c.map_asked.ensures ∙ c.in_err-map_asked.was))

pub refutation_asked-requires : goal.refutation_asked-requires
refutation_asked-requires c =
    let a = c.args in
    let (bounded, (first, second)) = c.requires in
    let form = sym c.has_refutation_form.ensures ∙ c.if-has_refutation_form.true in
    (first, (second, rw c.count.ensures (form_individuals a.limits a.e.now bounded form)))

pub returns-then-has_refutation_form : goal.returns-then-has_refutation_form
returns-then-has_refutation_form c =
    let a = c.args in
    sym (check_refutation a.first.now a.second.now a.e.now a.limits a.m
    c.requires.1.1.counted (sym c.has_map_form.ensures ∙ c.if-has_map_form.false)
    (sym c.has_refutation_form.ensures ∙ c.if-has_refutation_form.true)
    ∙ on_yes (Ok Refutation) _ (sym c.refutation_asked.ensures ∙ c.in_ok-refutation_asked.was))

pub returns-in_err-refutation_asked : goal.returns-in_err-refutation_asked
returns-in_err-refutation_asked c =
    let a = c.args in
    exits c.from_residual-in_err-refutation_asked.result _ c.from_residual-in_err-refutation_asked.ensures.1
    ∙ sym (check_refutation a.first.now a.second.now a.e.now a.limits a.m
    c.requires.1.1.counted (sym c.has_map_form.ensures ∙ c.if-has_map_form.false)
    (sym c.has_refutation_form.ensures ∙ c.if-has_refutation_form.true)
    ∙ on_no (Ok Refutation) _ _ (sym c.refutation_asked.ensures ∙ c.in_err-refutation_asked.was))

pub returns : goal.returns
returns c =
    let other : let a = c.args in map_form a.m a.e.now ≡ false = sym c.has_map_form.ensures ∙ c.if-has_map_form.false in
    let a = c.args in
    ap Err c.refusal_by.ensures
    ∙ sym (check_neither a.first.now a.second.now a.e.now a.limits a.m
    c.requires.1.1.counted (other)
    (sym c.has_refutation_form.ensures ∙ c.if-has_refutation_form.false))
