-- 25 by its two halves: the end field, and of every definition that it is named.
use mathlib.Core.Bool.{false, true}
use mathlib.Core.Path.{◌∙◌, refl, sym}
use borrow.Author.Tests.{tests}
use native.Mathlib.Omega.{arith}
use Rattle.std.proofs.Common.{rules}
use Rattle.std.proofs.lemmas.Iterator.{YieldsList-from_range}
use Rattle.std.proofs.lemmas.Iterator.Search.{all_from_yields_List}
use Rattle.table.proofs.Ranges.{each_listed}
use Rattle.definitions.specs.Form.{definition_tag, named}
use Rattle.definitions_form.proofs.NamedDefinitions.{form_by}
use Rattle.definitions_form.proofs.form.has_definitions_form.Goals as goal

pub has_form-requires : goal.has_form-requires
has_form-requires c = c.requires.located

pub returns-then-not-has_form : goal.returns-then-not-has_form
returns-then-not-has_form c =
    form_by c.args.tbox.now c.args.fields.count c.requires.counted false _
    (sym (c.has_form.ensures definition_tag c.requires.counted) ∙ c.if-not-has_form.true) refl

pub returns : goal.returns
returns c =
    let tbox = c.args.tbox.now in
    let n = c.args.fields.count in
    let all = all_from_yields_List (named tbox) _ _ _ c.all.ensures.ran (YieldsList-from_range 0 n n refl (omega arith))
    (λ x b q k. search (rules, tests)) in
    form_by tbox n c.requires.counted true _
    (sym (c.has_form.ensures definition_tag c.requires.counted) ∙ c.if-not-has_form.false)
    (sym (all ∙ each_listed (named tbox) n 0))
