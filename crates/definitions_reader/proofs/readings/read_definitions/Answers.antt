use native.Mathlib.Omega.{arith}
use mathlib.Core.Path.{◌∙◌, ◌≡◌, ap, sym}
use Rattle.picture.proofs.Exits.{exits}
use Rattle.picture.proofs.ReadInTurn.{read_all, read_next, read_refused}
use Rattle.picture.specs.Read.{answer_of}
use Rattle.picture.specs.declared.answer.Input.TheVariants.{Definition}
use Rattle.definitions.specs.Asked.{read_of}
use Rattle.definitions.specs.Form.{definition_count, definition_file}
use Rattle.definitions.proofs.Questions.{of_definitions_is}
use Rattle.definitions_reader.proofs.readings.read_definitions.Goals as goal
use Rattle.definitions_reader.proofs.readings.read_definitions.Goals.{After-read}

says : (c : After-read) → c.read.result ≡ answer_of c.args.limits (Definition c.loop-k.k) (definition_file c.args.tbox.now c.loop-k.k)
says c = c.read.ensures ∙ ap (answer_of c.args.limits (Definition c.loop-k.k)) c.picture_of.ensures

pub loop-k-preserved : goal.loop-k-preserved
loop-k-preserved c =
    let t = c.args.tbox.now in
    read_next c.args.limits Definition (definition_file t) (definition_count t) c.loop-k.k c.loop-k.invariant
    (omega (arith, c.loop-k-test.true, c.requires.1.placed.counted)) c.read.result
    (says (goal.at.loop-k-preserved c).After-read) _ c.in_ok-read.was

pub returns-in_err-read : goal.returns-in_err-read
returns-in_err-read c =
    let t = c.args.tbox.now in
    exits c.from_residual.result _ c.from_residual.ensures.1
    ∙ read_refused c.args.limits Definition (definition_file t) (definition_count t) c.loop-k.k c.loop-k.invariant
    (omega (arith, c.loop-k-test.true, c.requires.1.placed.counted)) c.read.result
    (says (goal.at.returns-in_err-read c).After-read) _ c.in_err-read.was
    ∙ sym (of_definitions_is (read_of c.args.limits) t)

pub returns : goal.returns
returns c =
    let t = c.args.tbox.now in
    read_all c.args.limits Definition (definition_file t) (definition_count t) c.loop-k.k c.loop-k.invariant
    (omega (arith, c.loop-k-test.false, c.requires.1.placed.counted))
    ∙ sym (of_definitions_is (read_of c.args.limits) t)
