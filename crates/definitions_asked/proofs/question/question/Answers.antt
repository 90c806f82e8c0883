-- By the test.
use mathlib.Core.Path.{◌∙◌, ap, sym}
use Rattle.std.proofs.Common.{Err}
use Rattle.definitions.specs.Asked.{question}
use Rattle.definitions_asked.proofs.question.question.Goals as goal

pub returns : goal.returns
returns c =
    let a = c.args in
    ap Err c.refuse.ensures ∙ ap (λ b. question a.number a.input b) (sym c.if-passes.false)
