-- By the definition's two cases.
use mathlib.Core.Path.{◌∙◌, ap, sym}
use Rattle.picture.proofs.Exits.{exits}
use Rattle.picture.specs.Asked.{and_then}
use Rattle.definitions_asked.proofs.question.and_then.Goals as goal

pub returns-in_err-before : goal.returns-in_err-before
returns-in_err-before c =
    exits c.from_residual.result _ c.from_residual.ensures.1
    ∙ ap (λ a. and_then a c.args.next) (sym c.in_err-before.was)
