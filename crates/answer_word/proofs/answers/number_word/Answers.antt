-- The arm that was taken says which answer it is.
use mathlib.Core.Path.{◌∙◌, ap, sym}
use Rattle.interface.specs.Word.{number_word}
use Rattle.answer_word.proofs.answers.number_word.Goals as goal

pub returns-in-Ok : goal.returns-in-Ok
returns-in-Ok c = c.value_word.ensures ∙ ap number_word (sym c.in-Ok.is)

pub returns-in-Err : goal.returns-in-Err
returns-in-Err c = c.refusal_word.ensures ∙ ap number_word (sym c.in-Err.is)
