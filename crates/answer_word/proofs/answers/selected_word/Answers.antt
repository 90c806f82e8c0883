-- The arm that was taken says which answer it is.
use mathlib.Core.Path.{◌∙◌, ap, sym}
use Rattle.interface.specs.Word.{selected_word}
use Rattle.answer_word.proofs.answers.selected_word.Goals as goal

pub returns-in-Ok : goal.returns-in-Ok
returns-in-Ok c = c.value_word.ensures ∙ ap selected_word (sym c.in-Ok.is)

pub returns-in-Err : goal.returns-in-Err
returns-in-Err c = c.refusal_word.ensures ∙ ap selected_word (sym c.in-Err.is)
