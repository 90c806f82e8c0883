-- The arm that was taken says which answer it is.
use mathlib.Core.Path.{◌∙◌, ap, sym}
use Rattle.interface.specs.Word.{verified_word}
use Rattle.answer_word.proofs.answers.verified_word.Goals as goal

pub returns-in-Err : goal.returns-in-Err
returns-in-Err c = c.refusal_word.ensures ∙ ap verified_word (sym c.in-Err.is)
