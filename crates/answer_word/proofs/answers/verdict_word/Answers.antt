-- The arm that was taken says which answer it is.
use native.Mathlib.Omega.{arith}
use mathlib.Core.Path.{◌∙◌, ap, sym}
use Rattle.std.proofs.Common.{Ok}
use Rattle.interface.specs.Word.{verdict_word}
use Rattle.answer_word.proofs.answers.verdict_word.Goals as goal

pub value_word-requires : goal.value_word-requires
value_word-requires c = (omega arith, (c.requires c.in-Ok-Yes.n).0 (c.in-Ok-Yes.is ∙ ap Ok (rw c.in-Ok-Yes.is at c.in-Ok-Yes.field-0-is)))

pub value_word-requires-in-Ok-No : goal.value_word-requires-in-Ok-No
value_word-requires-in-Ok-No c = (omega arith, (c.requires c.in-Ok-No.n).1 (c.in-Ok-No.is ∙ ap Ok (rw c.in-Ok-No.is at c.in-Ok-No.field-0-is)))

pub returns-in-Ok-Yes : goal.returns-in-Ok-Yes
returns-in-Ok-Yes c = c.value_word.ensures ∙ ap verdict_word (sym (c.in-Ok-Yes.is ∙ ap Ok (rw c.in-Ok-Yes.is at c.in-Ok-Yes.field-0-is)))

pub returns-in-Ok-No : goal.returns-in-Ok-No
returns-in-Ok-No c = c.value_word-in-Ok-No.ensures ∙ ap verdict_word (sym (c.in-Ok-No.is ∙ ap Ok (rw c.in-Ok-No.is at c.in-Ok-No.field-0-is)))

pub returns-in-Err : goal.returns-in-Err
returns-in-Err c = c.refusal_word.ensures ∙ ap verdict_word (sym c.in-Err.is)
