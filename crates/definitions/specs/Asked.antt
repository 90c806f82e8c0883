-- 02, U3, "Checks, after all reading and before the first 14, each over all pictures, given ones first, before the
-- next": the questions that a definitions book brings to a call, in their order.
--   Picture               a picture that is asked: which input it is, and its bytes
--   asked_of               one question of several pictures in turn, to the first no
--   definitions_of         the definitions of a book, in their order
--   read_of                2 to 13 of a picture
--   question, question_of  a question by its number and its test, of the input that it names; of a picture, and it names
--                         that
--   definitions_asked      all of them, in their order, where `given` are the pictures that the call was given, already
--                         read
use Rattle.std.specs.Prelude.{ℕ, Bool, List, [], ◌++◌, ◌∷◌}
use Rattle.table.specs.declared.layout.Limits.{Limits}
use Rattle.ale.specs.PictureSignature.{picture_signature}
use Rattle.tbox.specs.Acyclic.{acyclic}
use Rattle.picture.specs.Asked.{and_then, asked, read_asked, Asked, yes}
use Rattle.picture.specs.Refusal.{refusal}
use Rattle.picture.specs.declared.answer.Input.{Input}
use Rattle.picture.specs.declared.answer.Input.TheVariants.{Definition, Definitions}
use Rattle.fields.specs.Form.{listed}
use Rattle.definitions.specs.Form.{definition_count, definition_file, definitions_form}
use Rattle.definitions.specs.Tbox.{tbox_of}
use Rattle.definitions.specs.Unfolded.{excludes_none, named_once, unfolded_few, unfolded_shallow}

pub record Picture : Type 0 where
  pub input : Input
  pub file : List ℕ

unfoldable pub asked_of : (Picture → Asked) → List Picture → Asked
asked_of ask [] = yes
asked_of ask (p ∷ ps) = and_then (ask p) (asked_of ask ps)

abbrev pub definitions_of : List ℕ → List Picture
definitions_of book =
    listed (λ k. record { input = Definition k; file = definition_file book k }) (definition_count book) 0

abbrev pub read_of : Limits → Picture → Asked
read_of limits p = read_asked limits p.input p.file

abbrev pub question : ℕ → Input → Bool → Asked
question number input test = asked test (refusal number input)

abbrev pub question_of : ℕ → (List ℕ → Bool) → Picture → Asked
question_of number test p = question number p.input (test p.file)

unfoldable pub definitions_asked : Limits → List ℕ → List Picture → Asked
definitions_asked limits book given =
    and_then (question 25 Definitions (definitions_form book))
    (and_then (asked_of (read_of limits) (definitions_of book))
    (and_then (question 26 Definitions (named_once book))
    (and_then (asked_of (question_of 27 (excludes_none book)) (given ++ definitions_of book))
    (and_then (question 28 Definitions (acyclic picture_signature (tbox_of book)))
    (and_then (asked_of (question_of 29 (unfolded_few limits book)) (given ++ definitions_of book))
    (asked_of (question_of 30 (unfolded_shallow limits book)) (given ++ definitions_of book)))))))
