-- What is asked of the pictures, and what is known before. Nobody has to believe these.
--   sizes_of       29 and 30 of pictures
--   pictures_all   27 to 30 of all
--   Reading       25 and 2 to 13 are answered yes of the book, and of what is given 2 to 13
--   Asking        and the definitions are found
--   Sizing        and 27 is answered yes of them
use Rattle.std.specs.Prelude.{ℕ, List, ◌++◌, ◌≡◌}
use Rattle.table.specs.declared.layout.Limits.{Limits}
use Rattle.ale.specs.PictureSignature.{picture_signature}
use Rattle.tbox.specs.Acyclic.{acyclic}
use Rattle.picture.specs.Asked.{and_then, Asked, yes}
use Rattle.picture.specs.declared.answer.Input.TheVariants.{Definitions}
use Rattle.definitions.specs.Asked.{Picture, asked_of, definitions_of, question, question_of, read_of}
use Rattle.definitions.specs.Tbox.{tbox_of}
use Rattle.definitions.specs.Unfolded.{excludes_none, unfolded_few, unfolded_shallow}
use Rattle.field_places.specs.declared.places.Fields.{Fields}
use Rattle.definitions_form.specs.Formed.{Formed}
use Rattle.definition_parts.specs.Tboxes.{Agreeing}
use Rattle.definition_parts.specs.declared.opened.Tbox.{Tbox}
use Rattle.definitions_asked.specs.Given.{Given}
use Rattle.definitions_asked.specs.Lots.{ReadLot}
use Rattle.definitions_asked.specs.Measures.{Known}
use Rattle.definitions_asked.specs.declared.lots.Lot.{Lot}

abbrev pub sizes_of : Limits → List ℕ → List Picture → Asked
sizes_of limits tbox ps =
    and_then (asked_of (question_of 29 (unfolded_few limits tbox)) ps)
    (asked_of (question_of 30 (unfolded_shallow limits tbox)) ps)

abbrev pub pictures_all : Limits → List ℕ → List Picture → Asked
pictures_all limits tbox given =
    and_then (asked_of (question_of 27 (excludes_none tbox)) (given ++ definitions_of tbox))
    (and_then (question 28 Definitions (acyclic picture_signature (tbox_of tbox)))
    (sizes_of limits tbox (given ++ definitions_of tbox)))

pub record Reading (limits : Limits) (tbox : List ℕ) (fields : Fields) (first : List ℕ) (rest : Lot) : Type 0 where
  pub given : Given limits first rest
  pub formed : Formed tbox fields
  pub reads : asked_of (read_of limits) (definitions_of tbox) ≡ yes

pub record Asking (limits : Limits) (tbox : Tbox) (fields : Fields) (first : List ℕ) (rest : Lot) : Type 0 where
  pub reading : Reading limits tbox.bytes.now fields first rest
  pub agrees : Agreeing (tbox_of tbox.bytes.now) tbox

pub record Sizing (limits : Limits) (tbox : Tbox) (first rest own : Lot) : Type 0 where
  pub known : Known limits tbox
  pub first_read : ReadLot limits first
  pub rest_read : ReadLot limits rest
  pub own_read : ReadLot limits own
