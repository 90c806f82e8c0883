-- 29 and 30 of pictures in one pass. Nobody has to believe these.
--   Known           the definitions are found, and they are such as the theory asks for
--   Measurable      and a picture is readable
--   LotMeasurable   so are those of a lot
--   one             a picture alone
--   Measured        29 is answered of pictures in turn, and 30 where 29 is answered yes
use Rattle.std.specs.Prelude.{ℕ, List, [], ◌∷◌, ◌≡◌}
use Rattle.table.specs.Bounds.{Bounded}
use Rattle.table.specs.declared.layout.Limits.{Limits}
use Rattle.ale.specs.PictureSignature.{picture_signature}
use Rattle.tbox.proofs.Origins.{Sound}
use Rattle.picture.specs.Asked.{yes}
use Rattle.picture.specs.Readable.{Readable}
use Rattle.picture.specs.declared.answer.Input.{Input}
use Rattle.definitions.specs.Asked.{Picture, question_of}
use Rattle.definitions.specs.Tbox.{tbox_of}
use Rattle.definitions.specs.Unfolded.{unfolded_few, unfolded_shallow}
use Rattle.definition_parts.specs.Tboxes.{Agreeing}
use Rattle.definition_parts.specs.declared.opened.Tbox.{Tbox}
use Rattle.definitions_asked.specs.Lots.{Asks, ReadLot}
use Rattle.definitions_asked.specs.declared.lots.Lot.{Lot}
use Rattle.definitions_asked.specs.declared.measure.Progress.{Progress}

pub record Known (limits : Limits) (tbox : Tbox) : Type 0 where
  pub bounded : Bounded limits
  pub agrees : Agreeing (tbox_of tbox.bytes.now) tbox
  pub sound : Sound picture_signature (tbox_of tbox.bytes.now)

pub record Measurable (limits : Limits) (tbox : Tbox) (picture : List ℕ) : Type 0 where
  pub known : Known limits tbox
  pub readable : Readable limits picture

pub record LotMeasurable (limits : Limits) (tbox : Tbox) (lot : Lot) : Type 0 where
  pub known : Known limits tbox
  pub read : ReadLot limits lot

abbrev pub one : Input → List ℕ → List Picture
one input file = record { input = input; file = file } ∷ []

pub record Measured (limits : Limits) (tbox : List ℕ) (ps : List Picture) (before r : Progress) : Type 0 where
  pub few : Asks (question_of 29 (unfolded_few limits tbox)) ps before.few r.few
  pub shallow : r.few ≡ yes → Asks (question_of 30 (unfolded_shallow limits tbox)) ps before.shallow r.shallow
