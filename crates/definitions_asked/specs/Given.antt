-- What a call is given, and what is found once the questions of a definitions book are asked of it. Nobody has to
-- believe these.
--   given_of   the first picture, and those beside it
--   Given      they have passed 2 to 13
--   Opens      what is asked is answered, and where all is yes the definitions are found
use Rattle.std.specs.Prelude.{ℕ, Err, List, MatchResult, Result, ◌∷◌, ◌≡◌}
use Rattle.table.specs.Bounds.{Bounded}
use Rattle.table.specs.NameValues.{set_of}
use Rattle.table.specs.declared.layout.Limits.{Limits}
use Rattle.picture.specs.Asked.{yes}
use Rattle.picture.specs.Readable.{Readable}
use Rattle.picture.specs.declared.answer.Input.TheVariants.{First}
use Rattle.picture.specs.declared.answer.Refusal.{Refusal}
use Rattle.definitions.specs.Asked.{Picture, definitions_asked}
use Rattle.definitions_reader.specs.declared.index.Index.{Index}
use Rattle.unfold_tables.specs.Ready.{Ready}
use Rattle.definitions_asked.specs.Lots.{ReadLot, lot_of}
use Rattle.definitions_asked.specs.declared.lots.Lot.{Lot}

abbrev pub given_of : List ℕ → Lot → List Picture
given_of first rest = record { input = First; file = first } ∷ lot_of rest

pub record Given (limits : Limits) (first : List ℕ) (rest : Lot) : Type 0 where
  pub bounded : Bounded limits
  pub first_read : Readable limits first
  pub rest_read : ReadLot limits rest

abbrev pub Opens : Limits → List ℕ → List Picture → Result Index Refusal → Type 0
Opens limits tbox given r =
    MatchResult r
    (λ index. (definitions_asked limits tbox given ≡ yes) × Ready limits tbox index.starts (set_of index.defined))
    (λ refusal. definitions_asked limits tbox given ≡ Err refusal)
