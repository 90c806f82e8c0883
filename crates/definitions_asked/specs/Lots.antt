-- The pictures that are asked, by lots. Nobody has to believe these.
--   count_of, file_of, input_of   how many pictures there are; the bytes of picture k; how a refusal names it
--   lot_of                        the pictures of a lot
--   There                         the fields that the lot's pictures stand in are found
--   Askable                       and no picture is longer than the code can hold
--   ReadLot                       and 2 to 13 are answered yes of each
--   Asks                          what is answered of pictures in turn, after what was asked before
use Rattle.std.specs.Prelude.{◌<◌, ◌≤◌, ℕ, List, [], ◌≡◌}
use Rattle.table.specs.Bounds.{max_rows}
use Rattle.table.specs.declared.layout.Limits.{Limits}
use Rattle.picture.specs.Asked.{and_then, Asked}
use Rattle.picture.specs.Readable.{Readable, row_count}
use Rattle.picture.specs.declared.answer.Input.{Input}
use Rattle.picture.specs.declared.answer.Input.TheVariants as input
use Rattle.fields.specs.Form.{listed}
use Rattle.book.specs.Form.{card, card_tag}
use Rattle.definitions.specs.Asked.{Picture, asked_of}
use Rattle.definitions.specs.Form.{definition_file}
use Rattle.field_places.specs.Places.{Placed}
use Rattle.definitions_form.specs.Formed.{Formed}
use Rattle.definitions_asked.specs.declared.lots.Lot.{Lot}
use Rattle.definitions_asked.specs.declared.lots.Lot.TheVariants.{First, Nothing, Second, Cards, Definitions}

abbrev pub count_of : Lot → ℕ
count_of (First file) = 1
count_of Nothing = 0
count_of (Second file) = 1
count_of (Cards file fields) = fields.count
count_of (Definitions file fields) = fields.count

abbrev pub file_of : Lot → ℕ → List ℕ
file_of (First file) k = file.now
file_of Nothing k = []
file_of (Second file) k = file.now
file_of (Cards file fields) k = card file.now k
file_of (Definitions file fields) k = definition_file file.now k

abbrev pub input_of : Lot → ℕ → Input
input_of (First file) k = input.First
input_of Nothing k = input.Second
input_of (Second file) k = input.Second
input_of (Cards file fields) k = input.Card k
input_of (Definitions file fields) k = input.Definition k

abbrev pub picture_of : Lot → ℕ → Picture
picture_of lot k = record { input = input_of lot k; file = file_of lot k }

abbrev pub lot_of : Lot → List Picture
lot_of lot = listed (picture_of lot) (count_of lot) 0

abbrev pub There : Lot → Type 0
There (First file) = Unit
There Nothing = Unit
There (Second file) = Unit
There (Cards file fields) = Placed card_tag file.now fields
There (Definitions file fields) = Formed file.now fields

pub record Askable (lot : Lot) : Type 0 where
  pub there : There lot
  pub small : (k : ℕ) → k < count_of lot → row_count (file_of lot k) ≤ max_rows

pub record ReadLot (limits : Limits) (lot : Lot) : Type 0 where
  pub there : There lot
  pub readable : (k : ℕ) → k < count_of lot → Readable limits (file_of lot k)

abbrev pub Asks : (Picture → Asked) → List Picture → Asked → Asked → Type 0
Asks ask ps before r = r ≡ and_then before (asked_of ask ps)
