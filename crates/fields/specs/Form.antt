-- A file of fields with one tag, and the end field: 01, "A card book: 0 to 32 fields tag 51 .. then the end field"; 02,
-- U3, "up to 32 fields tag 61 .. and the end field".
--   most_fields             how many fields a book may have
--   length_said             the length that the head at a place says
--   place_after              where the field after the one at a place begins, by that length
--   field_place             where field k begins
--   field_value             the value of field k
--   field_with              a whole field with a tag stands at a place
--   fields_from, field_count how many such fields stand at the start of the file, up to the most that it may have
--   fields_form             the end field stands after them, and the file stops there
--   listed                 what is given of `more` fields from field k on, as a list
use Rattle.std.specs.Prelude.{ℕ, zero, suc, ◌+◌, eqb, leb, drop, get_or, length, take, Bool, ◌&&◌, List, [], ◌∷◌}
use Rattle.table.specs.Fields.{ends_at}
use Rattle.table.specs.Layout.{head_size, length_offset, number_size}
use Rattle.table.specs.Number.{be}
use Rattle.table.specs.Pick.{pick}

abbrev pub most_fields : ℕ
most_fields = 32

abbrev pub length_said : List ℕ → ℕ → ℕ
length_said file at = be file (at + length_offset) number_size

abbrev pub place_after : List ℕ → ℕ → ℕ
place_after file at = at + head_size + length_said file at

unfoldable pub field_place : List ℕ → ℕ → ℕ
field_place file zero = 0
field_place file (suc k) = place_after file (field_place file k)

unfoldable pub field_value : List ℕ → ℕ → List ℕ
field_value file k = take (length_said file (field_place file k)) (drop (field_place file k + head_size) file)

unfoldable pub field_with : ℕ → List ℕ → ℕ → Bool
field_with tag file at = eqb (get_or file at 0) tag && leb (place_after file at) (length file)

-- of `more` fields from field k on
unfoldable pub fields_from : ℕ → List ℕ → ℕ → ℕ → ℕ
fields_from tag file zero k = k
fields_from tag file (suc more) k = pick (field_with tag file (field_place file k)) (fields_from tag file more (k + 1)) k

unfoldable pub field_count : ℕ → List ℕ → ℕ
field_count tag file = fields_from tag file most_fields 0

unfoldable pub fields_form : ℕ → List ℕ → Bool
fields_form tag file = ends_at file (field_place file (field_count tag file))

abbrev pub listed : {A : Type 0} → (ℕ → A) → ℕ → ℕ → List A
listed f zero k = []
listed f (suc more) k = f k ∷ listed f more (k + 1)
