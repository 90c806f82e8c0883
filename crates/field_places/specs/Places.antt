-- The places of a book's fields, as the code keeps them. Nobody has to believe these.
--   tag_of     the tag of a book's fields
--   Located   the places of so many fields are kept, and they are in the file
--   Placed    and so many fields with a tag there are
use Rattle.std.specs.Prelude.{ℕ, ◌+◌, ◌≤◌, get_or, length, List, ◌≡◌}
use Rattle.fields.specs.Form.{field_count, field_place, most_fields}
use Rattle.field_places.specs.declared.places.BookKind.{BookKind}
use Rattle.field_places.specs.declared.places.BookKind.TheVariants.{Cards, Definitions}
use Rattle.field_places.specs.declared.places.Fields.{Fields}

abbrev pub tag_of : BookKind → ℕ
tag_of Cards = 0x51
tag_of Definitions = 0x61

pub record Located (file : List ℕ) (fields : Fields) : Type 0 where
  pub size : length fields.places ≡ most_fields + 1
  pub most : fields.count ≤ most_fields
  pub placed : (k : ℕ) → k ≤ fields.count → get_or fields.places k 0 ≡ field_place file k
  pub inside : (k : ℕ) → k ≤ fields.count → field_place file k ≤ length file

pub record Placed (tag : ℕ) (file : List ℕ) (fields : Fields) : Type 0 where
  pub located : Located file fields
  pub counted : fields.count ≡ field_count tag file
