-- 01, question 16: "Does the file have one of the two forms, exactly, to its last byte?" The form of a refutation is
-- countermodel's (Individual: `refutationForm`).
--   map_form   a map of so many rows: its length says twice as many bytes, then the end field, and the file stops there
use Rattle.std.specs.Prelude.{ℕ, ◌*◌, eqb, get_or, Bool, ◌&&◌, List}
use Rattle.table.specs.Fields.{ends_at}
use Rattle.table.specs.Layout.{length_offset, number_size}
use Rattle.table.specs.Number.{be}
use Rattle.homomorphism.specs.Layout.{image_place, map_tag}

unfoldable pub map_form : ℕ → List ℕ → Bool
map_form rows e = ends_at e (image_place rows) && (eqb (get_or e 0 0) map_tag && eqb (be e length_offset number_size) (number_size * rows))
