-- 01, "A map file: tag 41, length twice the second normal table's rows, one 2-byte image each; then the end field."
--   map_tag       the tag
--   image_place   where the image of row i stands; that of the row after the last is where the end field stands
--   image_of      the image of row i
use Rattle.std.specs.Prelude.{ℕ, ◌+◌, ◌*◌, List}
use Rattle.table.specs.Layout.{head_size, number_size}
use Rattle.table.specs.Number.{be}

abbrev pub map_tag : ℕ
map_tag = 0x41

abbrev pub image_place : ℕ → ℕ
image_place i = head_size + number_size * i

abbrev pub image_of : List ℕ → ℕ → ℕ
image_of e i = be e (image_place i) number_size
