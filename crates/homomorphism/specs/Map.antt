-- The map that we write, as a file. p is the first table, q the second.
--   image_bytes   the images of the rows below n, two bytes each
--   map_file      01: tag 41, length twice the rows, the images, the end field
--   lowest_map    01, "Our map takes the lowest possible row each time, parents first" (ale, RowMap: `image`)
use Rattle.std.specs.Prelude.{ℕ, zero, suc, ◌*◌, List, [], ◌++◌, ◌∷◌}
use Rattle.table.specs.Fields.{end_bytes}
use Rattle.table.specs.Layout.{number_size}
use Rattle.table.specs.Number.{be_bytes}
use Rattle.ale.specs.PictureSignature.{picture_signature}
use Rattle.ale.specs.RowMap.{image}
use Rattle.ale.specs.Table.{Table}
use Rattle.homomorphism.specs.Layout.{map_tag}

abbrev pub image_bytes : (ℕ → ℕ) → ℕ → List ℕ
image_bytes im zero = []
image_bytes im (suc n) = image_bytes im n ++ be_bytes number_size (im n)

unfoldable pub map_file : ℕ → (ℕ → ℕ) → List ℕ
map_file rows im = (map_tag ∷ be_bytes number_size (number_size * rows)) ++ (image_bytes im rows ++ end_bytes)

unfoldable pub lowest_map : Table picture_signature → Table picture_signature → List ℕ
lowest_map p q = map_file q.rows (image picture_signature p q)
