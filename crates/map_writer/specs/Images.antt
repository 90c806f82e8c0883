-- The images that are written, s the first table and t the second. Nobody has to believe this.
--   image_row    the image of a row
use Rattle.std.specs.Prelude.{ℕ, List}
use Rattle.ale.specs.PictureSignature.{picture_signature}
use Rattle.ale.specs.RowMap.{image}
use Rattle.meaning.specs.Meaning.{picture_table}

abbrev pub image_row : List ℕ → List ℕ → ℕ → ℕ
image_row s t i = image picture_signature (picture_table s) (picture_table t) i
