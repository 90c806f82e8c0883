-- 01, "the unused rest of each half is zero": a table as it stands in a half of the work space.
--   half_of   a file, and zeros up to the longest picture's length
use Rattle.std.specs.Prelude.{◌-◌, ℕ, length, List, ◌++◌}
use Rattle.table.specs.Bounds.{picture_size}
use Rattle.table.specs.Put.{zeros}
use Rattle.table.specs.declared.layout.Limits.{Limits}

unfoldable pub half_of : Limits → List ℕ → List ℕ
half_of limits file = file ++ zeros (picture_size limits - length file)
