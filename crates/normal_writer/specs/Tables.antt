-- Whole tables at the start of a lent part. Nobody has to believe these.
--   TableRoom   what making a normal table needs of its arguments
--   table_in     the table of so many rows from a byte on
--   table_rows   the rows of the normal table of a picture
--   Tabled      the normal table of a picture is there, and its rows are given; 0 if 14 is answered no
--   RowsRoom    what ending a table under construction needs
--   HalfRoom    what making it in a half of the work space needs: 14 is answered yes
use Rattle.std.specs.Prelude.{◌≤◌, ℕ, leb, drop, length, take, List, ◌≡◌}
use Rattle.table.specs.Bounds.{Bounded, max_rows, picture_size}
use Rattle.table.specs.Layout.{end_size, «place»}
use Rattle.table.specs.Pick.{pick}
use Rattle.table.specs.declared.layout.Limits.{Limits}
use Rattle.ale.specs.PictureSignature.{picture_signature}
use Rattle.ale.specs.Tree.{size}
use Rattle.picture.specs.Readable.{Readable}
use Rattle.meaning.specs.NormalTable.{merged_count, normal_file, normal_tree_of}

pub record TableRoom (limits : Limits) (s out : List ℕ) : Type 0 where
  pub bounded : Bounded limits
  pub readable : Readable limits s
  pub space : picture_size limits ≤ length out

abbrev pub table_in : List ℕ → ℕ → ℕ → List ℕ
table_in part start rows = take (place rows end_size) (drop start part)

abbrev pub table_rows : Limits → List ℕ → ℕ
table_rows limits s = size picture_signature (normal_tree_of limits s)

pub record Tabled (limits : Limits) (s out : List ℕ) (r : ℕ) (end : List ℕ) : Type 0 where
  pub same : length end ≡ length out
  pub rows_are : r ≡ pick (leb (merged_count limits s) limits.rows) (table_rows limits s) 0
  pub file : merged_count limits s ≤ limits.rows → take (place r end_size) end ≡ normal_file limits s

pub record RowsRoom (rows : ℕ) (scratch out : List ℕ) : Type 0 where
  pub few : rows ≤ max_rows
  pub made : place rows 0 ≤ length scratch
  pub space : place rows end_size ≤ length out

pub record HalfRoom (limits : Limits) (s half : List ℕ) : Type 0 where
  pub bounded : Bounded limits
  pub readable : Readable limits s
  pub few : merged_count limits s ≤ limits.rows
  pub long : length half ≡ picture_size limits
