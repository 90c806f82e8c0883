-- 01, "in the form of a picture file with its end field": the rows of a table as bytes.
--   kind_code    the byte of a kind; code_at: that of row y, which is the root's in row 0
--   mark_code    the impossible byte
--   row_at       row y as bytes
--   rows_from    rows as bytes, the first of them being row y
--   file_of      a list of rows as a picture file
use Rattle.std.specs.Prelude.{suc, ℕ, eqb, Bool, List, [], ◌++◌, ◌∷◌}
use Rattle.table.specs.Fields.{end_bytes, row_of}
use Rattle.table.specs.Layout.{kind_exists, kind_for_all, kind_root}
use Rattle.table.specs.Pick.{pick}
use Rattle.ale.specs.Encoding.{Row}
use Rattle.ale.specs.PictureSignature.{picture_signature}
use Rattle.ale.specs.Tree.{Kind, exists, forAll}

abbrev pub kind_code : Kind → ℕ
kind_code exists = kind_exists
kind_code forAll = kind_for_all

abbrev pub code_at : ℕ → Kind → ℕ
code_at y k = pick (eqb y 0) kind_root (kind_code k)

abbrev pub mark_code : Bool → ℕ
mark_code b = pick b 1 0

abbrev pub row_at : ℕ → Row picture_signature → List ℕ
row_at y w =
    row_of w.parent (code_at y w.kind) w.role (mark_code w.label.bottom) w.label.wanted.set w.label.excluded.set

abbrev pub rows_from : ℕ → List (Row picture_signature) → List ℕ
rows_from y [] = []
rows_from y (w ∷ ws) = row_at y w ++ rows_from (suc y) ws

abbrev pub file_of : List (Row picture_signature) → List ℕ
file_of ws = rows_from 0 ws ++ end_bytes
