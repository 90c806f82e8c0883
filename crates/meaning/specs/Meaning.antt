-- 01, "What a picture means": the rows of a picture file as a table of the theory, and the tree that hangs from row 0.
--   kind_at         the kind of row that a byte stands for; 1 is "some", 2 is "all", and row 0's says nothing
--   set_at          a number as a set of names: its lowest name_count bits, which of a file's eight bytes are all
--   label_at        the names and the mark of a row
--   picture_table   the table of a file
--   picture_tree    the tree of a picture; no row of a readable one stands deeper than the limit, so nothing is cut off
use Rattle.std.specs.Prelude.{◌%◌, ◌<◌, ◌^◌, ℕ, eqb, List}
use Rattle.std.proofs.Common.{arith}
use Rattle.table.specs.Fields.{excluded_of, impossible_of, kind_of, parent_of, role_of, wanted_of}
use Rattle.table.specs.Layout.{kind_for_all, name_count}
use Rattle.table.specs.Pick.{pick}
use Rattle.table.specs.declared.layout.Limits.{Limits}
use Rattle.ale.specs.PictureSignature.{NameSet, name_set, picture_signature}
use Rattle.ale.specs.Table.{Table, tree}
use Rattle.ale.specs.Tree.{Kind, Label, Tree, exists, forAll}
use Rattle.picture.specs.Readable.{row_count}

abbrev pub kind_at : ℕ → Kind
kind_at code = pick (eqb code kind_for_all) forAll exists

pub low_below : (n : ℕ) → n % 2 ^ name_count < 2 ^ name_count
low_below n = omega arith

abbrev pub set_at : ℕ → NameSet
set_at n = name_set (n % 2 ^ name_count) (low_below n)

abbrev pub label_at : List ℕ → ℕ → Label picture_signature
label_at s j = record { wanted = set_at (wanted_of s j); excluded = set_at (excluded_of s j); bottom = eqb (impossible_of s j) 1 }

abbrev pub picture_table : List ℕ → Table picture_signature
picture_table s =
    record { rows = row_count s; parent = parent_of s; kind = λ j. kind_at (kind_of s j); role = role_of s; label = label_at s }

abbrev pub picture_tree : Limits → List ℕ → Tree picture_signature
picture_tree limits s = tree picture_signature (picture_table s) limits.depth
