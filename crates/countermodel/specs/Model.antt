-- 22 and 23: the individuals of a refutation as a tree, which is tested.
--   row_tree     the tree of a row, with all that hangs from it: no more rows stand below one another than there are
--   model_tree   the individuals below individual i
use Rattle.std.specs.Prelude.{ℕ, List}
use Rattle.ale.specs.PictureSignature.{picture_signature}
use Rattle.ale.specs.Table.{Table, tree_of}
use Rattle.ale.specs.Tree.{Tree}
use Rattle.countermodel.specs.Individual.{individual_table}

abbrev pub row_tree : Table picture_signature → ℕ → Tree picture_signature
row_tree p i = tree_of picture_signature p p.rows i

abbrev pub model_tree : List ℕ → ℕ → Tree picture_signature
model_tree e i = row_tree (individual_table e) i
