-- Small definitions books for the cases, at the signature of paper 01. Names 3, 4 and 5 are defined; roles are 8 and 9.
--   four, seven, eight, names     sets of names
--   row, root, marked             a row that wants names; the root; a root with the mark
--   Rows, picture                 rows as a table
--   define                        the definitions of 3, 4 and 5
--   plain                         a definition that asks nothing
use Prim.Native.Nat.{ℕ}
use lib.Dec.{eqb}
use mathlib.Core.Bool.{true}
use mathlib.Core.List.{List, [], ◌∷◌}
use Rattle.table.specs.Pick.{pick}
use Rattle.ale.specs.Encoding.{Row, table_of}
use Rattle.ale.specs.PictureSignature.{NameSet}
use Rattle.ale.specs.Table.{Table}
use Rattle.ale.specs.Tree.{Kind, Label, exists}
use Rattle.ale.proofs.CasesTree.{Sig, names, none, wants}
use Rattle.tbox.specs.Definitions.{Definitions}

abbrev pub four : NameSet
four = names 16 tt

abbrev pub seven : NameSet
seven = names 128 tt

abbrev pub eight : NameSet
eight = names 256 tt

abbrev pub Rows : Type 0
Rows = List (Row Sig)

abbrev pub labelled : ℕ → Kind → ℕ → Label Sig → Row Sig
labelled p k r l = record { parent = p; kind = k; role = r; label = l }

abbrev pub row : ℕ → Kind → ℕ → NameSet → Row Sig
row p k r w = labelled p k r (wants w)

abbrev pub root : NameSet → Row Sig
root w = row 0 exists 0 w

abbrev pub marked : NameSet → Row Sig
marked w = labelled 0 exists 0 (record { wanted = w; excluded = none; bottom = true })

abbrev pub picture : Rows → Table Sig
picture w = table_of Sig w

abbrev pub plain : Rows
plain = root none ∷ []

abbrev pub define : Rows → Rows → Rows → Definitions Sig
define third fourth fifth = record {
  defined = names 56 tt;
  picture = λ n. pick (eqb n 3) (picture third) (pick (eqb n 4) (picture fourth) (picture fifth));
}
