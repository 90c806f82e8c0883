-- Normal trees of pictures, computed: K2 to K6 and K12 of paper 01.
--   root, row, impossible      rows: a root, a row with wanted names, a row that is ⊥
--   picture, meaning, normal   a picture by the rows below its empty root, its tree, and its normal tree
--   k4_rows, k4_normal         the picture of K4 and its normal tree
use Prim.Native.Nat.{ℕ}
use mathlib.Core.Bool.{false}
use mathlib.Core.List.{List, [], ◌∷◌}
use mathlib.Core.Path.{◌≡◌, refl}
use Rattle.ale.specs.Encoding.{Row, encode, encoded, table_of}
use Rattle.ale.specs.Normal.{normal_tree}
use Rattle.ale.specs.PictureSignature.{NameSet}
use Rattle.ale.specs.Table.{Table, tree}
use Rattle.ale.specs.Tree.{Kind, Tree, bottom_label, exists, forAll, size}
use Rattle.ale.proofs.CasesTree.{Sig, bottom_leaf, double, five, leaf, names, none, single, three, three_five, wants}

abbrev pub root : NameSet → Row Sig
root a = record { parent = 0; kind = exists; role = 0; label = wants a }

abbrev pub row : ℕ → Kind → ℕ → NameSet → Row Sig
row p k r a = record { parent = p; kind = k; role = r; label = wants a }

abbrev pub impossible : Kind → Row Sig
impossible k = record { parent = 0; kind = k; role = 8; label = bottom_label Sig }

abbrev pub picture : List (Row Sig) → Table Sig
picture w = table_of Sig (root none ∷ w)

abbrev pub meaning : List (Row Sig) → Tree Sig
meaning w = tree Sig (picture w) 2

abbrev pub normal : List (Row Sig) → Tree Sig
normal w = normal_tree Sig (picture w) 2

abbrev parents : List (Row Sig) → List ℕ
parents [] = []
parents (w ∷ s) = w.parent ∷ parents s

-- 3 both wanted and excluded: inconsistent
abbrev clashing : Row Sig
clashing = record { parent = 0; kind = exists; role = 0; label = record { wanted = three; excluded = three; bottom = false } }

k2 : normal_tree Sig (table_of Sig (clashing ∷ [])) 2 ≡ bottom_leaf
k2 = refl

-- all r {3}, all r {5}: one all-successor
k3 : normal (row 0 forAll 8 three ∷ row 0 forAll 8 five ∷ []) ≡ single forAll (leaf three_five)
k3 = refl

-- all r {3}, some r {5}: the value restriction is propagated
abbrev pub k4_rows : List (Row Sig)
k4_rows = row 0 forAll 8 three ∷ row 0 exists 8 five ∷ []

abbrev pub k4_normal : Tree Sig
k4_normal = double forAll (leaf three) exists (leaf three_five)

k4 : normal k4_rows ≡ k4_normal
k4 = refl

-- all r {}: dropped
k5 : normal (row 0 forAll 8 none ∷ []) ≡ leaf none
k5 = refl

-- all r ⊥: kept, and inconsistent only beside a some-successor
k6 : normal (impossible forAll ∷ []) ≡ single forAll bottom_leaf
k6 = refl

k6_some : normal (impossible forAll ∷ row 0 exists 8 none ∷ []) ≡ bottom_leaf
k6_some = refl

-- all r (some s {1}), some r {2}: the some-successor gets a some-successor of its own
abbrev k12_rows : List (Row Sig)
k12_rows = row 0 forAll 8 none ∷ row 1 exists 9 (names 2 tt) ∷ row 0 exists 8 (names 4 tt) ∷ []

k12 : size Sig (normal k12_rows) ≡ 5
k12 = refl

-- normalizing again propagates the value restriction once more: a normal tree need not be its own normal tree
k12_again : size Sig (normal_tree Sig (encoded Sig (normal k12_rows)) 2) ≡ 6
k12_again = refl

-- depth first: its rows' parents
k12_parents : parents (encode Sig (normal k12_rows)) ≡ 0 ∷ 0 ∷ 1 ∷ 0 ∷ 3 ∷ []
k12_parents = refl

-- some-successors in file-row order
file_order : normal (row 0 exists 8 five ∷ row 0 exists 8 three ∷ []) ≡ double exists (leaf five) exists (leaf three)
file_order = refl
