-- Merged trees of pictures, before breaking and dropping, computed.
use mathlib.Core.List.{List, [], ◌∷◌}
use mathlib.Core.Path.{◌≡◌, refl}
use Rattle.ale.specs.Encoding.{Row}
use Rattle.ale.specs.Merged.{merged}
use Rattle.ale.specs.Tree.{Tree, cons, exists, forAll, nil, size}
use Rattle.ale.proofs.CasesNormal.{impossible, picture, row}
use Rattle.ale.proofs.CasesTree.{Sig, five, leaf, none, single, three, under}

abbrev merged_rows : List (Row Sig) → Tree Sig
merged_rows w = merged Sig (picture w) 2 (0 ∷ [])

-- no all-successor for an empty A
nothing_merged : merged_rows [] ≡ leaf none
nothing_merged = refl

some_alone : merged_rows (row 0 exists 8 three ∷ []) ≡ single exists (leaf three)
some_alone = refl

-- an all-successor that is dropped later is there
empty_all_merged : merged_rows (row 0 forAll 8 none ∷ []) ≡ single forAll (leaf none)
empty_all_merged = refl

-- merging goes on below a mark
bottom_merged : size Sig (merged_rows (impossible forAll ∷ row 1 exists 9 three ∷ row 0 exists 8 none ∷ [])) ≡ 5
bottom_merged = refl

-- all before some; some in file-row order, equal ones kept apart
order_merged : merged_rows (row 0 exists 8 five ∷ row 0 exists 8 three ∷ row 0 forAll 8 none ∷ row 0 exists 8 five ∷ []) ≡
    under (cons forAll 8 (leaf none) (cons exists 8 (leaf five) (cons exists 8 (leaf three) (cons exists 8 (leaf five) nil))))
order_merged = refl

-- by role, whatever the order in the file
roles_merged : merged_rows (row 0 exists 9 five ∷ row 0 exists 8 three ∷ []) ≡ under (cons exists 8 (leaf three) (cons exists 9 (leaf five) nil))
roles_merged = refl
