-- Our maps by rows, computed: the images of the rows of d's table in v's table.
use Prim.Native.Nat.{◌<◌, suc, zero, ℕ}
use lib.Dec.{T, eqb, lit<}
use mathlib.Core.Bool.{false}
use mathlib.Core.List.{List, [], ◌∷◌}
use mathlib.Core.Path.{◌≡◌, refl}
use native.Mathlib.Omega.{arith}
use Rattle.table.specs.Pick.{pick}
use Rattle.ale.specs.Encoding.{encoded}
use Rattle.ale.specs.RowMap.{IsHomomorphism, edge_agrees, images, label_agrees}
use Rattle.ale.specs.Rows.{first_from}
use Rattle.ale.specs.Table.{Table}
use Rattle.ale.specs.Tree.{Tree, exists, forAll}
use Rattle.ale.proofs.CasesMap.{k7_apart, k7_joined}
use Rattle.ale.proofs.CasesTree.{Sig, bottom_leaf, double, leaf, single, three, three_five}

abbrev row_images : Tree Sig → Tree Sig → List ℕ
row_images v d = images Sig (encoded Sig v) (encoded Sig d) (encoded Sig d).rows

-- K7: both rows go to row 1
k7_map : row_images k7_joined k7_apart ≡ 0 ∷ 1 ∷ 1 ∷ []
k7_map = refl

-- of two rows that can be, the lowest
pub lowest_map_is : row_images (double exists (leaf three) exists (leaf three_five)) (single exists (leaf three)) ≡ 0 ∷ 1 ∷ []
lowest_map_is = refl

-- below a ⊥ image all rows go where their parent goes
bottom_map : row_images (single forAll bottom_leaf) (single forAll (single exists (leaf three))) ≡ 0 ∷ 1 ∷ 1 ∷ []
bottom_map = refl

-- and nowhere else: row 2 may not go to row 0
bottom_elsewhere : edge_agrees Sig (encoded Sig (single forAll bottom_leaf)) (encoded Sig (single forAll (single exists (leaf three)))) 2 1 0 ≡ false
bottom_elsewhere = refl

-- a map that is not the lowest is one all the same: row 1 goes to row 2
abbrev wide : Table Sig
wide = encoded Sig (double exists (leaf three) exists (leaf three_five))

abbrev narrow : Table Sig
narrow = encoded Sig (single exists (leaf three))

abbrev to_two : ℕ → ℕ
to_two i = pick (eqb i 0) 0 2

two_rows : (P : ℕ → Type 0) → P 0 → P 1 → (i : ℕ) → i < 2 → P i
two_rows P a b zero l = a
two_rows P a b (suc zero) l = b
two_rows P a b (suc (suc i)) l = absurd (omega arith)

higher_map : IsHomomorphism Sig wide narrow to_two
higher_map = record {
  inside = two_rows (λ i. to_two i < 3) (lit< tt) (lit< tt);
  root = refl;
  labels = two_rows (λ i. T (label_agrees Sig wide narrow i (to_two i))) tt tt;
  edges = two_rows (λ i. ¬ (i ≡ 0) → T (edge_agrees Sig wide narrow i (to_two (narrow.parent i)) (to_two i))) (λ z. absurd (z refl)) (λ z. tt);
}

-- a search that finds nothing ends after the last number
first_from_none : first_from (λ i. false) 0 3 ≡ 3
first_from_none = refl
