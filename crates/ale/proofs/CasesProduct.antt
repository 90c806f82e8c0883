-- Products, computed: K9 to K11 of paper 01.
use mathlib.Core.List.{[], ◌∷◌}
use mathlib.Core.Path.{◌≡◌, refl}
use Rattle.ale.specs.Product.{product}
use Rattle.ale.specs.Theory.{lcs}
use Rattle.ale.specs.Tree.{Tree, cons, exists, forAll, nil, node}
use Rattle.ale.proofs.CasesNormal.{k4_rows, picture, row}
use Rattle.ale.proofs.CasesTree.{Sig, bottom_leaf, double, five, leaf, names, none, single, three, three_five, under, wants}

-- {3}, some r {4}
abbrev pub k9_first : Tree Sig
k9_first = node (wants three) (cons exists 8 (leaf (names 16 tt)) nil)

-- {3,5}, some r {4,6}, some r {7}
abbrev pub k9_second : Tree Sig
k9_second = node (wants three_five) (cons exists 8 (leaf (names 80 tt)) (cons exists 8 (leaf (names 128 tt)) nil))

-- {3}, some r {4}, some r {}
abbrev pub k9_common : Tree Sig
k9_common = node (wants three) (cons exists 8 (leaf (names 16 tt)) (cons exists 8 (leaf none) nil))

k9 : product Sig k9_first k9_second ≡ k9_common
k9 = refl

-- the paired all-successor is trivial, so it is dropped
k10 : product Sig (single forAll (leaf three)) (single forAll (leaf five)) ≡ leaf none
k10 = refl

-- a pair with a ⊥ side is the other side
k11 : (product Sig (single forAll bottom_leaf) (single forAll (leaf five)) ≡ single forAll (leaf five)) ×
    (product Sig (single forAll (leaf five)) (single forAll bottom_leaf) ≡ single forAll (leaf five))
k11 = (refl, refl)

-- the normal trees are intersected, not the pictures: all r {3}, some r {5} with some r {3} has some r {3} in common
normal_first : lcs Sig (picture k4_rows) (picture (row 0 exists 8 three ∷ [])) 2 2 ≡ single exists (leaf three)
normal_first = refl

-- all before some
all_before_some : product Sig (double forAll (leaf three) exists (leaf three_five)) (double forAll (leaf three) exists (leaf three_five)) ≡
    double forAll (leaf three) exists (leaf three_five)
all_before_some = refl

-- the first's rows in turn, each with the second's in turn
pairs_in_turn : product Sig (double exists (leaf three_five) exists (leaf five)) (double exists (leaf three) exists (leaf five)) ≡
    under (cons exists 8 (leaf three) (cons exists 8 (leaf five) (cons exists 8 (leaf none) (cons exists 8 (leaf five) nil))))
pairs_in_turn = refl

-- ⊥ with ⊥ is ⊥
bottom_both : product Sig bottom_leaf bottom_leaf ≡ bottom_leaf
bottom_both = refl
