-- The homomorphism test, computed.
--   k7_apart, k7_joined   the pictures of K7
use mathlib.Core.Bool.{false, true}
use mathlib.Core.Path.{◌≡◌, refl}
use Rattle.ale.specs.Homomorphism.{maps_to}
use Rattle.ale.specs.Tree.{Tree, exists, forAll, nil, node}
use Rattle.ale.proofs.CasesTree.{Sig, bottom_leaf, double, excludes, five, leaf, none, single, three, three_five}

abbrev pub k7_apart : Tree Sig
k7_apart = double exists (leaf three) exists (leaf five)

abbrev pub k7_joined : Tree Sig
k7_joined = single exists (leaf three_five)

-- some r {3}, some r {5} subsumes some r {3,5}; not the reverse
k7 : (maps_to Sig k7_apart k7_joined ≡ true) × (maps_to Sig k7_joined k7_apart ≡ false)
k7 = (refl, refl)

-- a ⊥ image takes everything: all r ⊥ is subsumed by all r {5}, not by some r {}
pub k8 : (maps_to Sig (single forAll (leaf five)) (single forAll bottom_leaf) ≡ true) ×
    (maps_to Sig (single exists (leaf none)) (single forAll bottom_leaf) ≡ false)
k8 = (refl, refl)

-- and is the only image of ⊥
pub bottom_only : (maps_to Sig bottom_leaf bottom_leaf ≡ true) × (maps_to Sig bottom_leaf (leaf none) ≡ false)
bottom_only = (refl, refl)

-- what is not mentioned is not excluded
pub unmentioned : maps_to Sig (node (excludes three) nil) (leaf five) ≡ false
unmentioned = refl
