-- The concept of a tree, and the tree of a concept, computed (003, Table 1).
--   concept_tree_is   of a node that wants 3, with all r {5}
--   tree_concept   of P3 ⊓ ∀r.¬P5
use Prim.Native.Nat.{ℕ}
use mathlib.Core.Path.{◌≡◌, refl}
use Rattle.table.specs.NameSet.{has}
use Rattle.ale.specs.Concept.{Concept, concept_of, conjunction, negation, primitive, top_concept, value}
use Rattle.ale.specs.Tree.{cons, forAll, nil, node}
use Rattle.ale.proofs.CasesTree.{Sig, excludes, five, leaf, three, wants}
use Rattle.ale.proofs.ConceptTrees.{concept_tree, picture_singletons}

-- the concept of a label that wants one name
abbrev wanted_concept : ℕ → Concept
wanted_concept n = conjunction top_concept (conjunction (conjunction (primitive n) top_concept) top_concept)

concept_tree_is : concept_of Sig (node (wants three) (cons forAll 8 (leaf five) nil)) ≡
    conjunction (wanted_concept 3) (conjunction (value 8 (conjunction (wanted_concept 5) top_concept)) top_concept)
unfolding has
concept_tree_is = refl

tree_concept : concept_tree Sig picture_singletons (conjunction (primitive 3) (value 8 (negation 5))) ≡
    node (wants three) (cons forAll 8 (node (excludes five) nil) nil)
tree_concept = refl
