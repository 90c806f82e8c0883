-- 003, Table 1: the concept descriptions of ALE and their extensions; and the concept of a description tree.
--   Concept             the seven lines of Table 1
--   InExtension         an element is in the extension of a concept: Table 1's third column, line by line
--   Over                a concept over the names and roles of a signature (003's N_C and N_R)
--   restriction_concept  an existential or a value restriction, by kind
--   conjunction_of, names_of, label_concept   the concept of a label
--   concept_of           the concept of a tree: the conjunction of its label and of a restriction for each successor
--   ConceptSubsumed     003, Definition 1, over finite interpretations
use Rattle.std.specs.Prelude.{◌<◌, ℕ, T, List, [], ◌∷◌}
use Rattle.table.specs.Pick.{pick}
use Rattle.ale.specs.Interpretation.{Interpretation, structure_of}
use Rattle.ale.specs.Rows.{filter_below}
use Rattle.ale.specs.Signature.{Signature}
use Rattle.ale.specs.Structure.{Structure}
use Rattle.ale.specs.Tree.{Forest, Kind, Label, Tree, cons, exists, forAll, nil, node}

pub data Concept : Type 0 where
  primitive : ℕ → Concept
  top_concept : Concept
  conjunction : Concept → Concept → Concept
  existential : ℕ → Concept → Concept
  value : ℕ → Concept → Concept
  negation : ℕ → Concept
  bottom_concept : Concept

module _ (S : Signature) (M : Structure S) where
  abbrev pub InExtension : Concept → M.Element → Type 0
  InExtension (primitive n) x = T (M.holds n x)
  InExtension top_concept x = Unit
  InExtension (conjunction c d) x = InExtension c x × InExtension d x
  InExtension (existential r c) x = (y : M.Element) × M.edge r x y × InExtension c y
  InExtension (value r c) x = (y : M.Element) → M.edge r x y → InExtension c y
  InExtension (negation n) x = T (M.holds n x) → ⊥
  InExtension bottom_concept x = ⊥

module _ (S : Signature) where
  abbrev pub Over : Concept → Type 0
  Over (primitive n) = n < S.names
  Over top_concept = Unit
  Over (conjunction c d) = Over c × Over d
  Over (existential r c) = (r < S.roles) × Over c
  Over (value r c) = (r < S.roles) × Over c
  Over (negation n) = n < S.names
  Over bottom_concept = Unit

abbrev pub restriction_concept : Kind → ℕ → Concept → Concept
restriction_concept exists r c = existential r c
restriction_concept forAll r c = value r c

abbrev pub conjunction_of : (ℕ → Concept) → List ℕ → Concept
conjunction_of h [] = top_concept
conjunction_of h (n ∷ s) = conjunction (h n) (conjunction_of h s)

module _ (S : Signature) where
  abbrev pub names_of : S.Names → List ℕ
  names_of a = filter_below (S.has a) S.names

  abbrev pub label_concept : Label S → Concept
  label_concept l =
      conjunction (pick l.bottom bottom_concept top_concept)
      (conjunction (conjunction_of primitive (names_of l.wanted)) (conjunction_of negation (names_of l.excluded)))

  abbrev mutual
    pub concept_of : Tree S → Concept
    concept_of (node l f) = conjunction (label_concept l) (concepts_of f)

    pub concepts_of : Forest S → Concept
    concepts_of nil = top_concept
    concepts_of (cons k r t f) = conjunction (restriction_concept k r (concept_of t)) (concepts_of f)

  abbrev pub ConceptSubsumed : Concept → Concept → Type 0
  ConceptSubsumed c d =
      (I : Interpretation S) (x : ℕ) → x < I.count → InExtension S (structure_of S I) c x → InExtension S (structure_of S I) d x
