-- Leastness under definitions among all concept descriptions that negate no defined name (003, Definition 2; 02, U3,
-- "every picture .. means one that excludes no defined name"), of any size and depth.
--   ConceptSubsumedUnder    003, Definition 1, over the interpretations that respect the definitions
--   concept_tree_excludes    the tree of a concept that negates no defined name excludes none
--   least_under_concepts    what is the least for the unfolded pictures is the least under definitions
use Prim.Native.Nat.{◌<◌, ℕ}
use lib.Dec.{T}
use mathlib.Core.Path.{subst}
use Rattle.ale.specs.Concept.{Concept, ConceptSubsumed, InExtension, Over, bottom_concept, concept_of, conjunction, existential, negation, primitive, top_concept, value}
use Rattle.ale.specs.Interpretation.{Interpretation, structure_of}
use Rattle.ale.specs.Signature.{Signature}
use Rattle.ale.specs.Table.{Table}
use Rattle.ale.specs.Tree.{RolesKnown, Tree}
use Rattle.ale.proofs.ConceptTrees.{Singletons, concept_of_over, concept_tree, concept_tree_roles_known, fits_concept_tree}
use Rattle.ale.proofs.Concepts.{extension_fits, fits_extension, subsumed_concepts}
use Rattle.ale.proofs.CountermodelNames.{Whatever}
use Rattle.ale.proofs.NameLaws.{none_has}
use Rattle.ale.proofs.Tests.{clash}
use Rattle.tbox.specs.Acyclic.{acyclic}
use Rattle.tbox.specs.Theory.{Respects, SubsumedUnder, whole_tree}
use Rattle.tbox.specs.Definitions.{Definitions, NegatesNone}
use Rattle.tbox.specs.Unfold.{unfolded}
use Rattle.tbox.proofs.Coverings.{Undefined, Unfoldable}
use Rattle.tbox.proofs.Expansions.{ExcludesNoneTree, least_under}
use Rattle.tbox.proofs.NamedTrees.{named_join}
use Rattle.tbox.proofs.Origins.{Sound}

module _ (S : Signature) (D : Definitions S) where
  abbrev pub ConceptSubsumedUnder : Concept → Concept → Type 0
  ConceptSubsumedUnder c d =
      (I : Interpretation S) → Respects S D I → (x : ℕ) → x < I.count →
      InExtension S (structure_of S I) c x → InExtension S (structure_of S I) d x

  module _ (one : Singletons S) where
    -- nothing is excluded
    none_excluded : (n : ℕ) → T (S.has S.none n) → Undefined S D n
    none_excluded n h = absurd (none_has S n h)

    pub concept_tree_excludes : (c : Concept) → NegatesNone S D c → ExcludesNoneTree S D (concept_tree S one c)
    concept_tree_excludes (primitive n) h = ((λ i _. tt, none_excluded), tt)
    concept_tree_excludes top_concept h = ((λ i _. tt, none_excluded), tt)
    concept_tree_excludes (conjunction c d) h =
        named_join S (Whatever S) (Undefined S D) (concept_tree S one c) (concept_tree S one d)
        (concept_tree_excludes c h.0) (concept_tree_excludes d h.1)
    concept_tree_excludes (existential r c) h = ((λ i _. tt, none_excluded), (concept_tree_excludes c h, tt))
    concept_tree_excludes (value r c) h = ((λ i _. tt, none_excluded), (concept_tree_excludes c h, tt))
    concept_tree_excludes (negation n) h =
        let Defined : ℕ → Type 0 = λ z. T (S.has D.defined z) in
        ((λ i _. tt, λ i g d. clash (S.has D.defined n) (subst Defined (one.single_has n i g) d) h), tt)
    concept_tree_excludes bottom_concept h = ((λ i _. tt, none_excluded), tt)

    -- covering by a concept is covering by its tree
    concept_tree_is : (t : Tree S) (c : Concept) → Over S c →
        ConceptSubsumedUnder (concept_of S t) c → SubsumedUnder S D t (concept_tree S one c)
    concept_tree_is t c o h I r x l f =
        let M = structure_of S I in (fits_concept_tree S one M c o x).1 (h I r x l (fits_extension S M t x f))

    tree_concept : (t : Tree S) (c : Concept) → Over S c →
        SubsumedUnder S D t (concept_tree S one c) → ConceptSubsumedUnder (concept_of S t) c
    tree_concept t c o h I r x l f =
        let M = structure_of S I in (fits_concept_tree S one M c o x).0 (h I r x l (extension_fits S M t x f))

    module _ (sound : Sound S D) (free : T (acyclic S D)) (limit : ℕ)
        (each : (n : ℕ) → T (S.has D.defined n) → Unfoldable S D limit (D.picture n))
        (known : (n : ℕ) → T (S.has D.defined n) → RolesKnown S (whole_tree S (unfolded S D limit (D.picture n))))
        (p q : Table S) (first : Unfoldable S D limit p) (second : Unfoldable S D limit q) (common : Tree S)
        (least : (c : Concept) → Over S c → ConceptSubsumed S (concept_of S (whole_tree S (unfolded S D limit p))) c →
        ConceptSubsumed S (concept_of S (whole_tree S (unfolded S D limit q))) c →
        ConceptSubsumed S (concept_of S common) c) where
      pub least_under_concepts : (c : Concept) → Over S c → NegatesNone S D c →
          ConceptSubsumedUnder (concept_of S (whole_tree S p)) c → ConceptSubsumedUnder (concept_of S (whole_tree S q)) c →
          ConceptSubsumedUnder (concept_of S common) c
      least_under_concepts c o n a b =
          let u₁ = whole_tree S (unfolded S D limit p) in
          let u₂ = whole_tree S (unfolded S D limit q) in
          tree_concept common c o
          (least_under S D sound free limit each known p q first second common
          (λ u k h g. (subsumed_concepts S common u).1 (least (concept_of S u) (concept_of_over S u k)
          ((subsumed_concepts S u₁ u).0 h) ((subsumed_concepts S u₂ u).0 g)))
          (concept_tree S one c) (concept_tree_roles_known S one c o) (concept_tree_excludes c n)
          (concept_tree_is (whole_tree S p) c o a) (concept_tree_is (whole_tree S q) c o b))
