-- An element fits a tree exactly if it is in the extension of the tree's concept (003, Table 1), in every structure. By induction on
-- the tree: a label's concept asks for each listed name what the label asks for it, and each successor's concept is its restriction.
--   fits_extension, extension_fits   the two directions
--   fits_concept                     both
--   Means, tree_means                a tree means what a concept means, in every structure; as it does of its own
--   subsumed_means                   so a tree is subsumed by it exactly if the tree's concept is by that concept
--   subsumed_concepts                so one tree is subsumed by another exactly if its concept is (003, Definition 1)
use Prim.Native.Nat.{ℕ}
use lib.Dec.{T}
use mathlib.Core.Bool.{Bool, false, not, true}
use mathlib.Core.List.{List, [], ◌∷◌}
use mathlib.Core.Logic.{◌↔◌}
use Rattle.table.specs.Pick.{pick}
use Rattle.ale.specs.Concept.{Concept, ConceptSubsumed, InExtension, bottom_concept, concept_of, concepts_of, conjunction_of, names_of, negation, primitive, restriction_concept, top_concept}
use Rattle.ale.specs.Interpretation.{Subsumed, structure_of}
use Rattle.ale.specs.Rows.{member}
use Rattle.ale.specs.Signature.{Signature}
use Rattle.ale.specs.Structure.{Fits, FitsAll, Restriction, Structure}
use Rattle.ale.specs.Tree.{Forest, Kind, Tree, cons, exists, forAll, nil, node}
use Rattle.ale.proofs.RowLists.{filter_below_in, filter_below_out, member_cons, member_head, member_tail}
use Rattle.ale.proofs.Structures.{restriction_map}

module _ (S : Signature) (M : Structure S) where
  -- an element is in the extension of a conjunction exactly if it is in that of each part
  conjunction_part : (h : ℕ → Concept) (s : List ℕ) (x : M.Element) → InExtension S M (conjunction_of h s) x →
      (n : ℕ) → T (member n s) → InExtension S M (h n) x
  conjunction_part h [] x p = λ n m. absurd m
  conjunction_part h (i ∷ s) x p = member_cons (λ n. InExtension S M (h n) x) i s p.0 (conjunction_part h s x p.1)

  conjunction_intro : (h : ℕ → Concept) (s : List ℕ) (x : M.Element) → ((n : ℕ) → T (member n s) → InExtension S M (h n) x) →
      InExtension S M (conjunction_of h s) x
  conjunction_intro h [] x p = tt
  conjunction_intro h (i ∷ s) x p = (p i (member_head i s), conjunction_intro h s x (λ n m. p n (member_tail n i s m)))

  -- the listed names of a set are the names that it has
  name_listed : (a : S.Names) (n : ℕ) → T (S.has a n) → T (member n (names_of S a))
  name_listed a n h = filter_below_in (S.has a) S.names n h (S.has_below a n h)

  listed_name : (a : S.Names) (n : ℕ) → T (member n (names_of S a)) → T (S.has a n)
  listed_name a n m = (filter_below_out (S.has a) S.names n m).0

  -- an element is in the extension of a label's ⊥ part exactly if the label is not ⊥
  bottom_possible : (b : Bool) (x : M.Element) → InExtension S M (pick b bottom_concept top_concept) x → T (not b)
  bottom_possible true x p = p
  bottom_possible false x p = tt

  possible_bottom : (b : Bool) (x : M.Element) → T (not b) → InExtension S M (pick b bottom_concept top_concept) x
  possible_bottom true x p = p
  possible_bottom false x p = tt

  -- the concept of a restriction, of either kind, says what the restriction says
  concept_restriction : (k : Kind) (r : ℕ) (c : Concept) (x : M.Element) → InExtension S M (restriction_concept k r c) x →
      Restriction S M k r (λ y. InExtension S M c y) x
  concept_restriction exists r c x p = p
  concept_restriction forAll r c x p = p

  restriction_concept_is : (k : Kind) (r : ℕ) (c : Concept) (x : M.Element) → Restriction S M k r (λ y. InExtension S M c y) x →
      InExtension S M (restriction_concept k r c) x
  restriction_concept_is exists r c x p = p
  restriction_concept_is forAll r c x p = p

  mutual
    pub extension_fits : (t : Tree S) (x : M.Element) → InExtension S M (concept_of S t) x → Fits S M t x
    extension_fits (node l f) x p = (
      record {
        held = λ n h. conjunction_part primitive (names_of S l.wanted) x p.0.1.0 n (name_listed l.wanted n h);
        free = λ n h. conjunction_part negation (names_of S l.excluded) x p.0.1.1 n (name_listed l.excluded n h);
        possible = bottom_possible l.bottom x p.0.0;
      },
      extension_fits_all f x p.1,
    )

    extension_fits_all : (f : Forest S) (x : M.Element) → InExtension S M (concepts_of S f) x → FitsAll S M f x
    extension_fits_all nil x p = tt
    extension_fits_all (cons k r t f) x p = (
      restriction_map S M k r (λ y. InExtension S M (concept_of S t) y) (λ y. Fits S M t y) (λ y q. extension_fits t y q) x
          (concept_restriction k r (concept_of S t) x p.0),
      extension_fits_all f x p.1,
    )

  mutual
    pub fits_extension : (t : Tree S) (x : M.Element) → Fits S M t x → InExtension S M (concept_of S t) x
    fits_extension (node l f) x p = (
      (
        possible_bottom l.bottom x p.0.possible,
        (
          conjunction_intro primitive (names_of S l.wanted) x (λ n m. p.0.held n (listed_name l.wanted n m)),
          conjunction_intro negation (names_of S l.excluded) x (λ n m. p.0.free n (listed_name l.excluded n m)),
        ),
      ),
      fits_extension_all f x p.1,
    )

    fits_extension_all : (f : Forest S) (x : M.Element) → FitsAll S M f x → InExtension S M (concepts_of S f) x
    fits_extension_all nil x p = tt
    fits_extension_all (cons k r t f) x p = (
      restriction_concept_is k r (concept_of S t) x
          (restriction_map S M k r (λ y. Fits S M t y) (λ y. InExtension S M (concept_of S t) y) (λ y q. fits_extension t y q) x p.0),
      fits_extension_all f x p.1,
    )

  pub fits_concept : (t : Tree S) (x : M.Element) → Fits S M t x ↔ InExtension S M (concept_of S t) x
  fits_concept t x = (fits_extension t x, extension_fits t x)

module _ (S : Signature) where
  abbrev pub Means : Tree S → Concept → Type 1
  Means t c = (M : Structure S) (x : M.Element) → Fits S M t x ↔ InExtension S M c x

  pub tree_means : (t : Tree S) → Means t (concept_of S t)
  tree_means t M x = fits_concept S M t x

  pub subsumed_means : (v d : Tree S) (c : Concept) → Means d c → Subsumed S v d ↔ ConceptSubsumed S (concept_of S v) c
  subsumed_means v d c m = (
    λ h I x l p. (m (structure_of S I) x).0 (h I x l (extension_fits S (structure_of S I) v x p)),
    λ h I x l p. (m (structure_of S I) x).1 (h I x l (fits_extension S (structure_of S I) v x p)),
  )

  pub subsumed_concepts : (v d : Tree S) → Subsumed S v d ↔ ConceptSubsumed S (concept_of S v) (concept_of S d)
  subsumed_concepts v d = subsumed_means v d (concept_of S d) (tree_means d)
