-- The test of fitting is right: a tree of individuals fits a tree, in the structure of trees, exactly if it passes. By induction on the
-- tree that is fitted: `satisfiesTest` decides its label, and `restrictionTest` goes through the individuals that a role reaches.
-- Individual 0 of a table fits what the tree of row 0 fits, so a refutation given as a table can be checked.
--   test_fits, fits_test_is     the two directions
--   fits_checked             for individual 0 of a table
--   refutation_refutes       a table whose individual 0 passes for t and fails for u refutes that u subsumes t
use Prim.Native.Nat.{◌<◌, ℕ}
use lib.Dec.{T}
use mathlib.Core.Bool.{Bool, ◌&&◌, not}
use mathlib.Core.Logic.{◌↔◌, inl, inr, ⊎_elim}
use mathlib.Core.Path.{refl, subst, sym}
use Rattle.ale.specs.Countermodel.{interpretation_of}
use Rattle.ale.specs.Interpretation.{Subsumed, structure_of}
use Rattle.ale.specs.ModelCheck.{fits_all_test, fits_test, reached_test, restriction_test, satisfies_test}
use Rattle.ale.specs.Signature.{Signature}
use Rattle.ale.specs.Structure.{Fits, FitsAll, Restriction, Satisfies}
use Rattle.ale.specs.Table.{ParentsFirst, Table, tree_of}
use Rattle.ale.specs.Tree.{Forest, Kind, Label, Tree, any, cons, exists, forAll, nil, node}
use Rattle.ale.proofs.Individuals.{fits_numbered_table, numbered_table_fits}
use Rattle.ale.proofs.NameLaws.{intersection_intro, intersection_left, intersection_right, none_has}
use Rattle.ale.proofs.Tests.{and_intro, and_left, and_right, clash, decide, or_left, or_right, or_split, refute}
use Rattle.ale.proofs.TreeStructure.{Child, tree_structure}

module _ (S : Signature) where
  -- what an individual satisfies, against the names that hold of it
  test_satisfies : (l m : Label S) (g : Forest S) → T (satisfies_test S l m.wanted) → Satisfies S (tree_structure S) l (node m g)
  test_satisfies l m g h =
      let shared = S.intersection l.excluded m.wanted in
      let a = S.subset l.wanted m.wanted in
      let b = S.subset shared S.none in
      let u = not l.bottom in
      let bu = and_right a (b && u) h in
      record {
        held = S.subset_has l.wanted m.wanted (and_left a (b && u) h);
        free = λ n e p. none_has S n (S.subset_has shared S.none (and_left b u bu) n (intersection_intro S l.excluded m.wanted n e p));
        possible = and_right b u bu;
      }

  satisfies_test_is : (l m : Label S) (g : Forest S) → Satisfies S (tree_structure S) l (node m g) → T (satisfies_test S l m.wanted)
  satisfies_test_is l m g c =
      let e = l.excluded in
      let s = m.wanted in
      let b = S.subset (S.intersection e s) S.none in
      and_intro (S.subset l.wanted s) (b && not l.bottom) (S.subset_intro l.wanted s c.held)
      (and_intro b (not l.bottom)
      (S.subset_intro (S.intersection e s) S.none (λ n h. absurd (c.free n (intersection_left S e s n h) (intersection_right S e s n h))))
      c.possible)

  -- an individual that is reached and passes
  any_child : (r : ℕ) (q : Tree S → Bool) (g : Forest S) → T (any S (reached_test S r q) g) → (y : Tree S) × Child S r y g × T (q y)
  any_child r q nil h = absurd h
  any_child r q (cons k s b g) h =
      let i = S.subrole s r in
      ⊎_elim
      (λ t. (b, inl (and_left i (q b) t, refl), and_right i (q b) t))
      (λ t. let (y, c, p) = any_child r q g t in (y, inr c, p))
      (or_split (i && q b) (any S (reached_test S r q) g) h)

  child_any : (r : ℕ) (q : Tree S → Bool) (g : Forest S) (y : Tree S) → Child S r y g → T (q y) → T (any S (reached_test S r q) g)
  child_any r q nil y c p = c
  child_any r q (cons k s b g) y c p =
      let i = S.subrole s r in
      let later = any S (reached_test S r q) g in
      ⊎_elim
      (λ t. or_left (i && q b) later (and_intro i (q b) t.0 (subst (λ z. T (q z)) (sym t.1) p)))
      (λ t. or_right (i && q b) later (child_any r q g y t p))
      c

  -- test q decides property P; then the restriction test decides the restriction, at an individual with any label
  module _ (q : Tree S → Bool) (P : Tree S → Type 0) (q-P : (b : Tree S) → T (q b) → P b) (P-q : (b : Tree S) → P b → T (q b)) (m : Label S) where
    abbrev fails : Tree S → Bool
    fails b = not (q b)

    test_restriction : (k : Kind) (r : ℕ) (g : Forest S) → T (restriction_test S k r q g) → Restriction S (tree_structure S) k r P (node m g)
    test_restriction exists r g h = let (y, c, t) = any_child r q g h in (y, c, q-P y t)
    test_restriction forAll r g h =
        λ y c. ⊎_elim (q-P y) (λ n. absurd (clash (any S (reached_test S r fails) g) (child_any r fails g y c n) h)) (decide (q y))

    restriction_test_is : (k : Kind) (r : ℕ) (g : Forest S) → Restriction S (tree_structure S) k r P (node m g) → T (restriction_test S k r q g)
    restriction_test_is exists r g (y, c, w) = child_any r q g y c (P-q y w)
    restriction_test_is forAll r g h =
        refute (any S (reached_test S r fails) g) (λ t. let (y, c, n) = any_child r fails g t in clash (q y) (P-q y (h y c)) n)

  mutual
    pub test_fits : (d b : Tree S) → T (fits_test S d b) → Fits S (tree_structure S) d b
    test_fits (node l f) (node m g) h =
        let a = satisfies_test S l m.wanted in
        let later = fits_all_test S f g in
        (test_satisfies l m g (and_left a later h), test_fits_all f m g (and_right a later h))

    test_fits_all : (f : Forest S) (m : Label S) (g : Forest S) → T (fits_all_test S f g) → FitsAll S (tree_structure S) f (node m g)
    test_fits_all nil m g h = tt
    test_fits_all (cons k r d f) m g h =
        let q : Tree S → Bool = λ b. fits_test S d b in
        let a = restriction_test S k r q g in
        let later = fits_all_test S f g in (
          test_restriction q (λ b. Fits S (tree_structure S) d b) (λ b t. test_fits d b t) (λ b w. fits_test_is d b w) m k r g (and_left a later h),
          test_fits_all f m g (and_right a later h),
        )

    pub fits_test_is : (d b : Tree S) → Fits S (tree_structure S) d b → T (fits_test S d b)
    fits_test_is (node l f) (node m g) w =
        and_intro (satisfies_test S l m.wanted) (fits_all_test S f g) (satisfies_test_is l m g w.0) (fits_all_test_is f m g w.1)

    fits_all_test_is : (f : Forest S) (m : Label S) (g : Forest S) → FitsAll S (tree_structure S) f (node m g) → T (fits_all_test S f g)
    fits_all_test_is nil m g w = tt
    fits_all_test_is (cons k r d f) m g w =
        let q : Tree S → Bool = λ b. fits_test S d b in
        and_intro (restriction_test S k r q g) (fits_all_test S f g)
        (restriction_test_is q (λ b. Fits S (tree_structure S) d b) (λ b t. test_fits d b t) (λ b z. fits_test_is d b z) m k r g w.0)
        (fits_all_test_is f m g w.1)

  pub fits_checked : (p : Table S) (pos : 0 < p.rows) → ParentsFirst S p → (t : Tree S) →
      Fits S (structure_of S (interpretation_of S p pos)) t 0 ↔ T (fits_test S t (tree_of S p p.rows 0))
  fits_checked p pos up t =
      let b = tree_of S p p.rows 0 in
      (λ f. fits_test_is t b (numbered_table_fits S p pos up t f), λ h. fits_numbered_table S p pos up t (test_fits t b h))

  pub refutation_refutes : (p : Table S) → 0 < p.rows → ParentsFirst S p → (t u : Tree S) →
      T (fits_test S t (tree_of S p p.rows 0)) → T (not (fits_test S u (tree_of S p p.rows 0))) → Subsumed S t u → ⊥
  refutation_refutes p pos up t u h n c =
      let fits-u = c (interpretation_of S p pos) 0 pos ((fits_checked p pos up t).1 h) in
      clash (fits_test S u (tree_of S p p.rows 0)) ((fits_checked p pos up u).0 fits-u) n
