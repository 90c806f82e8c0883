-- Tidying keeps the meaning of a tree, and leaves no trivial all-successor.
-- From the leaves up: nothing fits an inconsistent node, so ⊥ may take its place; everything fits a trivial tree, so an all-successor
-- that is trivial asks for nothing and may be dropped.
--   tidy_reduced, tidy_all_reduced       a tidied tree is reduced
--   inconsistent_fits                   nothing fits an inconsistent node
--   fits_tidy_node, tidy_node_fits        the same elements fit a node and the node tidied
--   fits_tidy, fits_tidy_all             what fits a tree fits it tidied
--   tidy_fits, tidy_all_fits             and conversely
use Prim.Native.Nat.{ℕ}
use lib.Dec.{T}
use mathlib.Core.Bool.{◌||◌, not}
use mathlib.Core.Logic.{⊎_elim}
use Rattle.ale.specs.Normal.{bottom_exists, inconsistent, tidy, tidy_all, tidy_node}
use Rattle.ale.specs.Theory.{Reduced, ReducedAll}
use Rattle.ale.specs.Signature.{Signature}
use Rattle.ale.specs.Structure.{Fits, FitsAll, Satisfies, Structure}
use Rattle.ale.specs.Tree.{Forest, Kind, Label, Tree, any, bottom_tree, cons, exists, forAll, label_of, nil, node}
use Rattle.ale.proofs.Forests.{cons_reduced_fits, fits_cons_reduced, reduced_cons_reduced}
use Rattle.ale.proofs.NameLaws.{intersection_left, intersection_right, subset_fails}
use Rattle.ale.proofs.Structures.{FitsEdge, fits_each, restriction_map}
use Rattle.ale.proofs.Tests.{chosen, clash, or_split}
use Rattle.ale.proofs.Trees.{All-Any, any_any}

module _ (S : Signature) where
  mutual
    pub tidy_reduced : (t : Tree S) → Reduced S (tidy S t)
    tidy_reduced (node l f) =
        chosen (λ t. Reduced S t) (inconsistent S l (tidy_all S f)) (bottom_tree S) (node l (tidy_all S f)) (λ b. tt) (λ b. tidy_all_reduced f)

    pub tidy_all_reduced : (f : Forest S) → ReducedAll S (tidy_all S f)
    tidy_all_reduced nil = tt
    tidy_all_reduced (cons k r t f) = reduced_cons_reduced S k r (tidy S t) (tidy_all S f) (tidy_reduced t) (tidy_all_reduced f)

module _ (S : Signature) (M : Structure S) where
  fits_not_bottom : (t : Tree S) (x : M.Element) → Fits S M t x → T (not (label_of S t).bottom)
  fits_not_bottom (node l f) x p = p.0.possible

  pub inconsistent_fits : (l : Label S) (f : Forest S) (x : M.Element) → T (inconsistent S l f) → Satisfies S M l x → FitsAll S M f x → ⊥
  inconsistent_fits l f x b c p =
      let overlapping = S.intersection l.wanted l.excluded in
      let s = S.subset overlapping S.none in
      let d = any S (bottom_exists S) f in
      ⊎_elim (λ m. clash l.bottom m c.possible)
      (λ q. ⊎_elim
      (λ n. let (i, h, o) = subset_fails S overlapping S.none n in
      c.free i (intersection_right S l.wanted l.excluded i h) (c.held i (intersection_left S l.wanted l.excluded i h)))
      (λ n. All-Any S (FitsEdge S M x) (λ k r t. T (bottom_exists S k r t)) ⊥ bottom_exists_fits f (fits_each S M f x p) (any_any S (bottom_exists S) f n))
      (or_split (not s) d q))
      (or_split l.bottom (not s || d) b)
    where
      bottom_exists_fits : (k : Kind) (r : ℕ) (t : Tree S) → FitsEdge S M x k r t → T (bottom_exists S k r t) → ⊥
      bottom_exists_fits exists r t (y, s, q) m = clash (label_of S t).bottom m (fits_not_bottom t y q)
      bottom_exists_fits forAll r t e m = m

  pub fits_tidy_node : (l : Label S) (f : Forest S) (x : M.Element) → Satisfies S M l x → FitsAll S M f x → Fits S M (tidy_node S l f) x
  fits_tidy_node l f x c p =
      chosen (λ t. Fits S M t x) (inconsistent S l f) (bottom_tree S) (node l f) (λ b. absurd (inconsistent_fits l f x b c p)) (λ b. (c, p))

  pub tidy_node_fits : (l : Label S) (f : Forest S) (x : M.Element) → Fits S M (tidy_node S l f) x → Satisfies S M l x × FitsAll S M f x
  tidy_node_fits l f x =
      chosen (λ t. Fits S M t x → Satisfies S M l x × FitsAll S M f x) (inconsistent S l f) (bottom_tree S) (node l f)
      (λ b p. absurd p.0.possible) (λ b p. p)

  mutual
    pub fits_tidy : (t : Tree S) (x : M.Element) → Fits S M t x → Fits S M (tidy S t) x
    fits_tidy (node l f) x p = fits_tidy_node l (tidy_all S f) x p.0 (fits_tidy_all f x p.1)

    pub fits_tidy_all : (f : Forest S) (x : M.Element) → FitsAll S M f x → FitsAll S M (tidy_all S f) x
    fits_tidy_all nil x p = tt
    fits_tidy_all (cons k r t f) x p =
        fits_cons_reduced S M k r (tidy S t) (tidy_all S f) x
        (restriction_map S M k r (λ y. Fits S M t y) (λ y. Fits S M (tidy S t) y) (λ y q. fits_tidy t y q) x p.0)
        (fits_tidy_all f x p.1)

  mutual
    pub tidy_fits : (t : Tree S) (x : M.Element) → Fits S M (tidy S t) x → Fits S M t x
    tidy_fits (node l f) x p = let (c, q) = tidy_node_fits l (tidy_all S f) x p in (c, tidy_all_fits f x q)

    pub tidy_all_fits : (f : Forest S) (x : M.Element) → FitsAll S M (tidy_all S f) x → FitsAll S M f x
    tidy_all_fits nil x p = tt
    tidy_all_fits (cons k r t f) x p =
        let (e, q) = cons_reduced_fits S M k r (tidy S t) (tidy_all S f) x p in
        (restriction_map S M k r (λ y. Fits S M (tidy S t) y) (λ y. Fits S M t y) (λ y w. tidy_fits t y w) x e, tidy_all_fits f x q)
