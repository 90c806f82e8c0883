-- A node that is ⊥ has no names and no successors, in every tidied tree and in the product of two trees where that is so.
-- Tidying writes ⊥ only as the canonical ⊥; a product node is a node of one side, or is not ⊥.
use Prim.Native.Nat.{ℕ}
use lib.Dec.{T}
use mathlib.Core.List.{[], ◌∷◌}
use mathlib.Core.Path.{refl}
use Rattle.ale.specs.Forest.{cons_reduced, dropped}
use Rattle.ale.specs.Merged.{merged}
use Rattle.ale.specs.Normal.{inconsistent, normal_tree, tidy, tidy_all}
use Rattle.ale.specs.Theory.{CanonicalBottom, CanonicalBottomAll, lcs}
use Rattle.ale.specs.Product.{edge_counts, product}
use Rattle.ale.specs.Signature.{Signature}
use Rattle.ale.specs.Table.{Table}
use Rattle.ale.specs.Tree.{All, Forest, Kind, Tree, bottom_tree, cons, nil, node}
use Rattle.ale.proofs.Pairs.{All-pairForest, Pairs, pair_forest, product_elim}
use Rattle.ale.proofs.Tests.{chosen, clash, or_fails_left}
use Rattle.ale.proofs.Trees.{All-map}

module _ (S : Signature) where
  abbrev CanonicalEdge : Kind → ℕ → Tree S → Type 0
  CanonicalEdge k r t = CanonicalBottom S t

  each_canonical : (f : Forest S) → All S CanonicalEdge f → CanonicalBottomAll S f
  each_canonical nil h = tt
  each_canonical (cons k r t f) h = (h.0, each_canonical f h.1)

  cons_reduced_canonical : (k : Kind) (r : ℕ) (t : Tree S) (f : Forest S) → CanonicalBottom S t → CanonicalBottomAll S f →
      CanonicalBottomAll S (cons_reduced S k r t f)
  cons_reduced_canonical k r t f a b = chosen (λ g. CanonicalBottomAll S g) (dropped S k t) f (cons k r t f) (λ _. b) (λ _. (a, b))

  mutual
    pub tidy_canonical : (t : Tree S) → CanonicalBottom S (tidy S t)
    tidy_canonical (node l f) =
        let h = tidy_all_canonical f in
        chosen (λ t. CanonicalBottom S t) (inconsistent S l (tidy_all S f)) (bottom_tree S) (node l (tidy_all S f)) (λ _. (λ _. (refl, refl), tt))
        (λ n. (λ m. absurd (clash l.bottom m (or_fails_left l.bottom _ n)), h))

    tidy_all_canonical : (f : Forest S) → CanonicalBottomAll S (tidy_all S f)
    tidy_all_canonical nil = tt
    tidy_all_canonical (cons k r t f) = cons_reduced_canonical k r (tidy S t) (tidy_all S f) (tidy_canonical t) (tidy_all_canonical f)

  canonical_each : (f : Forest S) → CanonicalBottomAll S f → All S CanonicalEdge f
  canonical_each nil h = tt
  canonical_each (cons k r t f) h = (h.0, canonical_each f h.1)

  mutual
    pub product_canonical : (v w : Tree S) → CanonicalBottom S v → CanonicalBottom S w → CanonicalBottom S (product S v w)
    product_canonical (node l f) (node m g) a b =
        product_elim S (λ t. CanonicalBottom S t) l m f g (λ _. b) (λ _. a) (λ _ _.
        (λ x. absurd x, each_canonical (pair_forest S f g) (All-pairForest S CanonicalEdge f g (λ k r _. pairs_canonical f k r g a.1 b.1))))

    pairs_canonical : (f : Forest S) (k : Kind) (r : ℕ) (g : Forest S) → CanonicalBottomAll S f → CanonicalBottomAll S g → Pairs S CanonicalEdge k r f g
    pairs_canonical nil k r g a b = tt
    pairs_canonical (cons k' r' c f) k r g a b = (
      λ _. All-map S CanonicalEdge (λ k'' r'' e. T (edge_counts S k r k'' r'') → CanonicalBottom S (product S c e))
          (λ k'' r'' e x _. product_canonical c e a.0 x) g (canonical_each g b),
      pairs_canonical f k r g a.1 b,
    )

  pub lcs_canonical : (p q : Table S) (n m : ℕ) → CanonicalBottom S (lcs S p q n m)
  lcs_canonical p q n m =
      product_canonical (normal_tree S p n) (normal_tree S q m) (tidy_canonical (merged S p n (0 ∷ []))) (tidy_canonical (merged S q m (0 ∷ [])))
