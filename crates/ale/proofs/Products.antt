-- The product subsumes both trees (003, Theorem 43, parts 1 and 2): whatever fits one of them fits the product.
-- By induction on the pair of trees: the intersected label asks for no more than either label, and each edge of the product comes from
-- two edges, one of each tree, that both serve for it; its end is by induction fitted by whatever fits the end of either.
--   fits_product           what fits one of the trees, whichever, fits the product
use Prim.Native.Nat.{ℕ}
use lib.Dec.{T}
use mathlib.Core.Logic.{◌⊎◌, inl, inr, ⊎_elim, ⊎_map}
use Rattle.ale.specs.Homomorphism.{role_serves}
use Rattle.ale.specs.Product.{edge_counts, label_intersection, product}
use Rattle.ale.specs.Signature.{Signature}
use Rattle.ale.specs.Structure.{Fits, FitsAll, Satisfies, Structure}
use Rattle.ale.specs.Tree.{Forest, Kind, Label, Tree, cons, nil, node, same_kind}
use Rattle.ale.proofs.NameLaws.{intersection_left, intersection_right}
use Rattle.ale.proofs.Pairs.{All-pairForest, Counted, Pairs, counted_always, pair_forest, product_elim}
use Rattle.ale.proofs.Soundness.{restriction_along}
use Rattle.ale.proofs.Structures.{FitsEdge, each_fits, satisfies_narrow}
use Rattle.ale.proofs.Tests.{and_left, and_right, clash}

module _ (S : Signature) (M : Structure S) where
  abbrev FitsAt : M.Element → Kind → ℕ → Tree S → Type 0
  FitsAt x = FitsEdge S M x

  satisfies_intersection : (l m : Label S) (x : M.Element) → Satisfies S M l x ⊎ Satisfies S M m x →
      Satisfies S M (label_intersection S l m) x
  satisfies_intersection l m x p =
      let both = label_intersection S l m in
      ⊎_elim
      (λ c. satisfies_narrow S M both l x (intersection_left S l.wanted m.wanted) (intersection_left S l.excluded m.excluded) (λ t. absurd t) c)
      (λ c. satisfies_narrow S M both m x (intersection_right S l.wanted m.wanted) (intersection_right S l.excluded m.excluded) (λ t. absurd t) c)
      p

  -- the restriction of an edge that counts for (k, r) implies the restriction (k, r) to whatever subsumes its end
  fits_counted : (k : Kind) (r : ℕ) (k' : Kind) (r' : ℕ) (t u : Tree S) → T (edge_counts S k r k' r') →
      ((y : M.Element) → Fits S M t y → Fits S M u y) → (x : M.Element) → FitsAt x k' r' t → FitsAt x k r u
  fits_counted k r k' r' t u c h x p =
      let a = same_kind k k' in
      let b = role_serves S k r' r in
      restriction_along S M k k' r r' (λ y. Fits S M t y) (λ y. Fits S M u y) (and_left a b c) (and_right a b c) h x p

  -- if x fits g, it fits the pairs of the edges that count
  counted_subsumed : (k : Kind) (r : ℕ) (x : M.Element) (h : Tree S → Tree S) →
      ((e : Tree S) (y : M.Element) → Fits S M e y → Fits S M (h e) y) → (g : Forest S) → FitsAll S M g x → Counted S (FitsAt x) k r h g
  counted_subsumed k r x h u nil p = tt
  counted_subsumed k r x h u (cons k' r' e g) p =
      (λ t. fits_counted k r k' r' e (h e) t (u e) x p.0, counted_subsumed k r x h u g p.1)

  mutual
    pub fits_product : (v w : Tree S) (x : M.Element) → Fits S M v x ⊎ Fits S M w x → Fits S M (product S v w) x
    fits_product (node l f) (node m g) x p =
        product_elim S (λ t. Fits S M t x) l m f g
        (λ a. ⊎_elim (λ q. absurd (clash l.bottom a q.0.possible)) (λ q. q) p)
        (λ b. ⊎_elim (λ q. q) (λ q. absurd (clash m.bottom b q.0.possible)) p)
        (λ a b. (
          satisfies_intersection l m x (⊎_map (λ q. q.0) (λ q. q.0) p),
          each_fits S M (pair_forest S f g) x
              (All-pairForest S (FitsAt x) f g (λ k r _. fits_pairs f k r g x (⊎_map (λ q. q.1) (λ q. q.1) p))),
        ))

    fits_pairs : (f : Forest S) (k : Kind) (r : ℕ) (g : Forest S) (x : M.Element) → FitsAll S M f x ⊎ FitsAll S M g x → Pairs S (FitsAt x) k r f g
    fits_pairs nil k r g x p = tt
    fits_pairs (cons k' r' c f) k r g x p = (
      λ t. ⊎_elim
          (λ q. counted_always S (FitsAt x) k r (λ e. product S c e) (λ e.
          fits_counted k r k' r' c (product S c e) t (λ y z. fits_product c e y (inl z)) x q.0) g)
          (λ q. counted_subsumed k r x (λ e. product S c e) (λ e y z. fits_product c e y (inr z)) g q) p,
      fits_pairs f k r g x (⊎_map (λ q. q.1) (λ q. q) p),
    )
