-- Dropping in the product is complete: no all-successor of a product is trivial, where none of either tree is. A pair is dropped once its own successors
-- are made, so one that becomes trivial is dropped as well.
--   product_reduced, lcs_reduced
use Prim.Native.Nat.{ℕ}
use mathlib.Core.List.{[], ◌∷◌}
use Rattle.ale.specs.Forest.{append, cons_reduced}
use Rattle.ale.specs.Merged.{merged}
use Rattle.ale.specs.Normal.{normal_tree}
use Rattle.ale.specs.Theory.{Reduced, ReducedAll, lcs}
use Rattle.ale.specs.Product.{edge_counts, pair_all, pair_each, product}
use Rattle.ale.specs.Signature.{Signature}
use Rattle.ale.specs.Table.{Table}
use Rattle.ale.specs.Tree.{Forest, Kind, Tree, cons, exists, forAll, nil, node}
use Rattle.ale.proofs.Forests.{reduced_append, reduced_by_role, reduced_cons_reduced}
use Rattle.ale.proofs.Pairs.{pair_role, product_elim}
use Rattle.ale.proofs.Tests.{chosen}
use Rattle.ale.proofs.Tidying.{tidy_reduced}

module _ (S : Signature) where
  -- h keeps trees reduced
  pair_each_reduced : (k : Kind) (r : ℕ) (h : Tree S → Tree S) → ((e : Tree S) → Reduced S e → Reduced S (h e)) →
      (g : Forest S) → ReducedAll S g → ReducedAll S (pair_each S k r h g)
  pair_each_reduced k r h kept nil b = tt
  pair_each_reduced k r h kept (cons k' r' e g) b =
      let later = pair_each S k r h g in
      let q = pair_each_reduced k r h kept g b.2 in
      chosen (λ x. ReducedAll S x) (edge_counts S k r k' r') (cons_reduced S k r (h e) later) later
      (λ _. reduced_cons_reduced S k r (h e) later (kept e b.1) q) (λ _. q)

  mutual
    pub product_reduced : (v w : Tree S) → Reduced S v → Reduced S w → Reduced S (product S v w)
    product_reduced (node l f) (node m g) a b =
        product_elim S (λ t. Reduced S t) l m f g (λ _. b) (λ _. a) (λ _ _.
        reduced_by_role S (pair_role S f g) (λ r.
        reduced_append S (pair_all S f forAll r g) (pair_all S f exists r g) (pair_all_reduced f forAll r g a b) (pair_all_reduced f exists r g a b))
        S.roles)

    pair_all_reduced : (f : Forest S) (k : Kind) (r : ℕ) (g : Forest S) → ReducedAll S f → ReducedAll S g → ReducedAll S (pair_all S f k r g)
    pair_all_reduced nil k r g a b = tt
    pair_all_reduced (cons k' r' c f) k r g a b =
        let h : Tree S → Tree S = λ e. product S c e in
        let first = pair_each S k r h g in
        let later = pair_all S f k r g in
        let q = pair_all_reduced f k r g a.2 b in
        chosen (λ x. ReducedAll S x) (edge_counts S k r k' r') (append S first later) later
        (λ _. reduced_append S first later (pair_each_reduced k r h (λ e x. product_reduced c e a.1 x) g b) q) (λ _. q)

  pub lcs_reduced : (p q : Table S) (n m : ℕ) → Reduced S (lcs S p q n m)
  lcs_reduced p q n m =
      product_reduced (normal_tree S p n) (normal_tree S q m) (tidy_reduced S (merged S p n (0 ∷ []))) (tidy_reduced S (merged S q m (0 ∷ [])))
