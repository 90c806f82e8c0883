-- The names of a product: each is one of a label of one of both trees. Said of any facts P and Q that hold of the names
-- that both trees want, and exclude (CountermodelNames: `Named`): a pair's label has names of both labels, and where
-- one side is ⊥ the other is copied.
--   product_named   the product of two such trees
use Prim.Native.Nat.{ℕ}
use Rattle.ale.specs.Product.{label_intersection, product}
use Rattle.ale.specs.Signature.{Signature}
use Rattle.ale.specs.Tree.{Forest, Kind, Label, Tree, cons, nil, node}
use Rattle.ale.proofs.CountermodelNames.{Named, NamedAll, NamedEdge, WithinLabel, edges_named}
use Rattle.ale.proofs.NameLaws.{intersection_left}
use Rattle.ale.proofs.Pairs.{All-pairForest, Counted, Pairs, pair_forest, product_elim}

module _ (S : Signature) (P Q : ℕ → Type 0) where
  abbrev Edge : Kind → ℕ → Tree S → Type 0
  Edge = NamedEdge S P Q

  intersection_named : (l m : Label S) → WithinLabel S P Q l → WithinLabel S P Q (label_intersection S l m)
  intersection_named l m (a, b) = (
    λ n h. a n (intersection_left S l.wanted m.wanted n h),
    λ n h. b n (intersection_left S l.excluded m.excluded n h),
  )

  counted_named : (k : Kind) (r : ℕ) (h : Tree S → Tree S) → ((e : Tree S) → Named S P Q e → Named S P Q (h e)) →
      (g : Forest S) → NamedAll S P Q g → Counted S Edge k r h g
  counted_named k r h u nil b = tt
  counted_named k r h u (cons k' r' e g) b = (λ t. u e b.0, counted_named k r h u g b.1)

  mutual
    pub product_named : (v w : Tree S) → Named S P Q v → Named S P Q w → Named S P Q (product S v w)
    product_named (node l f) (node m g) a b =
        product_elim S (Named S P Q) l m f g (λ t. b) (λ t. a)
        (λ t u. (
          intersection_named l m a.0,
          edges_named S P Q (pair_forest S f g)
              (All-pairForest S Edge f g (λ k r i. pairs_named f k r g a.1 b.1)),
        ))

    pairs_named : (f : Forest S) (k : Kind) (r : ℕ) (g : Forest S) → NamedAll S P Q f → NamedAll S P Q g →
        Pairs S Edge k r f g
    pairs_named nil k r g a b = tt
    pairs_named (cons k' r' c f) k r g a b = (
      λ t. counted_named k r (λ e. product S c e) (λ e x. product_named c e a.0 x) g b,
      pairs_named f k r g a.1 b,
    )
