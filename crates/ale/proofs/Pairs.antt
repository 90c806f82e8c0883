-- What is true of the successors of a product node, from the pairs of successors that it is made of.
--   pair_role, pair_forest          the successors of a product node, for one role and for all
--   Counted                       true of h e, for the end e of each edge of g that counts for (k, r)
--   Pairs                         true of the product of the ends, for each edge of f and each edge of g that count for (k, r)
--   counted_always, pairs_always  where it is true of every tree
--   All-pairEach, All-pairAll, All-pairForest
--                                 then it is true of the successors of one kind and role, and of all successors
--   product_elim                  a product node is one of the two nodes, where the other is ⊥, or their pair
use Prim.Native.Nat.{◌<◌, ℕ}
use lib.Dec.{T}
use mathlib.Core.Bool.{not}
use Rattle.table.specs.Pick.{pick}
use Rattle.ale.specs.Forest.{append, by_role, cons_reduced}
use Rattle.ale.specs.Product.{edge_counts, label_intersection, pair_all, pair_each, product}
use Rattle.ale.specs.Signature.{Signature}
use Rattle.ale.specs.Tree.{All, Forest, Kind, Label, Tree, cons, exists, forAll, nil, node}
use Rattle.ale.proofs.Forests.{All-append, All-byRole-below, All-consReduced}
use Rattle.ale.proofs.Tests.{chosen}

module _ (S : Signature) where
  abbrev pub pair_role : Forest S → Forest S → ℕ → Forest S
  pair_role f g r = append S (pair_all S f forAll r g) (pair_all S f exists r g)

  abbrev pub pair_forest : Forest S → Forest S → Forest S
  pair_forest f g = by_role S (λ r. pair_role f g r) S.roles

  abbrev pub Counted {ℓ} : (Kind → ℕ → Tree S → Type ℓ) → Kind → ℕ → (Tree S → Tree S) → Forest S → Type ℓ
  Counted P k r h g = All S (λ k' r' e. T (edge_counts S k r k' r') → P k r (h e)) g

  abbrev pub Pairs {ℓ} : (Kind → ℕ → Tree S → Type ℓ) → Kind → ℕ → Forest S → Forest S → Type ℓ
  Pairs P k r f g = All S (λ k' r' c. T (edge_counts S k r k' r') → Counted P k r (λ e. product S c e) g) f

  pub counted_always {ℓ} : (P : Kind → ℕ → Tree S → Type ℓ) (k : Kind) (r : ℕ) (h : Tree S → Tree S) → ((e : Tree S) → P k r (h e)) →
      (g : Forest S) → Counted P k r h g
  counted_always P k r h p nil = tt
  counted_always P k r h p (cons k' r' e g) = (λ t. p e, counted_always P k r h p g)

  pub pairs_always {ℓ} : (P : Kind → ℕ → Tree S → Type ℓ) (k : Kind) (r : ℕ) → ((t : Tree S) → P k r t) → (f g : Forest S) → Pairs P k r f g
  pairs_always P k r p nil g = tt
  pairs_always P k r p (cons k' r' c f) g = (λ t. counted_always P k r (λ e. product S c e) (λ e. p (product S c e)) g, pairs_always P k r p f g)

  pub All-pairEach {ℓ} : (P : Kind → ℕ → Tree S → Type ℓ) (k : Kind) (r : ℕ) (h : Tree S → Tree S) (g : Forest S) → Counted P k r h g →
      All S P (pair_each S k r h g)
  All-pairEach P k r h nil p = tt
  All-pairEach P k r h (cons k' r' e g) p =
      let later = pair_each S k r h g in
      let q = All-pairEach P k r h g p.1 in
      chosen (All S P) (edge_counts S k r k' r') (cons_reduced S k r (h e) later) later
      (λ t. All-consReduced S P k r (h e) later (p.0 t) q) (λ t. q)

  pub All-pairAll {ℓ} : (P : Kind → ℕ → Tree S → Type ℓ) (k : Kind) (r : ℕ) (f g : Forest S) → Pairs P k r f g → All S P (pair_all S f k r g)
  All-pairAll P k r nil g p = tt
  All-pairAll P k r (cons k' r' c f) g p =
      let h : Tree S → Tree S = λ e. product S c e in
      let first = pair_each S k r h g in
      let later = pair_all S f k r g in
      let q = All-pairAll P k r f g p.1 in
      chosen (All S P) (edge_counts S k r k' r') (append S first later) later
      (λ t. All-append S P first later (All-pairEach P k r h g (p.0 t)) q) (λ t. q)

  pub All-pairForest {ℓ} : (P : Kind → ℕ → Tree S → Type ℓ) (f g : Forest S) → ((k : Kind) (r : ℕ) → r < S.roles → Pairs P k r f g) →
      All S P (pair_forest f g)
  All-pairForest P f g p =
      All-byRole-below S P (pair_role f g) S.roles (λ r l.
      All-append S P (pair_all S f forAll r g) (pair_all S f exists r g) (All-pairAll P forAll r f g (p forAll r l)) (All-pairAll P exists r f g (p exists r l)))

  pub product_elim {ℓ} : (Q : Tree S → Type ℓ) (l m : Label S) (f g : Forest S) → (T l.bottom → Q (node m g)) → (T m.bottom → Q (node l f)) →
      (T (not l.bottom) → T (not m.bottom) → Q (node (label_intersection S l m) (pair_forest f g))) → Q (product S (node l f) (node m g))
  product_elim Q l m f g a b c =
      let pair = node (label_intersection S l m) (pair_forest f g) in
      chosen Q l.bottom (node m g) (pick m.bottom (node l f) pair) a (λ x. chosen Q m.bottom (node l f) pair b (λ y. c x y))
