-- The successors of a product stand by role, all before some, with at most one all-successor to a role, where those of both trees do: what is
-- made for one role has that role; all-successors are paired where both have that role, and an ordered tree has at most one.
--   product_ordered, lcs_ordered
use Prim.Native.Nat.{ℕ}
use lib.Dec.{T, eqb→eq}
use mathlib.Core.List.{[], ◌∷◌}
use mathlib.Core.Path.{◌≡◌, refl, subst, sym}
use native.Mathlib.Omega.{arith}
use Rattle.ale.specs.Forest.{append, cons_reduced}
use Rattle.ale.specs.Merged.{merged}
use Rattle.ale.specs.Normal.{normal_tree}
use Rattle.ale.specs.Theory.{Before, Ordered, OrderedAll, lcs}
use Rattle.ale.specs.Product.{edge_counts, pair_all, pair_each, product}
use Rattle.ale.specs.Signature.{Signature}
use Rattle.ale.specs.Table.{Table}
use Rattle.ale.specs.Tree.{All, Forest, Kind, Tree, cons, exists, forAll, nil, node}
use Rattle.ale.proofs.Forests.{All-append}
use Rattle.ale.proofs.Orderings.{BeforeAll, RoleIs, merged_ordered, ordered_append, ordered_by_role, ordered_cons_reduced, tidy_ordered}
use Rattle.ale.proofs.Pairs.{All-pairAll, All-pairEach, counted_always, pair_role, pairs_always, product_elim}
use Rattle.ale.proofs.Tests.{chosen}
use Rattle.ale.proofs.Trees.{All-map}

module _ (S : Signature) where
  -- what comes after an all-successor of role r does not count for all-successors of that role
  not_counted : (r : ℕ) (k' : Kind) (r' : ℕ) → Before S r k' r' → T (edge_counts S forAll r k' r') → ⊥
  not_counted r exists r' b t = t
  not_counted r forAll r' b t = let e = eqb→eq r' r t in omega arith

  each_none : (r : ℕ) (h : Tree S → Tree S) (g : Forest S) → BeforeAll S r g → pair_each S forAll r h g ≡ nil
  each_none r h nil b = refl
  each_none r h (cons k' r' e g) b =
      let later = pair_each S forAll r h g in
      chosen (λ x. x ≡ nil) (edge_counts S forAll r k' r') (cons_reduced S forAll r (h e) later) later
      (λ t. absurd (not_counted r k' r' b.0 t)) (λ _. each_none r h g b.1)

  all_none : (r : ℕ) (f g : Forest S) → BeforeAll S r f → pair_all S f forAll r g ≡ nil
  all_none r nil g b = refl
  all_none r (cons k' r' c f) g b =
      let first = pair_each S forAll r (λ e. product S c e) g in
      let later = pair_all S f forAll r g in
      chosen (λ x. x ≡ nil) (edge_counts S forAll r k' r') (append S first later) later
      (λ t. absurd (not_counted r k' r' b.0 t)) (λ _. all_none r f g b.1)

  -- an all-edge that counts for r has role r
  counted_role : (r : ℕ) (k' : Kind) (r' : ℕ) → T (edge_counts S forAll r k' r') → r' ≡ r
  counted_role r exists r' t = absurd t
  counted_role r forAll r' t = eqb→eq r' r t

  abbrev After : ℕ → Kind → ℕ → Tree S → Type 0
  After r k' r' t = Before S r k' r'

  -- after an edge that counts for (k, r), what is made for (k, r) may follow
  each_after : (k : Kind) (r : ℕ) (h : Tree S → Tree S) (g : Forest S) (k' : Kind) (r' : ℕ) → T (edge_counts S k r k' r') → BeforeAll S r' g →
      BeforeAll S r (pair_each S k r h g)
  each_after exists r h g k' r' t b = All-pairEach S (After r) exists r h g (counted_always S (After r) exists r h (λ e. omega arith) g)
  each_after forAll r h g k' r' t b =
      subst (λ x. BeforeAll S r x) (sym (each_none r h g (subst (λ z. BeforeAll S z g) (counted_role r k' r' t) b))) tt

  all_after : (k : Kind) (r : ℕ) (f g : Forest S) (k' : Kind) (r' : ℕ) → T (edge_counts S k r k' r') → BeforeAll S r' f →
      BeforeAll S r (pair_all S f k r g)
  all_after exists r f g k' r' t b = All-pairAll S (After r) exists r f g (pairs_always S (After r) exists r (λ t. omega arith) f g)
  all_after forAll r f g k' r' t b =
      subst (λ x. BeforeAll S r x) (sym (all_none r f g (subst (λ z. BeforeAll S z f) (counted_role r k' r' t) b))) tt

  pair_each_ordered : (k : Kind) (r : ℕ) (h : Tree S → Tree S) (g : Forest S) → OrderedAll S g → All S (λ k r e. Ordered S (h e)) g →
      OrderedAll S (pair_each S k r h g)
  pair_each_ordered k r h nil o u = tt
  pair_each_ordered k r h (cons k' r' e g) o u =
      let later = pair_each S k r h g in
      let q = pair_each_ordered k r h g o.2 u.1 in
      chosen (λ x. OrderedAll S x) (edge_counts S k r k' r') (cons_reduced S k r (h e) later) later
      (λ t. ordered_cons_reduced S k r (h e) later (each_after k r h g k' r' t o.0) u.0 q) (λ _. q)

  ordered_ends : (f : Forest S) → OrderedAll S f → All S (λ k r t. Ordered S t) f
  ordered_ends nil o = tt
  ordered_ends (cons k r t f) o = (o.1, ordered_ends f o.2)

  pair_role_role : (f g : Forest S) (r : ℕ) → All S (RoleIs S r) (pair_role S f g r)
  pair_role_role f g r =
      All-append S (RoleIs S r) (pair_all S f forAll r g) (pair_all S f exists r g)
      (All-pairAll S (RoleIs S r) forAll r f g (pairs_always S (RoleIs S r) forAll r (λ t. refl) f g))
      (All-pairAll S (RoleIs S r) exists r f g (pairs_always S (RoleIs S r) exists r (λ t. refl) f g))

  mutual
    pub product_ordered : (v w : Tree S) → Ordered S v → Ordered S w → Ordered S (product S v w)
    product_ordered (node l f) (node m g) a b =
        product_elim S (λ t. Ordered S t) l m f g (λ _. b) (λ _. a) (λ _ _.
        ordered_by_role S (pair_role S f g) (pair_role_role f g) (λ r.
        let somes = pair_all S f exists r g in
        let before : BeforeAll S r somes = All-pairAll S (After r) exists r f g (pairs_always S (After r) exists r (λ t. omega arith) f g) in
        ordered_append S (pair_all S f forAll r g) somes (pair_all_ordered f forAll r g a b) (pair_all_ordered f exists r g a b)
        (All-pairAll S (λ k r' t. BeforeAll S r' somes) forAll r f g (pairs_always S (λ k r' t. BeforeAll S r' somes) forAll r (λ t. before) f g)))
        S.roles)

    pair_all_ordered : (f : Forest S) (k : Kind) (r : ℕ) (g : Forest S) → OrderedAll S f → OrderedAll S g → OrderedAll S (pair_all S f k r g)
    pair_all_ordered nil k r g a b = tt
    pair_all_ordered (cons k' r' c f) k r g a b =
        let h : Tree S → Tree S = λ e. product S c e in
        let first = pair_each S k r h g in
        let later = pair_all S f k r g in
        let q = pair_all_ordered f k r g a.2 b in
        let ends = All-map S (λ k r e. Ordered S e) (λ k r e. Ordered S (product S c e)) (λ k r e x. product_ordered c e a.1 x) g (ordered_ends g b) in
        chosen (λ x. OrderedAll S x) (edge_counts S k r k' r') (append S first later) later
        (λ t.
        let after = all_after k r f g k' r' t a.0 in
        ordered_append S first later (pair_each_ordered k r h g b ends) q
        (All-pairEach S (λ k r' t. BeforeAll S r' later) k r h g (counted_always S (λ k r' t. BeforeAll S r' later) k r h (λ e. after) g)))
        (λ _. q)

  pub lcs_ordered : (p q : Table S) (n m : ℕ) → Ordered S (lcs S p q n m)
  lcs_ordered p q n m = product_ordered (normal_tree S p n) (normal_tree S q m) (normal_ordered p n) (normal_ordered q m)
    where
      normal_ordered : (p : Table S) (n : ℕ) → Ordered S (normal_tree S p n)
      normal_ordered p n = tidy_ordered S (merged S p n (0 ∷ [])) (merged_ordered S p n (0 ∷ []))
