-- Merging, tidying and the product make trees no deeper than what they are given, whose roles are all below the number of roles.
-- Merging to depth n goes down n levels, for each role in turn; tidying only drops; a pair of edges in the product is one level.
--   Confined, ConfinedAll                   no deeper than n, and every role is one of the roles
--   confined_height, confined_roles_known    the two parts of that
--   merged_confined, normal_confined        a table merged to depth n is confined to n, and so is its normal tree
--   tidy_confined, product_confined         tidying and the product keep it
--   lcs_confined                            so the least common subsumer at depth n is confined to n
use Prim.Native.Nat.{◌<◌, ◌≤◌, suc, zero, ℕ}
use lib.Dec.{T}
use mathlib.Core.List.{List, [], ◌∷◌}
use native.Mathlib.Omega.{arith}
use Rattle.ale.specs.Forest.{by_role, dropped}
use Rattle.ale.specs.Merged.{merged, role_parts}
use Rattle.ale.specs.Normal.{inconsistent, normal_tree, tidy, tidy_all}
use Rattle.ale.specs.Product.{edge_counts, product}
use Rattle.ale.specs.Theory.{lcs}
use Rattle.ale.specs.Signature.{Signature}
use Rattle.ale.specs.Table.{Table}
use Rattle.ale.specs.Tree.{All, Forest, Kind, RolesKnown, RolesKnownAll, Tree, bottom_tree, cons, height, heights, nil, node}
use Rattle.ale.proofs.Forests.{All-byRole-below}
use Rattle.ale.proofs.Orderings.{All-roleParts}
use Rattle.ale.proofs.Pairs.{All-pairForest, Pairs, pair_forest, product_elim}
use Rattle.ale.proofs.Tests.{chosen}
use Rattle.ale.proofs.Trees.{All-map}

module _ (S : Signature) where
  abbrev mutual
    pub Confined : Tree S → ℕ → Type 0
    Confined (node l f) n = ConfinedAll f n

    pub ConfinedAll : Forest S → ℕ → Type 0
    ConfinedAll nil n = Unit
    ConfinedAll (cons k r t f) zero = ⊥
    ConfinedAll (cons k r t f) (suc n) = (r < S.roles) × Confined t n × ConfinedAll f (suc n)

  abbrev ConfinedEdge : ℕ → Kind → ℕ → Tree S → Type 0
  ConfinedEdge n k r t = (r < S.roles) × Confined t n

  edges_confined : (f : Forest S) (n : ℕ) → All S (ConfinedEdge n) f → ConfinedAll f (suc n)
  edges_confined nil n h = tt
  edges_confined (cons k r t f) n h = (h.0.0, h.0.1, edges_confined f n h.1)

  mutual
    pub confined_roles_known : (t : Tree S) (n : ℕ) → Confined t n → RolesKnown S t
    confined_roles_known (node l f) n h = confined_all_roles_known f n h

    confined_all_roles_known : (f : Forest S) (n : ℕ) → ConfinedAll f n → RolesKnownAll S f
    confined_all_roles_known nil n h = tt
    confined_all_roles_known (cons k r t f) zero h = absurd h
    confined_all_roles_known (cons k r t f) (suc n) h = (h.0, confined_roles_known t n h.1, confined_all_roles_known f (suc n) h.2)

  mutual
    pub confined_height : (t : Tree S) (n : ℕ) → Confined t n → height S t ≤ n
    confined_height (node l f) n h = confined_all_height f n h

    confined_all_height : (f : Forest S) (n : ℕ) → ConfinedAll f n → heights S f ≤ n
    confined_all_height nil n h = omega arith
    confined_all_height (cons k r t f) zero h = absurd h
    confined_all_height (cons k r t f) (suc n) h = omega (arith, confined_height t n h.1, confined_all_height f (suc n) h.2)

  mutual
    pub tidy_confined : (t : Tree S) (n : ℕ) → Confined t n → Confined (tidy S t) n
    tidy_confined (node l f) n h =
        let g = tidy_all S f in
        chosen (λ t. Confined t n) (inconsistent S l g) (bottom_tree S) (node l g) (λ _. tt) (λ _. tidy_all_confined f n h)

    tidy_all_confined : (f : Forest S) (n : ℕ) → ConfinedAll f n → ConfinedAll (tidy_all S f) n
    tidy_all_confined nil n h = tt
    tidy_all_confined (cons k r t f) zero h = absurd h
    tidy_all_confined (cons k r t f) (suc n) h =
        let u = tidy S t in
        let g = tidy_all S f in
        let b = tidy_all_confined f (suc n) h.2 in
        chosen (λ g. ConfinedAll g (suc n)) (dropped S k u) g (cons k r u g) (λ _. b) (λ _. (h.0, tidy_confined t n h.1, b))

  module _ (p : Table S) where
    pub merged_confined : (n : ℕ) (s : List ℕ) → Confined (merged S p n s) n
    merged_confined zero s = tt
    merged_confined (suc n) s =
        let h : List ℕ → Tree S = λ t. merged S p n t in
        edges_confined (by_role S (role_parts S p h s) S.roles) n
        (All-byRole-below S (ConfinedEdge n) (role_parts S p h s) S.roles (λ r b.
        All-roleParts S p (ConfinedEdge n) h s r (λ k t _. (b, merged_confined n t))))

    pub normal_confined : (n : ℕ) → Confined (normal_tree S p n) n
    normal_confined n = tidy_confined (merged S p n (0 ∷ [])) n (merged_confined n (0 ∷ []))

  confined_edges : (f : Forest S) (n : ℕ) → ConfinedAll f (suc n) → All S (λ k r t. Confined t n) f
  confined_edges nil n h = tt
  confined_edges (cons k r t f) n h = (h.1, confined_edges f n h.2)

  -- a forest without successors is confined to any depth
  empty_confined : (f : Forest S) (n : ℕ) → All S (λ k r t. ⊥) f → ConfinedAll f n
  empty_confined nil n h = tt
  empty_confined (cons k r t f) n h = absurd h.0

  mutual
    pub product_confined : (v w : Tree S) (n : ℕ) → Confined v n → Confined w n → Confined (product S v w) n
    product_confined (node l nil) (node m g) zero a b =
        product_elim S (λ t. Confined t zero) l m nil g (λ _. b) (λ _. a) (λ _ _.
        empty_confined (pair_forest S nil g) zero (All-pairForest S (λ k r t. ⊥) nil g (λ k r _. tt)))
    product_confined (node l (cons k r t f)) (node m g) zero a b = absurd a
    product_confined (node l f) (node m g) (suc n) a b =
        product_elim S (λ t. Confined t (suc n)) l m f g (λ _. b) (λ _. a) (λ _ _.
        edges_confined (pair_forest S f g) n (All-pairForest S (ConfinedEdge n) f g (λ k r c. pairs_confined f n k r g c a b)))

    pairs_confined : (f : Forest S) (n : ℕ) (k : Kind) (r : ℕ) (g : Forest S) → r < S.roles → ConfinedAll f (suc n) → ConfinedAll g (suc n) →
        Pairs S (ConfinedEdge n) k r f g
    pairs_confined nil n k r g b u w = tt
    pairs_confined (cons k' r' c f) n k r g b u w = (
      λ _. All-map S (λ k'' r'' e. Confined e n) (λ k'' r'' e. T (edge_counts S k r k'' r'') → ConfinedEdge n k r (product S c e))
          (λ k'' r'' e x _. (b, product_confined c e n u.1 x)) g (confined_edges g n w),
      pairs_confined f n k r g b u.2 w,
    )

  pub lcs_confined : (p q : Table S) (n : ℕ) → Confined (lcs S p q n n) n
  lcs_confined p q n = product_confined (normal_tree S p n) (normal_tree S q n) n (normal_confined p n) (normal_confined q n)
