-- The successors of a product node one by one: each successor of the first node in turn, with each of the second's by the same kind and role.
-- A product takes roles in turn; ordered successors stand by role, all before some, so where a role includes only itself both ways give the same.
--   edge_key                       the place of an edge in the order of successors
--   key_kind                      edges in the same place are of one kind
--   pair_walk                      each successor of the first in turn
--   KeysFrom, keys_lower          no successor stands before place n; nor then before a lower one
--   ordered_keys                  the places of ordered successors rise
--   counts_same, counts_other     an edge counts for another exactly if both have one place
--   each_on, each_past            one successor with the second's: one more of its place; none where all are later
--   walk_skip                     a successor of the second that stands before all of the first's is paired with none
--   pair_forest_walk               role by role is successor by successor
--   picture_equal                 in paper 01 a role includes only itself
use Prim.Native.Nat.{◌+◌, ◌<◌, ◌≤◌, ℕ}
use lib.Dec.{T, eqb, eqb_refl, eqb→eq}
use mathlib.Core.Bool.{false, true}
use mathlib.Core.Path.{◌∙◌, ◌≡◌, ap, ap₂, refl, subst, sym}
use native.Mathlib.Omega.{arith}
use Rattle.table.proofs.Bools.{is_false, is_true}
use Rattle.table.specs.Pick.{pick}
use Rattle.ale.specs.Forest.{append, cons_reduced, dropped}
use Rattle.ale.specs.Homomorphism.{role_serves}
use Rattle.ale.specs.Theory.{Before, OrderedAll}
use Rattle.ale.specs.PictureSignature.{picture_signature}
use Rattle.ale.specs.Product.{edge_counts, pair_all, pair_each, product}
use Rattle.ale.specs.Signature.{Signature}
use Rattle.ale.specs.Tree.{All, Forest, Kind, RolesKnownAll, Tree, cons, exists, forAll, nil, same_kind}
use Rattle.ale.proofs.Appends.{by_role_first, by_role_same, cons_reduced_append, forest_assoc}
use Rattle.ale.proofs.Pairs.{pair_forest, pair_role}
use Rattle.ale.proofs.Tests.{and_intro, and_left, and_right, refute}
use Rattle.ale.proofs.Trees.{All-map, same_kind_eq, same_kind_refl}

-- by role, all before some
abbrev pub edge_key : Kind → ℕ → ℕ
edge_key forAll r = r + r
edge_key exists r = r + r + 1

key_range : (k : Kind) (r : ℕ) → (r + r ≤ edge_key k r) × (edge_key k r ≤ r + r + 1)
key_range forAll r = (omega arith, omega arith)
key_range exists r = (omega arith, omega arith)

key_role : (k : Kind) (r : ℕ) (k' : Kind) (r' : ℕ) → edge_key k r ≡ edge_key k' r' → r ≡ r'
key_role k r k' r' e = omega (arith, key_range k r, key_range k' r')

pub key_kind : (k : Kind) (r : ℕ) (k' : Kind) (r' : ℕ) → edge_key k r ≡ edge_key k' r' → k ≡ k'
key_kind forAll r forAll r' e = refl
key_kind forAll r exists r' e = absurd (omega arith)
key_kind exists r forAll r' e = absurd (omega arith)
key_kind exists r exists r' e = refl

module _ (S : Signature) where
  abbrev pub pair_walk : Forest S → Forest S → Forest S
  pair_walk nil g = nil
  pair_walk (cons k r c f) g = append S (pair_each S k r (λ e. product S c e) g) (pair_walk f g)

  abbrev pub KeysFrom : ℕ → Forest S → Type 0
  KeysFrom n f = All S (λ k r _. n ≤ edge_key k r) f

  pub keys_lower : (m n : ℕ) (f : Forest S) → m ≤ n → KeysFrom n f → KeysFrom m f
  keys_lower m n f l a = All-map S (λ k r _. n ≤ edge_key k r) (λ k r _. m ≤ edge_key k r) (λ k r _ b. omega arith) f a

  before_key : (k : Kind) (r : ℕ) (k' : Kind) (r' : ℕ) → Before S r k' r' → edge_key k r ≤ edge_key k' r'
  before_key k r forAll r' b = omega (arith, key_range k r)
  before_key k r exists r' b = omega (arith, key_range k r)

  pub ordered_keys : (k : Kind) (r : ℕ) (t : Tree S) (f : Forest S) → OrderedAll S (cons k r t f) → KeysFrom (edge_key k r) (cons k r t f)
  ordered_keys k r t f o =
      (omega arith, All-map S (λ k' r' _. Before S r k' r') (λ k' r' _. edge_key k r ≤ edge_key k' r') (λ k' r' _ b. before_key k r k' r' b) f o.0)

-- where a role includes only itself
module _ (S : Signature) (equal : (k : Kind) (r s : ℕ) → role_serves S k r s ≡ eqb r s) where
  pub counts_same : (k : Kind) (r : ℕ) (k' : Kind) (r' : ℕ) → edge_key k r ≡ edge_key k' r' → edge_counts S k r k' r' ≡ true
  counts_same k r k' r' e =
      let serves = subst (λ z. T (role_serves S k r' z)) (sym (key_role k r k' r' e)) (subst T (sym (equal k r' r')) (eqb_refl r')) in
      let same = subst (λ j. T (same_kind k j)) (key_kind k r k' r' e) (same_kind_refl k) in
      is_true (edge_counts S k r k' r') (and_intro (same_kind k k') (role_serves S k r' r) same serves)

  counted_key : (k : Kind) (r : ℕ) (k' : Kind) (r' : ℕ) → T (edge_counts S k r k' r') → edge_key k r ≡ edge_key k' r'
  counted_key k r k' r' t =
      let serves = and_right (same_kind k k') (role_serves S k r' r) t in
      ap₂ edge_key (same_kind_eq k k' (and_left (same_kind k k') (role_serves S k r' r) t)) (sym (eqb→eq r' r (subst T (equal k r' r) serves)))

  pub counts_other : (k : Kind) (r : ℕ) (k' : Kind) (r' : ℕ) → (edge_key k r ≡ edge_key k' r' → ⊥) → edge_counts S k r k' r' ≡ false
  counts_other k r k' r' u = is_false (edge_counts S k r k' r') (refute (edge_counts S k r k' r') (λ t. u (counted_key k r k' r' t)))

  pub each_on : (k : Kind) (r : ℕ) (h : Tree S → Tree S) (k' : Kind) (r' : ℕ) (e : Tree S) (g : Forest S) → edge_key k r ≡ edge_key k' r' →
      pair_each S k r h (cons k' r' e g) ≡ append S (cons_reduced S k r (h e) nil) (pair_each S k r h g)
  each_on k r h k' r' e g s =
      let later = pair_each S k r h g in
      ap (λ b. pick b (cons_reduced S k r (h e) later) later) (counts_same k r k' r' s)
      ∙ cons_reduced_append S k r (h e) nil later (dropped S k (h e))

  each_other : (k : Kind) (r : ℕ) (h : Tree S → Tree S) (k' : Kind) (r' : ℕ) (e : Tree S) (g : Forest S) → (edge_key k r ≡ edge_key k' r' → ⊥) →
      pair_each S k r h (cons k' r' e g) ≡ pair_each S k r h g
  each_other k r h k' r' e g u =
      let later = pair_each S k r h g in ap (λ b. pick b (cons_reduced S k r (h e) later) later) (counts_other k r k' r' u)

  pub each_past : (k : Kind) (r : ℕ) (h : Tree S → Tree S) (n : ℕ) (g : Forest S) → edge_key k r < n → KeysFrom S n g → pair_each S k r h g ≡ nil
  each_past k r h n nil l a = refl
  each_past k r h n (cons k' r' e g) l a = each_other k r h k' r' e g (λ s. omega (arith, a.0)) ∙ each_past k r h n g l a.1

  pub walk_skip : (f : Forest S) (n : ℕ) (k : Kind) (r : ℕ) (e : Tree S) (g : Forest S) → KeysFrom S n f → edge_key k r < n →
      pair_walk S f (cons k r e g) ≡ pair_walk S f g
  walk_skip nil n k r e g a l = refl
  walk_skip (cons k' r' c f) n k r e g a l =
      ap₂ (λ x y. append S x y) (each_other k' r' (λ e. product S c e) k r e g (λ s. omega (arith, a.0))) (walk_skip f n k r e g a.1 l)

  -- the same of the first's successors, of one kind and for one role
  module _ (k : Kind) (r : ℕ) (g : Forest S) where
    all_on : (c : Tree S) (f : Forest S) → pair_all S (cons k r c f) k r g ≡ append S (pair_each S k r (λ e. product S c e) g) (pair_all S f k r g)
    all_on c f =
        let later = pair_all S f k r g in
        ap (λ b. pick b (append S (pair_each S k r (λ e. product S c e) g) later) later) (counts_same k r k r refl)

    all_other : (k' : Kind) (r' : ℕ) (c : Tree S) (f : Forest S) → (edge_key k r ≡ edge_key k' r' → ⊥) →
        pair_all S (cons k' r' c f) k r g ≡ pair_all S f k r g
    all_other k' r' c f u =
        let later = pair_all S f k r g in
        ap (λ b. pick b (append S (pair_each S k r (λ e. product S c e) g) later) later) (counts_other k r k' r' u)

    all_past : (n : ℕ) (f : Forest S) → edge_key k r < n → KeysFrom S n f → pair_all S f k r g ≡ nil
    all_past n nil l a = refl
    all_past n (cons k' r' c f) l a = all_other k' r' c f (λ s. omega (arith, a.0)) ∙ all_past n f l a.1

  -- no pairs are for a role below those of the first's successors
  role_past : (k : Kind) (r : ℕ) (f g : Forest S) → KeysFrom S (edge_key k r) f → (s : ℕ) → s < r → pair_role S f g s ≡ nil
  role_past k r f g a s l =
      let none : (j : Kind) → pair_all S f j s g ≡ nil = λ j. all_past j s g (edge_key k r) f (omega (arith, key_range j s, key_range k r)) a in
      ap₂ (λ x y. append S x y) (none forAll) (none exists)

  -- one more successor of the first adds no pairs for another role, and its own in front of those for its role
  role_other : (k : Kind) (r : ℕ) (c : Tree S) (f g : Forest S) (s : ℕ) → (s ≡ r → ⊥) → pair_role S (cons k r c f) g s ≡ pair_role S f g s
  role_other k r c f g s u =
      let same : (j : Kind) → pair_all S (cons k r c f) j s g ≡ pair_all S f j s g = λ j. all_other j s g k r c f (λ e. u (key_role j s k r e)) in
      ap₂ (λ x y. append S x y) (same forAll) (same exists)

  role_on : (k : Kind) (r : ℕ) (c : Tree S) (f g : Forest S) → KeysFrom S (edge_key k r) f →
      pair_role S (cons k r c f) g r ≡ append S (pair_each S k r (λ e. product S c e) g) (pair_role S f g r)
  role_on forAll r c f g a =
      let first = pair_each S forAll r (λ e. product S c e) g in
      let somes = pair_all S f exists r g in
      ap (λ x. append S x somes) (all_on forAll r g c f) ∙ forest_assoc S first (pair_all S f forAll r g) somes
  role_on exists r c f g a =
      let first = pair_each S exists r (λ e. product S c e) g in
      let somes = pair_all S f exists r g in
      let none = all_past forAll r g (r + r + 1) f (omega arith) a in
      ap₂ (λ x y. append S x y) none (all_on exists r g c f) ∙ ap (λ x. append S first (append S x somes)) (sym none)

  pub pair_forest_walk : (f g : Forest S) → OrderedAll S f → RolesKnownAll S f → pair_forest S f g ≡ pair_walk S f g
  pair_forest_walk nil g o n = by_role_same S (pair_role S nil g) 0 S.roles (omega arith) (λ r _ _. refl)
  pair_forest_walk (cons k r c f) g o n =
      let first = pair_each S k r (λ e. product S c e) g in
      let later = (ordered_keys S k r c f o).1 in
      by_role_first S (pair_role S f g) (pair_role S (cons k r c f) g) r first
      (role_past k r f g later) (role_other k r c f g) (role_on k r c f g later) S.roles n.0
      ∙ ap (λ x. append S first x) (pair_forest_walk f g o.2 n.2)

pub picture_equal : (k : Kind) (r s : ℕ) → role_serves picture_signature k r s ≡ eqb r s
picture_equal exists r s = refl
picture_equal forAll r s = refl
