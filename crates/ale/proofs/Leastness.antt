-- The product is least: a reduced tree d that maps to two trees maps to their product (003, Theorem 43, part 3).
-- By induction on d. A label within two labels is within their intersection. An edge of d, of a known role, with an image in both trees has the
-- pair of the two images as its image in the product: its end maps to the product of their ends, and as d is reduced the pair is not dropped.
-- Also: tidying keeps roles known.
use Prim.Native.Nat.{◌<◌, ℕ}
use lib.Dec.{T, eqb_refl}
use mathlib.Core.Bool.{Bool, ◌&&◌, false, not, true}
use mathlib.Core.Logic.{inl, inr, ⊎_elim}
use mathlib.Core.Path.{subst, sym}
use Rattle.table.specs.Pick.{pick}
use Rattle.ale.specs.Forest.{append, cons_reduced, dropped, trivial}
use Rattle.ale.specs.Homomorphism.{edge_serves, label_within, maps_all_to, maps_to, role_serves}
use Rattle.ale.specs.Normal.{inconsistent, tidy, tidy_all}
use Rattle.ale.specs.Theory.{Reduced, ReducedAll}
use Rattle.ale.specs.Product.{edge_counts, label_intersection, pair_all, pair_each, product}
use Rattle.ale.specs.Signature.{Signature}
use Rattle.ale.specs.Tree.{Any, Forest, Kind, Label, RolesKnown, RolesKnownAll, Tree, any, bottom_tree, cons, empty_label, exists, forAll, nil, node, same_kind}
use Rattle.ale.proofs.Forests.{Any-append-left, Any-append-right, Any-byRole, Any-consReduced, Any-consReduced-later}
use Rattle.ale.proofs.Labels.{within_intersection, within_possible, within_trans}
use Rattle.ale.proofs.NormalForms.{trivial_maps_to}
use Rattle.ale.proofs.Pairs.{pair_forest, pair_role}
use Rattle.ale.proofs.Tests.{and_intro, and_left, and_right, chosen, chosen_first, clash, or_split, refute}
use Rattle.ale.proofs.Trees.{Any-any, any_any, same_kind_refl}

module _ (S : Signature) where
  role_serves_refl : (k : Kind) (r : ℕ) → T (role_serves S k r r)
  role_serves_refl exists r = S.subrole_refl r
  role_serves_refl forAll r = eqb_refl r

  -- a node that maps to a node other than ⊥ has its label within that node's, and its edges map
  maps_to_parts : (a l : Label S) (h f : Forest S) → T (not l.bottom) → T (maps_to S (node a h) (node l f)) →
      T (label_within S a l) × T (maps_all_to S h f)
  maps_to_parts a l h f u p =
      let x = label_within S a l in
      let y = maps_all_to S h f in
      let q : T (x && y) = ⊎_elim (λ t. absurd (clash l.bottom t u)) (λ t. t) (or_split l.bottom (x && y) p) in
      (and_left x y q, and_right x y q)

  -- what maps to a trivial tree is trivial
  maps_to_trivial : (d t : Tree S) → T (maps_to S d t) → T (trivial S t) → T (trivial S d)
  maps_to_trivial (node a h) (node l (cons k r t f)) p b = absurd (and_right (label_within S l (empty_label S)) false b)
  maps_to_trivial (node a h) (node l nil) p b =
      let e = empty_label S in
      let v : T (label_within S l e) = and_left (label_within S l e) true b in
      let (x, y) = maps_to_parts a l h nil (within_possible S l e v) p in
      subst T (sym (trivial_maps_to S (node a h))) (and_intro (label_within S a e) (maps_all_to S h nil) (within_trans S a l e x v) y)

  maps_to_kept : (k : Kind) (d t : Tree S) → T (not (dropped S k d)) → T (maps_to S d t) → T (not (dropped S k t))
  maps_to_kept exists d t n p = tt
  maps_to_kept forAll d t n p = refute (trivial S t) (λ b. clash (trivial S d) (maps_to_trivial d t p b) n)

  -- the edge (k, r) to d: with an image in both forests, it has one in the forest of pairs
  module _ (k : Kind) (r : ℕ) (d : Tree S) (kept : T (not (dropped S k d)))
      (below : (c e : Tree S) → T (maps_to S d c) → T (maps_to S d e) → T (maps_to S d (product S c e))) where
    abbrev serves : Kind → ℕ → Tree S → Bool
    serves k' r' c = edge_serves S k r (λ t. maps_to S d t) k' r' c

    abbrev Served : Kind → ℕ → Tree S → Type 0
    Served k' r' c = T (serves k' r' c)

    abbrev pairs : Tree S → Forest S → Forest S
    pairs c g = pair_each S k r (λ e. product S c e) g

    served_counts : (k' : Kind) (r' : ℕ) (c : Tree S) → Served k' r' c → T (edge_counts S k r k' r')
    served_counts k' r' c h =
        let x = same_kind k k' in
        let y = role_serves S k r' r in
        let z = maps_to S d c in
        and_intro x y (and_left x (y && z) h) (and_left y z (and_right x (y && z) h))

    served_maps_to : (k' : Kind) (r' : ℕ) (c : Tree S) → Served k' r' c → T (maps_to S d c)
    served_maps_to k' r' c h =
        and_right (role_serves S k r' r) (maps_to S d c) (and_right (same_kind k k') (role_serves S k r' r && maps_to S d c) h)

    served_self : (t : Tree S) → T (maps_to S d t) → Served k r t
    served_self t p =
        and_intro (same_kind k k) (role_serves S k r r && maps_to S d t) (same_kind_refl k) (and_intro (role_serves S k r r) (maps_to S d t) (role_serves_refl k r) p)

    pair_each_served : (c : Tree S) → T (maps_to S d c) → (g : Forest S) → Any S Served g → Any S Served (pairs c g)
    pair_each_served c p nil h = absurd h
    pair_each_served c p (cons k' r' e g) (inl h) =
        let u = product S c e in
        let t = below c e p (served_maps_to k' r' e h) in
        chosen_first (Any S Served) (edge_counts S k r k' r') (cons_reduced S k r u (pairs c g)) (pairs c g) (served_counts k' r' e h)
        (Any-consReduced S Served k r u (pairs c g) (maps_to_kept k d u kept t) (served_self u t))
    pair_each_served c p (cons k' r' e g) (inr h) =
        let q = pair_each_served c p g h in
        chosen (Any S Served) (edge_counts S k r k' r') (cons_reduced S k r (product S c e) (pairs c g)) (pairs c g)
        (λ t. Any-consReduced-later S Served k r (product S c e) (pairs c g) q) (λ t. q)

    pair_all_served : (f g : Forest S) → Any S Served f → Any S Served g → Any S Served (pair_all S f k r g)
    pair_all_served nil g h q = absurd h
    pair_all_served (cons k' r' c f) g (inl h) q =
        let later = pair_all S f k r g in
        chosen_first (Any S Served) (edge_counts S k r k' r') (append S (pairs c g) later) later (served_counts k' r' c h)
        (Any-append-left S Served (pairs c g) later (pair_each_served c (served_maps_to k' r' c h) g q))
    pair_all_served (cons k' r' c f) g (inr h) q =
        let later = pair_all S f k r g in
        let z = pair_all_served f g h q in
        chosen (Any S Served) (edge_counts S k r k' r') (append S (pairs c g) later) later (λ t. Any-append-right S Served (pairs c g) later z) (λ t. z)

    pair_role_served : (f g : Forest S) (j : Kind) → Any S Served (pair_all S f j r g) → Any S Served (pair_role S f g r)
    pair_role_served f g exists h = Any-append-right S Served (pair_all S f forAll r g) (pair_all S f exists r g) h
    pair_role_served f g forAll h = Any-append-left S Served (pair_all S f forAll r g) (pair_all S f exists r g) h

    pair_forest_served : r < S.roles → (f g : Forest S) → T (any S serves f) → T (any S serves g) → T (any S serves (pair_forest S f g))
    pair_forest_served b f g p q =
        let z = pair_role_served f g k (pair_all_served f g (any_any S serves f p) (any_any S serves g q)) in
        Any-any S serves (pair_forest S f g) (Any-byRole S Served (λ r. pair_role S f g r) r S.roles b z)

  -- a node that maps to two maps to their product if its edges do
  maps_to_product_node : (a l m : Label S) (h f g : Forest S) → (T (maps_all_to S h f) → T (maps_all_to S h g) → T (maps_all_to S h (pair_forest S f g))) →
      T (maps_to S (node a h) (node l f)) → T (maps_to S (node a h) (node m g)) → T (maps_to S (node a h) (product S (node l f) (node m g)))
  maps_to_product_node a l m h f g edges p q =
      let both = node (label_intersection S l m) (pair_forest S f g) in
      chosen (λ t. T (maps_to S (node a h) t)) l.bottom (node m g) (pick m.bottom (node l f) both) (λ _. q) (λ u.
      chosen (λ t. T (maps_to S (node a h) t)) m.bottom (node l f) both (λ _. p) (λ v.
      let (x, x') = maps_to_parts a l h f u p in
      let (y, y') = maps_to_parts a m h g v q in
      and_intro (label_within S a (label_intersection S l m)) (maps_all_to S h (pair_forest S f g)) (within_intersection S a l m x y) (edges x' y')))

  mutual
    pub maps_to_product : (d v w : Tree S) → Reduced S d → RolesKnown S d → T (maps_to S d v) → T (maps_to S d w) → T (maps_to S d (product S v w))
    maps_to_product (node a h) (node l f) (node m g) n i p q = maps_to_product_node a l m h f g (λ x y. maps_all_to_pairs h f g n i x y) p q

    maps_all_to_pairs : (h f g : Forest S) → ReducedAll S h → RolesKnownAll S h → T (maps_all_to S h f) → T (maps_all_to S h g) →
        T (maps_all_to S h (pair_forest S f g))
    maps_all_to_pairs nil f g n i p q = tt
    maps_all_to_pairs (cons k r d h) f g n i p q =
        let s = edge_serves S k r (λ t. maps_to S d t) in
        let x = any S s f in
        let y = any S s g in
        and_intro (any S s (pair_forest S f g)) (maps_all_to S h (pair_forest S f g))
        (pair_forest_served k r d n.0 (λ c e x y. maps_to_product d c e n.1 i.1 x y) i.0 f g
        (and_left x (maps_all_to S h f) p) (and_left y (maps_all_to S h g) q))
        (maps_all_to_pairs h f g n.2 i.2 (and_right x (maps_all_to S h f) p) (and_right y (maps_all_to S h g) q))

  cons_reduced_roles_known : (k : Kind) (r : ℕ) (t : Tree S) (f : Forest S) → r < S.roles → RolesKnown S t → RolesKnownAll S f →
      RolesKnownAll S (cons_reduced S k r t f)
  cons_reduced_roles_known k r t f b p q = chosen (λ g. RolesKnownAll S g) (dropped S k t) f (cons k r t f) (λ _. q) (λ _. (b, p, q))

  mutual
    pub tidy_roles_known : (t : Tree S) → RolesKnown S t → RolesKnown S (tidy S t)
    tidy_roles_known (node l f) w =
        chosen (λ t. RolesKnown S t) (inconsistent S l (tidy_all S f)) (bottom_tree S) (node l (tidy_all S f)) (λ _. tt) (λ _. tidy_all_roles_known f w)

    tidy_all_roles_known : (f : Forest S) → RolesKnownAll S f → RolesKnownAll S (tidy_all S f)
    tidy_all_roles_known nil w = tt
    tidy_all_roles_known (cons k r t f) w =
        cons_reduced_roles_known k r (tidy S t) (tidy_all S f) w.0 (tidy_roles_known t w.1) (tidy_all_roles_known f w.2)
