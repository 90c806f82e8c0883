-- The individuals of a countermodel are reached by roles of the two trees: question 21 of a refutation that is written from it.
--   countermodel_roles_known   its roles are known where those of both trees are
--   normal_roles_known         as they are of normal trees
--   countermodel_known        so the table of the countermodel of two pictures has known roles
use Prim.Native.Nat.{◌<◌, ℕ}
use lib.Dec.{eqb}
use mathlib.Core.Bool.{◌&&◌, not}
use Rattle.table.specs.Pick.{pick}
use Rattle.ale.specs.Countermodel.{canonical, canonical_all, countermodel, falsify, falsify_all, individual, realize, value_of, widened}
use Rattle.ale.specs.Encoding.{encoded}
use Rattle.ale.specs.Homomorphism.{edge_serves, maps_to}
use Rattle.ale.specs.Normal.{normal_tree}
use Rattle.ale.specs.Signature.{Signature}
use Rattle.ale.specs.Table.{KnownRoles, Table}
use Rattle.ale.specs.Tree.{Forest, Kind, RolesKnown, RolesKnownAll, Tree, any, cons, exists, forAll, nil, node}
use Rattle.ale.proofs.Confined.{confined_roles_known, normal_confined}
use Rattle.ale.proofs.RoleLaws.{encoded_known}
use Rattle.ale.proofs.Tests.{chosen}

module _ (S : Signature) where
  mutual
    canonical_roles_known : (v : Tree S) → RolesKnown S v → RolesKnown S (canonical S v)
    canonical_roles_known (node l g) w = canonical_all_roles_known g w

    canonical_all_roles_known : (g : Forest S) → RolesKnownAll S g → RolesKnownAll S (canonical_all S g)
    canonical_all_roles_known nil w = tt
    canonical_all_roles_known (cons exists r c g) w = (w.0, canonical_roles_known c w.1, canonical_all_roles_known g w.2)
    canonical_all_roles_known (cons forAll r c g) w = canonical_all_roles_known g w.2

  realize_roles_known : (h : ℕ → Tree S → Tree S) → ((r : ℕ) (c : Tree S) → RolesKnown S c → RolesKnown S (h r c)) →
      (g : Forest S) → RolesKnownAll S g → RolesKnownAll S (realize S h g)
  realize_roles_known h u nil w = tt
  realize_roles_known h u (cons exists r c g) w = (w.0, u r c w.1, realize_roles_known h u g w.2)
  realize_roles_known h u (cons forAll r c g) w = realize_roles_known h u g w.2

  value_of_roles_known : (r : ℕ) (g : Forest S) → RolesKnownAll S g → RolesKnown S (value_of S r g)
  value_of_roles_known r nil w = tt
  value_of_roles_known r (cons exists s t g) w = value_of_roles_known r g w.2
  value_of_roles_known r (cons forAll s t g) w = chosen (λ t. RolesKnown S t) (eqb s r) t (value_of S r g) (λ _. w.1) (λ _. value_of_roles_known r g w.2)

  falsify_roles_known : (k : Kind) (r : ℕ) (h : Tree S → Tree S) → r < S.roles → ((c : Tree S) → RolesKnown S c → RolesKnown S (h c)) →
      (g : Forest S) → RolesKnownAll S g → RolesKnownAll S (falsify S k r h g)
  falsify_roles_known exists r h b u g w =
      realize_roles_known (λ r' c. pick (S.subrole r' r) (h c) (canonical S c)) (λ r' c x.
      chosen (λ t. RolesKnown S t) (S.subrole r' r) (h c) (canonical S c) (λ _. u c x) (λ _. canonical_roles_known c x)) g w
  falsify_roles_known forAll r h b u g w = (b, u (value_of S r g) (value_of_roles_known r g w), canonical_all_roles_known g w)

  mutual
    pub countermodel_roles_known : (d v : Tree S) → RolesKnown S d → RolesKnown S v → RolesKnown S (countermodel S d v)
    countermodel_roles_known (node l f) (node m g) a b =
        let plain = canonical_all_roles_known g b in
        let changed = individual S m.wanted (falsify_all S f g) in
        let more = individual S (widened S l m) (canonical_all S g) in
        let excluded = S.subset l.excluded m.excluded in
        chosen (λ t. RolesKnown S t) (S.subset l.wanted m.wanted && not l.bottom) (pick excluded changed more)
        (individual S m.wanted (canonical_all S g))
        (λ _. chosen (λ t. RolesKnown S t) excluded changed more (λ _. falsify_all_roles_known f g a b) (λ _. plain)) (λ _. plain)

    falsify_all_roles_known : (f g : Forest S) → RolesKnownAll S f → RolesKnownAll S g → RolesKnownAll S (falsify_all S f g)
    falsify_all_roles_known nil g a b = canonical_all_roles_known g b
    falsify_all_roles_known (cons k r d f) g a b =
        let h : Tree S → Tree S = λ c. countermodel S d c in
        chosen (λ x. RolesKnownAll S x) (any S (edge_serves S k r (λ c. maps_to S d c)) g) (falsify_all S f g) (falsify S k r h g)
        (λ _. falsify_all_roles_known f g a.2 b) (λ _. falsify_roles_known k r h a.0 (λ c x. countermodel_roles_known d c a.1 x) g b)

  pub normal_roles_known : (p : Table S) (n : ℕ) → RolesKnown S (normal_tree S p n)
  normal_roles_known p n = confined_roles_known S (normal_tree S p n) n (normal_confined S p n)

  pub countermodel_known : 0 < S.roles → (p q : Table S) (n m : ℕ) → KnownRoles S (encoded S (countermodel S (normal_tree S q m) (normal_tree S p n)))
  countermodel_known z p q n m =
      encoded_known S z (countermodel S (normal_tree S q m) (normal_tree S p n))
      (countermodel_roles_known (normal_tree S q m) (normal_tree S p n) (normal_roles_known q m) (normal_roles_known p n))
