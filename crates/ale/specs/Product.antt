-- 01, "The product of two normal tables" (003, Definition 42), with dropping.
--   label_intersection   wanted with wanted, excluded with excluded
--   edge_counts          an edge of this kind that counts for role r: an all-edge of r, a some-edge of a role that r includes
--   pair_each            one successor of the first with each of the second, a trivial all-successor dropped
--   pair_all             each successor of the first with each of the second, of one kind, for one role
--   product             a pair with a ⊥ side is the other side; else names intersected, and for each role all with all, some with some
use Rattle.std.specs.Prelude.{ℕ, Bool, ◌&&◌, false}
use Rattle.table.specs.Pick.{pick}
use Rattle.ale.specs.Forest.{append, by_role, cons_reduced}
use Rattle.ale.specs.Homomorphism.{role_serves}
use Rattle.ale.specs.Signature.{Signature}
use Rattle.ale.specs.Tree.{Forest, Kind, Label, Tree, cons, exists, forAll, nil, node, same_kind}

module _ (S : Signature) where
  abbrev pub label_intersection : Label S → Label S → Label S
  label_intersection l m = record {
    wanted = S.intersection l.wanted m.wanted;
    excluded = S.intersection l.excluded m.excluded;
    bottom = false;
  }

  abbrev pub edge_counts : Kind → ℕ → Kind → ℕ → Bool
  edge_counts k r k' r' = same_kind k k' && role_serves S k r' r

  abbrev pub pair_each : Kind → ℕ → (Tree S → Tree S) → Forest S → Forest S
  pair_each k r h nil = nil
  pair_each k r h (cons k' r' e g) =
      pick (edge_counts k r k' r') (cons_reduced S k r (h e) (pair_each k r h g)) (pair_each k r h g)

  abbrev mutual
    pub product : Tree S → Tree S → Tree S
    product (node l f) (node m g) =
        pick l.bottom (node m g)
        (pick m.bottom (node l f)
        (node (label_intersection l m) (by_role S (λ r. append S (pair_all f forAll r g) (pair_all f exists r g)) S.roles)))

    pub pair_all : Forest S → Kind → ℕ → Forest S → Forest S
    pair_all nil k r g = nil
    pair_all (cons k' r' c f) k r g =
        pick (edge_counts k r k' r') (append S (pair_each k r (λ e. product c e) g) (pair_all f k r g)) (pair_all f k r g)
