-- 003, Definition 39 by recursion: whether a tree d maps to a tree v, root to root.
--   role_serves    an edge of role r' serves for one of role r: a some-edge of an included role, an all-edge of the same role
--   edge_serves    an edge of v serves for an edge (k, r) of d whose end passes p
--   label_within   the names of the first label are names of the second, and the first is not ⊥
--   maps_to        v's root is ⊥ (it takes everything), or its label carries d's and each edge of d is served by an edge of v
use Rattle.std.specs.Prelude.{ℕ, eqb, Bool, ◌&&◌, ◌||◌, not, true}
use Rattle.ale.specs.Signature.{Signature}
use Rattle.ale.specs.Tree.{Forest, Kind, Label, Tree, any, cons, exists, forAll, nil, node, same_kind}

module _ (S : Signature) where
  abbrev pub role_serves : Kind → ℕ → ℕ → Bool
  role_serves exists r' r = S.subrole r' r
  role_serves forAll r' r = eqb r' r

  abbrev pub edge_serves : Kind → ℕ → (Tree S → Bool) → Kind → ℕ → Tree S → Bool
  edge_serves k r p k' r' c = same_kind k k' && (role_serves k r' r && p c)

  abbrev pub label_within : Label S → Label S → Bool
  label_within l m = S.subset l.wanted m.wanted && (S.subset l.excluded m.excluded && not l.bottom)

  abbrev mutual
    pub maps_to : Tree S → Tree S → Bool
    maps_to (node l f) (node m g) = m.bottom || (label_within l m && maps_all_to f g)

    pub maps_all_to : Forest S → Forest S → Bool
    maps_all_to nil g = true
    maps_all_to (cons k r d f) g = any S (edge_serves k r (λ c. maps_to d c)) g && maps_all_to f g
