-- The trees as a structure: the wanted names of a tree hold of it, and it reaches its successors, of either kind, by their roles.
use Prim.Native.Nat.{ℕ}
use lib.Dec.{T}
use mathlib.Core.Logic.{◌⊎◌, inl, inr}
use mathlib.Core.Path.{◌≡◌, subst}
use Rattle.ale.specs.Signature.{Signature}
use Rattle.ale.specs.Structure.{Structure}
use Rattle.ale.specs.Tree.{All, Forest, Tree, cons, label_of, nil, successors_of}

module _ (S : Signature) where
  -- y is the end of an edge of the forest whose role is a subrole of r
  abbrev pub Child : ℕ → Tree S → Forest S → Type 0
  Child r y nil = ⊥
  Child r y (cons k s b f) = (T (S.subrole s r) × (b ≡ y)) ⊎ Child r y f

  pub child_respects : (r s : ℕ) (y : Tree S) (f : Forest S) → T (S.subrole r s) → Child r y f → Child s y f
  child_respects r s y nil i h = h
  child_respects r s y (cons k q b f) i (inl h) = inl (S.subrole_trans q r s h.0 i, h.1)
  child_respects r s y (cons k q b f) i (inr h) = inr (child_respects r s y f i h)

  abbrev pub tree_structure : Structure S
  tree_structure = record {
    Element = Tree S;
    holds = λ n b. S.has (label_of S b).wanted n;
    edge = λ r x y. Child r y (successors_of S x);
    respects = λ r s x y. child_respects r s y (successors_of S x);
  }

  -- a property of the role and end of every edge, of either kind
  abbrev pub AllChildren : (ℕ → Tree S → Type 0) → Forest S → Type 0
  AllChildren P f = All S (λ k r b. P r b) f

  -- a property of the ends of every subrole of r is one of whatever is reached by r
  pub children_at : (P : Tree S → Type 0) (r : ℕ) (f : Forest S) → AllChildren (λ s b. T (S.subrole s r) → P b) f →
      (y : Tree S) → Child r y f → P y
  children_at P r nil p y h = absurd h
  children_at P r (cons k s b f) p y (inl h) = subst P h.1 (p.0 h.0)
  children_at P r (cons k s b f) p y (inr h) = children_at P r f p.1 y h
