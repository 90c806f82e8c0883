-- Forests put together: one after the other, role by role, and without what is dropped.
--   append         one after the other
--   by_role         what h gives for each role below n, in turn
--   is_nil          no successors
--   trivial        01: no names, no mark and no successors
--   dropped        01: an all-successor that is trivial; a some-successor never is
--   cons_reduced    one successor more, unless it is dropped
use Rattle.std.specs.Prelude.{suc, zero, ℕ, Bool, ◌&&◌, false, not, true}
use Rattle.table.specs.Pick.{pick}
use Rattle.ale.specs.Signature.{Signature}
use Rattle.ale.specs.Tree.{Forest, Kind, Tree, cons, exists, forAll, nil, node}

module _ (S : Signature) where
  abbrev pub append : Forest S → Forest S → Forest S
  append nil g = g
  append (cons k r t f) g = cons k r t (append f g)

  abbrev pub by_role : (ℕ → Forest S) → ℕ → Forest S
  by_role h zero = nil
  by_role h (suc n) = append (by_role h n) (h n)

  abbrev pub is_nil : Forest S → Bool
  is_nil nil = true
  is_nil (cons k r t f) = false

  abbrev pub trivial : Tree S → Bool
  trivial (node l f) =
      (S.subset l.wanted S.none && (S.subset l.excluded S.none && not l.bottom)) && is_nil f

  abbrev pub dropped : Kind → Tree S → Bool
  dropped exists t = false
  dropped forAll t = trivial t

  abbrev pub cons_reduced : Kind → ℕ → Tree S → Forest S → Forest S
  cons_reduced k r t f = pick (dropped k t) f (cons k r t f)
