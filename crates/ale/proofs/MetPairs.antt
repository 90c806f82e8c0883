-- A bound on the pairs that meet when a tree of individuals is tested against a tree, restriction by restriction. A row and an individual meet only where
-- their parents have met, so each pair at most once: even where every restriction goes through all individuals below, whatever their roles, there are no
-- more meetings than rows times individuals.
--   met, met_all, total   the meetings of a tree with a tree of individuals, nothing being decided early
--   met_bound            at most as many as pairs
use Prim.Native.Nat.{◌*◌, ◌+◌, ◌≤◌, suc, ℕ}
use native.Mathlib.Omega.{arith}
use Rattle.ale.specs.Signature.{Signature}
use Rattle.ale.specs.Tree.{Forest, Tree, cons, nil, node, size, sizes}

module _ (S : Signature) where
  abbrev pub total : (Tree S → ℕ) → Forest S → ℕ
  total h nil = 0
  total h (cons k s b g) = h b + total h g

  abbrev mutual
    pub met : Tree S → Tree S → ℕ
    met (node l f) (node m g) = suc (met_all f g)

    pub met_all : Forest S → Forest S → ℕ
    met_all nil g = 0
    met_all (cons k r d f) g = total (λ b. met d b) g + met_all f g

  total_bound : (h : Tree S → ℕ) (c : ℕ) → ((b : Tree S) → h b ≤ c * size S b) → (g : Forest S) → total h g ≤ c * sizes S g
  total_bound h c e nil = omega arith
  total_bound h c e (cons k s b g) = omega (arith, e b, total_bound h c e g)

  mutual
    pub met_bound : (t b : Tree S) → met t b ≤ size S t * size S b
    met_bound (node l f) (node m g) = omega (arith, met_all_bound f g)

    met_all_bound : (f g : Forest S) → met_all f g ≤ sizes S f * sizes S g
    met_all_bound nil g = omega arith
    met_all_bound (cons k r d f) g = omega (arith, total_bound (λ b. met d b) (size S d) (λ b. met_bound d b) g, met_all_bound f g)
