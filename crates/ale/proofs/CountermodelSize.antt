-- The countermodel of d and v has at most (height of d + 1) * (size of v) individuals.
-- By induction on d. For a some-edge to e, each some-successor of v becomes its canonical model, which is no larger, or its countermodel with e,
-- which is less high than d. For an all-edge to e, one such countermodel is added to the canonical model, so v is counted once more than for e.
use Prim.Native.Nat.{◌*◌, ◌+◌, ◌≤◌, max, suc, ℕ}
use lib.Dec.{eqb}
use mathlib.Core.Bool.{Bool, ◌&&◌, false, not, true}
use native.Mathlib.Nat.{le-max_left, le-max_right, mul-le-mul_left, mul-le-mul_right}
use native.Mathlib.Omega.{arith}
use Rattle.table.specs.Pick.{pick}
use Rattle.ale.specs.Countermodel.{canonical, canonical_all, countermodel, falsify, falsify_all, individual, realize, value_of, widened}
use Rattle.ale.specs.Homomorphism.{edge_serves, maps_to}
use Rattle.ale.specs.Signature.{Signature}
use Rattle.ale.specs.Tree.{Forest, Kind, Tree, any, cons, exists, forAll, height, heights, nil, node, size, sizes}

module _ (S : Signature) where
  mutual
    canonical_size : (v : Tree S) → size S (canonical S v) ≤ size S v
    canonical_size (node l g) = omega (arith, canonical_sizes g)

    canonical_sizes : (g : Forest S) → sizes S (canonical_all S g) ≤ sizes S g
    canonical_sizes nil = omega arith
    canonical_sizes (cons exists r c g) = omega (arith, canonical_size c, canonical_sizes g)
    canonical_sizes (cons forAll r c g) = omega (arith, canonical_sizes g)

  value_of_size : (r : ℕ) (g : Forest S) → size S (value_of S r g) ≤ suc (sizes S g)
  value_of_size r nil = omega arith
  value_of_size r (cons exists s t g) = omega (arith, value_of_size r g)
  value_of_size r (cons forAll s t g) = step (eqb s r) (value_of_size r g)
    where
      step : (b : Bool) → size S (value_of S r g) ≤ suc (sizes S g) → size S (pick b t (value_of S r g)) ≤ suc (size S t + sizes S g)
      step true h = omega arith
      step false h = omega arith

  -- one edge to d falsified, where h gives the countermodels of d, of height n
  module _ (r n : ℕ) (h : Tree S → Tree S) (bound : (c : Tree S) → size S (h c) ≤ suc n * size S c) where
    refuting_size : (b : Bool) (c : Tree S) → size S (pick b (h c) (canonical S c)) ≤ suc n * size S c
    refuting_size true c = bound c
    refuting_size false c = omega (arith, canonical_size c)

    realize_sizes : (g : Forest S) → sizes S (realize S (λ r' c. pick (S.subrole r' r) (h c) (canonical S c)) g) ≤ suc n * sizes S g
    realize_sizes nil = omega arith
    realize_sizes (cons exists r' c g) = omega (arith, refuting_size (S.subrole r' r) c, realize_sizes g)
    realize_sizes (cons forAll r' c g) = omega (arith, realize_sizes g)

    falsify_sizes : (k : Kind) (g : Forest S) → suc (sizes S (falsify S k r h g)) ≤ suc (suc n) * suc (sizes S g)
    falsify_sizes exists g = omega (arith, realize_sizes g)
    falsify_sizes forAll g = omega (arith, bound (value_of S r g), mul-le-mul_left (suc n) (value_of_size r g), canonical_sizes g)

  node_size : (a b : Bool) (p q : S.Names) (cs js : Forest S) (n : ℕ) → suc (sizes S cs) ≤ n → suc (sizes S js) ≤ n →
      size S (pick a (pick b (individual S p cs) (individual S q js)) (individual S p js)) ≤ n
  node_size true true p q cs js n h k = h
  node_size true false p q cs js n h k = k
  node_size false b p q cs js n h k = k

  falsify_all_step_size : (b : Bool) (cs js : Forest S) (m n s : ℕ) → suc (sizes S cs) ≤ suc n * suc s → suc (sizes S js) ≤ suc m * suc s →
      suc (sizes S (pick b cs js)) ≤ suc (max m n) * suc s
  falsify_all_step_size true cs js m n s h k = omega (arith, mul-le-mul_right (suc s) (le-max_right m n))
  falsify_all_step_size false cs js m n s h k = omega (arith, mul-le-mul_right (suc s) (le-max_left m n))

  mutual
    pub countermodel_size : (d v : Tree S) → size S (countermodel S d v) ≤ suc (height S d) * size S v
    countermodel_size (node l f) (node m g) =
        node_size (S.subset l.wanted m.wanted && not l.bottom) (S.subset l.excluded m.excluded) m.wanted (widened S l m)
        (falsify_all S f g) (canonical_all S g) (suc (heights S f) * suc (sizes S g)) (falsify_all_sizes f g) (omega (arith, canonical_sizes g))

    falsify_all_sizes : (f g : Forest S) → suc (sizes S (falsify_all S f g)) ≤ suc (heights S f) * suc (sizes S g)
    falsify_all_sizes nil g = omega (arith, canonical_sizes g)
    falsify_all_sizes (cons k r d f) g =
        let h : Tree S → Tree S = λ c. countermodel S d c in
        falsify_all_step_size (any S (edge_serves S k r (λ c. maps_to S d c)) g) (falsify_all S f g) (falsify S k r h g)
        (suc (height S d)) (heights S f) (sizes S g) (falsify_all_sizes f g) (falsify_sizes r (height S d) h (λ c. countermodel_size d c) k g)
