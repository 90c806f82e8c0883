-- Which rows hang from a row, and the label of its tree.
--   not_zero                                               a number that is tested not to be 0 is not
--   successor_parent, successor_nonzero, successor_intro   row y hangs from row x exactly if it is not row 0 and x is its parent
--   successor_above                                        where parents come first, a row stands before its successors
--   tree_of_node                                            whatever the depth, the tree of a row has the row's label
use Prim.Native.Nat.{◌<◌, suc, zero, ℕ}
use lib.Dec.{T, T_not, eqb, eqb_refl, eqb→eq}
use mathlib.Core.Bool.{not}
use mathlib.Core.Path.{◌≡◌, refl, subst, sym}
use native.Mathlib.Omega.{arith}
use Rattle.ale.specs.Signature.{Signature}
use Rattle.ale.specs.Table.{ParentsFirst, Table, successor_of, tree_of}
use Rattle.ale.specs.Tree.{node, successors_of}
use Rattle.ale.proofs.Tests.{and_intro, and_left, and_right, refute}

pub not_zero : (y : ℕ) → T (not (eqb y 0)) → ¬ (y ≡ 0)
not_zero y h e = T_not (eqb y 0) h (subst (λ z. T (eqb z 0)) (sym e) (eqb_refl 0))

module _ (S : Signature) (p : Table S) where
  pub successor_parent : (x y : ℕ) → T (successor_of S p x y) → p.parent y ≡ x
  successor_parent x y h = eqb→eq (p.parent y) x (and_right (not (eqb y 0)) (eqb (p.parent y) x) h)

  pub successor_nonzero : (x y : ℕ) → T (successor_of S p x y) → ¬ (y ≡ 0)
  successor_nonzero x y h = not_zero y (and_left (not (eqb y 0)) (eqb (p.parent y) x) h)

  pub successor_intro : (x y : ℕ) → ¬ (y ≡ 0) → p.parent y ≡ x → T (successor_of S p x y)
  successor_intro x y z e =
      and_intro (not (eqb y 0)) (eqb (p.parent y) x) (refute (eqb y 0) (λ t. z (eqb→eq y 0 t))) (subst (λ w. T (eqb w x)) (sym e) (eqb_refl x))

  pub successor_above : ParentsFirst S p → (x y : ℕ) → y < p.rows → T (successor_of S p x y) → x < y
  successor_above up x y b h = omega (arith, successor_parent x y h, up y b (successor_nonzero x y h))

  pub tree_of_node : (n i : ℕ) → tree_of S p n i ≡ node (p.label i) (successors_of S (tree_of S p n i))
  tree_of_node zero i = refl
  tree_of_node (suc n) i = refl
