-- Tidying adds no nodes, and the countermodel of two normal trees stays within its bound.
-- A countermodel has at most (height of d + 1) * (size of v) individuals; a normal tree of depth n is no higher than n.
use Prim.Native.Nat.{◌*◌, ◌+◌, ◌≤◌, suc, ℕ}
use lib.Dec.{T}
use mathlib.Core.Bool.{not}
use mathlib.Core.List.{[], ◌∷◌}
use native.Mathlib.Nat.{mul-le-mul}
use native.Mathlib.Omega.{arith}
use Rattle.ale.specs.Countermodel.{countermodel, max_individuals, numbered}
use Rattle.ale.specs.Forest.{cons_reduced, dropped}
use Rattle.ale.specs.Homomorphism.{maps_to}
use Rattle.ale.specs.Interpretation.{Interpretation, structure_of}
use Rattle.ale.specs.Merged.{merged}
use Rattle.ale.specs.Normal.{inconsistent, normal_tree, tidy, tidy_all}
use Rattle.ale.specs.Signature.{Signature}
use Rattle.ale.specs.Structure.{Fits}
use Rattle.ale.specs.Table.{KnownRoles, Table, tree}
use Rattle.ale.specs.Tree.{Forest, Kind, Tree, bottom_tree, cons, height, nil, node, size, sizes}
use Rattle.ale.proofs.Completeness.{countermodel_count}
use Rattle.ale.proofs.Confined.{confined_height, normal_confined}
use Rattle.ale.proofs.Subsumption.{not_subsumed}
use Rattle.ale.proofs.Tests.{chosen}

module _ (S : Signature) where
  cons_reduced_size : (k : Kind) (r : ℕ) (t : Tree S) (f : Forest S) → sizes S (cons_reduced S k r t f) ≤ size S t + sizes S f
  cons_reduced_size k r t f =
      chosen (λ g. sizes S g ≤ size S t + sizes S f) (dropped S k t) f (cons k r t f) (λ _. omega arith) (λ _. omega arith)

  mutual
    pub tidy_size : (t : Tree S) → size S (tidy S t) ≤ size S t
    tidy_size (node l f) =
        let h = tidy_all_size f in
        chosen (λ t. size S t ≤ suc (sizes S f)) (inconsistent S l (tidy_all S f)) (bottom_tree S) (node l (tidy_all S f))
        (λ _. omega arith) (λ _. omega arith)

    pub tidy_all_size : (f : Forest S) → sizes S (tidy_all S f) ≤ sizes S f
    tidy_all_size nil = omega arith
    tidy_all_size (cons k r t f) = omega (arith, cons_reduced_size k r (tidy S t) (tidy_all S f), tidy_size t, tidy_all_size f)

  pub countermodel_bound : (p q : Table S) (n b : ℕ) → size S (normal_tree S p n) ≤ b →
      (numbered S (countermodel S (normal_tree S q n) (normal_tree S p n))).count ≤ max_individuals n b
  countermodel_bound p q n b h =
      let d = normal_tree S q n in
      let v = normal_tree S p n in
      let count = countermodel_count S d v in
      let high = confined_height S d n (normal_confined S q n) in
      let m : suc (height S d) * size S v ≤ suc n * b = mul-le-mul (omega arith) h in
      omega arith

  -- so a picture of at most b merged rows that is not subsumed is refuted by a small interpretation
  pub small_countermodel : (p q : Table S) → KnownRoles S p → KnownRoles S q → (n b : ℕ) → size S (merged S p n (0 ∷ [])) ≤ b →
      T (not (maps_to S (normal_tree S q n) (normal_tree S p n))) →
      (I : Interpretation S) × (I.count ≤ max_individuals n b) × Fits S (structure_of S I) (tree S p n) 0 × (Fits S (structure_of S I) (tree S q n) 0 → ⊥)
  small_countermodel p q kp kq n b h t =
      let (f, g) = not_subsumed S p q kp kq n n t in
      (numbered S (countermodel S (normal_tree S q n) (normal_tree S p n)), countermodel_bound p q n b (omega (arith, tidy_size (merged S p n (0 ∷ [])))), f, g)
