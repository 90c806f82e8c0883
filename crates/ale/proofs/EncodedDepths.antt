-- In the table of a tree no row stands deeper than the tree is high.
-- The rows of a tree are its root and then those of its successors, whose roots stand one deeper; so by induction on the tree, as its height.
--   placed_depth    a row of a tree that stands at row o is no deeper below o than the tree is high
--   encoded_depth   so in the table of a tree no row is deeper than its height
use Prim.Native.Nat.{◌+◌, ◌<◌, ◌≤◌, suc, ℕ}
use lib.ListN.{length}
use mathlib.Core.Logic.{⊎_elim}
use mathlib.Core.Path.{◌≡◌, ap}
use native.Mathlib.Decide.{dec_lt}
use native.Mathlib.Nat.{eq-or-lt_of_le}
use native.Mathlib.Omega.{arith}
use Rattle.ale.specs.Encoding.{encode, encoded}
use Rattle.ale.specs.Signature.{Signature}
use Rattle.ale.specs.Table.{Table}
use Rattle.ale.specs.Tree.{Forest, Tree, cons, exists, height, heights, nil, node, size, sizes}
use Rattle.ale.proofs.Encodings.{Placed, PlacedAll, encode_tree_length, encoded_placed, height_size}

module _ (S : Signature) (p : Table S) (depth : ℕ → ℕ) (under : (j : ℕ) → j < p.rows → ¬ (j ≡ 0) → depth j ≡ suc (depth (p.parent j))) where
  mutual
    pub placed_depth : (t : Tree S) (o : ℕ) → Placed S p t o → o + size S t ≤ p.rows → (y : ℕ) → o ≤ y → y < o + size S t →
        depth y ≤ depth o + height S t
    placed_depth (node l f) o h e y a z =
        ⊎_elim (λ i. omega (arith, ap depth i)) (λ i. forest_depth f o (suc o) (omega arith) h.1 (omega arith) y i (omega arith))
        (eq-or-lt_of_le {n = o} {m = y} a)

    forest_depth : (f : Forest S) (q o : ℕ) → q < o → PlacedAll S p f q o → o + sizes S f ≤ p.rows → (y : ℕ) → o ≤ y → y < o + sizes S f →
        depth y ≤ depth q + heights S f
    forest_depth nil q o l h e y a z = absurd (omega arith)
    forest_depth (cons k r t f) q o l h e y a z =
        let some = height_size S t in
        let d = under o (omega arith) (λ z. omega arith) in
        let g = ap depth h.0 in
        elim (dec_lt y (o + size S t)) [
          | yes b ↦ omega (arith, placed_depth t o h.3 (omega arith) y a b)
          | no b ↦ omega (arith, forest_depth f q (o + size S t) (omega arith) h.4 (omega arith) y (omega arith) (omega arith))
        ]

module _ (S : Signature) (t : Tree S) (depth : ℕ → ℕ) where
  pub encoded_depth : depth 0 ≡ 0 → ((j : ℕ) → j < length (encode S t) → ¬ (j ≡ 0) → depth j ≡ suc (depth ((encoded S t).parent j))) →
      (y : ℕ) → y < length (encode S t) → depth y ≤ height S t
  encoded_depth z under y b =
      let n = encode_tree_length S t 0 exists 0 0 in
      omega (arith, placed_depth S (encoded S t) depth under t 0 (encoded_placed S t) (omega arith) y (omega arith) (omega arith))
