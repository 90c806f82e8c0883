-- The tree of a row no longer changes once it is read deep enough: as far below the row as some rank still has to rise.
-- The rank rises from a row to its successors and is bounded, so below that depth there is no row left. It is the row number, or the depth.
use Prim.Native.Nat.{◌+◌, ◌<◌, ◌≤◌, suc, zero, ℕ}
use lib.Dec.{T}
use mathlib.Core.Path.{◌∙◌, ◌≡◌, ap, refl, sym}
use native.Mathlib.Omega.{arith}
use Rattle.ale.specs.Rows.{filter_below}
use Rattle.ale.specs.Signature.{Signature}
use Rattle.ale.specs.Table.{Table, successor_of, successors, tree_of}
use Rattle.ale.specs.Tree.{node}
use Rattle.ale.proofs.RowLists.{filter_below_out, filter_from_none}
use Rattle.ale.proofs.SameTables.{successors_same}
use Rattle.ale.proofs.TableLaws.{successor_nonzero, successor_parent}
use Rattle.ale.proofs.Tests.{refute}

module _ (S : Signature) (p : Table S) where
  -- a rank that rises from a row to its successors, and is nowhere above the bound
  pub record Ranked (rank : ℕ → ℕ) (bound : ℕ) : Type 0 where
    pub rises : (i j : ℕ) → j < p.rows → T (successor_of S p i j) → rank i < rank j
    pub capped : (j : ℕ) → j < p.rows → rank j ≤ bound

  module _ (rank : ℕ → ℕ) (bound : ℕ) (r : Ranked rank bound) where
    -- one level more changes nothing
    pub tree_of_settled : (n i : ℕ) → bound ≤ rank i + n → tree_of S p n i ≡ tree_of S p (suc n) i
    tree_of_settled zero i h =
        ap (λ s. node (p.label i) (successors S p (λ j. tree_of S p zero j) s))
        (sym (filter_from_none (successor_of S p i) 0 p.rows (λ j a b.
        refute (successor_of S p i j) (λ c. let x = r.rises i j (omega arith) c in let y = r.capped j (omega arith) in omega arith))))
    tree_of_settled (suc n) i h =
        ap (λ f. node (p.label i) f)
        (successors_same S p p (λ j. tree_of S p n j) (λ j. tree_of S p (suc n) j) (filter_below (successor_of S p i) p.rows) (λ j m.
        let (c, l) = filter_below_out (successor_of S p i) p.rows j m in
        let x = r.rises i j l c in
        (refl, refl, tree_of_settled n j (omega arith))))

    -- nor do k levels more
    pub tree_of_deeper : (k n i : ℕ) → bound ≤ rank i + n → tree_of S p n i ≡ tree_of S p (k + n) i
    tree_of_deeper zero n i h = ap (λ m. tree_of S p m i) (let e : n ≡ 0 + n = omega arith in e)
    tree_of_deeper (suc k) n i h =
        tree_of_deeper k n i h ∙ tree_of_settled (k + n) i (omega arith) ∙ ap (λ m. tree_of S p m i) (let e : suc (k + n) ≡ suc k + n = omega arith in e)

module _ (S : Signature) (p : Table S) where
  -- depths as a reader keeps them: one more than the parent's, and nowhere above the limit
  pub ranked_by_depth : (depth : ℕ → ℕ) (limit : ℕ) → ((j : ℕ) → j < p.rows → ¬ (j ≡ 0) → depth j ≡ suc (depth (p.parent j))) →
      ((j : ℕ) → j < p.rows → depth j ≤ limit) → Ranked S p depth limit
  ranked_by_depth depth limit up low = record {
    rises = λ i j b c.
        let d : depth j ≡ suc (depth i) = up j b (successor_nonzero S p i j c) ∙ ap (λ k. suc (depth k)) (successor_parent S p i j c) in
        omega arith;
    capped = low;
  }
