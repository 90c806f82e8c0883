-- Where parents come first, no more rows stand below one another than there are: read as deep as it has rows, a table's tree is whole.
--   whole_step   one level of it
--   whole_tree_is   at the bound of any rank it is the same tree
use Prim.Native.Nat.{ℕ, ◌+◌}
use mathlib.Core.Path.{◌∙◌, ◌≡◌, ap, sym}
use native.Mathlib.Omega.{arith}
use Rattle.ale.specs.Signature.{Signature}
use Rattle.ale.specs.Table.{ParentsFirst, Table, successor_rows, successors, tree_of}
use Rattle.ale.specs.Tree.{node}
use Rattle.ale.proofs.Depths.{Ranked, tree_of_deeper, tree_of_settled}
use Rattle.ale.proofs.TableLaws.{successor_above}

module _ (S : Signature) (p : Table S) (up : ParentsFirst S p) where
  ranked_by_row : Ranked S p (λ i. i) p.rows
  ranked_by_row = record { rises = λ i j b c. successor_above S p up i j b c; capped = λ j b. omega arith }

  pub whole_step : (i : ℕ) →
      tree_of S p p.rows i ≡ node (p.label i) (successors S p (λ j. tree_of S p p.rows j) (successor_rows S p i))
  whole_step i = tree_of_settled S p (λ i. i) p.rows ranked_by_row p.rows i (omega arith)

  pub whole_tree_is : (rank : ℕ → ℕ) (bound : ℕ) → Ranked S p rank bound → (i : ℕ) → tree_of S p bound i ≡ tree_of S p p.rows i
  whole_tree_is rank bound r i =
      tree_of_deeper S p rank bound r p.rows bound i (omega arith)
      ∙ ap (λ m. tree_of S p m i) (let e : p.rows + bound ≡ bound + p.rows = omega arith in e)
      ∙ sym (tree_of_deeper S p (λ i. i) p.rows ranked_by_row bound p.rows i (omega arith))
