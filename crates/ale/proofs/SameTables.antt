-- The tree of a row depends on nothing but what the rows say: the labels, and below row 0 the parents, kinds and roles.
--   successors_same       the same rows with the same trees are the same successors
--   SameTable             two tables of as many rows that say the same; of row 0, which hangs from none, only its label counts
--   successor_rows_same    the same rows hang from a row
--   tree_of_same           so a row has the same tree, down to any depth
use Prim.Native.Nat.{◌<◌, suc, zero, ℕ}
use lib.Dec.{T, eqb}
use mathlib.Core.Bool.{◌&&◌, not}
use mathlib.Core.List.{List, [], ◌∷◌}
use mathlib.Core.Path.{◌∙◌, ◌≡◌, ap, ap₂, refl}
use native.Mathlib.Omega.{arith}
use Rattle.ale.specs.Rows.{filter_below, member}
use Rattle.ale.specs.Signature.{Signature}
use Rattle.ale.specs.Table.{Table, successor_of, successor_rows, successors, tree_of}
use Rattle.ale.specs.Tree.{Tree, nil, node}
use Rattle.ale.proofs.RowLists.{filter_below_out, filter_from_same, member_head, member_tail}
use Rattle.ale.proofs.TableLaws.{successor_nonzero}

module _ (S : Signature) (p q : Table S) where
  pub successors_same : (h h' : ℕ → Tree S) (s : List ℕ) →
      ((j : ℕ) → T (member j s) → (p.kind j ≡ q.kind j) × (p.role j ≡ q.role j) × (h j ≡ h' j)) →
      successors S p h s ≡ successors S q h' s
  successors_same h h' [] e = refl
  successors_same h h' (j ∷ s) e =
      let (k, r, t) = e j (member_head j s) in
      rw (k, r, t, successors_same h h' s (λ i m. e i (member_tail i j s m)))

  pub record SameTable : Type 0 where
    pub rows : p.rows ≡ q.rows
    pub labels : (j : ℕ) → j < p.rows → p.label j ≡ q.label j
    pub parents : (j : ℕ) → j < p.rows → ¬ (j ≡ 0) → p.parent j ≡ q.parent j
    pub kinds : (j : ℕ) → j < p.rows → ¬ (j ≡ 0) → p.kind j ≡ q.kind j
    pub roles : (j : ℕ) → j < p.rows → ¬ (j ≡ 0) → p.role j ≡ q.role j

  module _ (e : SameTable) where
    successor_of_same : (i j : ℕ) → j < p.rows → successor_of S p i j ≡ successor_of S q i j
    successor_of_same i zero b = refl
    successor_of_same i (suc j) b = ap (λ z. not (eqb (suc j) 0) && eqb z i) (e.parents (suc j) b (λ z. omega arith))

    pub successor_rows_same : (i : ℕ) → successor_rows S p i ≡ successor_rows S q i
    successor_rows_same i =
        filter_from_same (successor_of S p i) (successor_of S q i) 0 p.rows (λ j a b. successor_of_same i j (omega arith))
        ∙ ap (λ n. filter_below (successor_of S q i) n) e.rows

    pub tree_of_same : (n i : ℕ) → i < p.rows → tree_of S p n i ≡ tree_of S q n i
    tree_of_same zero i b = ap (λ l. node l nil) (e.labels i b)
    tree_of_same (suc n) i b =
        ap₂ (λ l f. node l f) (e.labels i b)
        (successors_same (λ j. tree_of S p n j) (λ j. tree_of S q n j) (successor_rows S p i) (λ j m.
        let (c, l) = filter_below_out (successor_of S p i) p.rows j m in
        let z = successor_nonzero S p i j c in
        (e.kinds j l z, e.roles j l z, tree_of_same n j l))
        ∙ ap (λ s. successors S q (λ j. tree_of S q n j) s) (successor_rows_same i))
