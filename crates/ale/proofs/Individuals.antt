-- The individuals of a table fit what the trees of their rows fit: individual x and the tree of row x, read deep enough, are bisimilar.
-- The same names hold of both, and the individuals that x reaches are the rows that hang from it, whose trees are the successors of its tree.
--   fits_numbered_table, numbered_table_fits   individual 0 fits exactly what the tree of row 0 fits
use Prim.Native.Nat.{◌+◌, ◌<◌, ◌≤◌, suc, zero, ℕ}
use lib.Dec.{T, eqb, eqb→eq}
use mathlib.Core.List.{List, [], ◌∷◌}
use mathlib.Core.Logic.{inl, inr, ⊎_elim}
use mathlib.Core.Path.{◌≡◌, ap, refl, subst, sym}
use native.Mathlib.Omega.{arith}
use Rattle.ale.specs.Countermodel.{interpretation_of, reached}
use Rattle.ale.specs.Interpretation.{structure_of}
use Rattle.ale.specs.Rows.{member}
use Rattle.ale.specs.Signature.{Signature}
use Rattle.ale.specs.Structure.{Fits, Structure}
use Rattle.ale.specs.Table.{ParentsFirst, Table, successor_of, successor_rows, successors, tree_of}
use Rattle.ale.specs.Tree.{Tree, label_of, successors_of}
use Rattle.ale.proofs.Bisimulations.{Bisimulation, bisimilar_fits, converse}
use Rattle.ale.proofs.RowLists.{filter_below_in, filter_below_out, member_head, member_tail}
use Rattle.ale.proofs.TableLaws.{successor_above}
use Rattle.ale.proofs.Tests.{and_intro, and_left, and_right, or_split}
use Rattle.ale.proofs.TreeStructure.{Child, tree_structure}

module _ (S : Signature) (p : Table S) where
  -- a listed row is a successor in the tree
  member_child : (h : ℕ → Tree S) (r y : ℕ) (s : List ℕ) → T (S.subrole (p.role y) r) → T (member y s) → Child S r (h y) (successors S p h s)
  member_child h r y [] i m = absurd m
  member_child h r y (j ∷ s) i m =
      ⊎_elim (λ e. let w = eqb→eq y j e in inl (subst (λ z. T (S.subrole (p.role z) r)) w i, sym (ap h w)))
      (λ m'. inr (member_child h r y s i m')) (or_split (eqb y j) (member y s) m)

  -- and every successor in the tree is that of a listed row
  child_member : (h : ℕ → Tree S) (r : ℕ) (t : Tree S) (s : List ℕ) → Child S r t (successors S p h s) →
      (y : ℕ) × T (member y s) × T (S.subrole (p.role y) r) × (h y ≡ t)
  child_member h r t [] k = absurd k
  child_member h r t (j ∷ s) (inl k) = (j, member_head j s, k.0, k.1)
  child_member h r t (j ∷ s) (inr k) = let (y, m, i, e) = child_member h r t s k in (y, member_tail y j s m, i, e)

  -- the bisimulation: t is the tree of row x, read down to the last row at least
  abbrev TreeOfRow : ℕ → Tree S → Type 0
  TreeOfRow x t = (n : ℕ) × (p.rows ≤ x + n) × (x < p.rows) × (tree_of S p n x ≡ t)

  module _ (pos : 0 < p.rows) (up : ParentsFirst S p) where
    abbrev model : Structure S
    model = structure_of S (interpretation_of S p pos)

    row_forth : (x : ℕ) (t : Tree S) → TreeOfRow x t → (r y : ℕ) → (y < p.rows) × T (reached S p r x y) →
        (u : Tree S) × Child S r u (successors_of S t) × TreeOfRow y u
    row_forth x t (zero, d, b, e) r y (l, h) =
        absurd (omega (arith, successor_above S p up x y l (and_left (successor_of S p x y) (S.subrole (p.role y) r) h)))
    row_forth x t (suc n, d, b, e) r y (l, h) =
        let c = and_left (successor_of S p x y) (S.subrole (p.role y) r) h in
        let i = and_right (successor_of S p x y) (S.subrole (p.role y) r) h in
        let k = member_child (λ j. tree_of S p n j) r y (successor_rows S p x) i (filter_below_in (successor_of S p x) p.rows y c l) in
        let v = successor_above S p up x y l c in
        (tree_of S p n y, subst (λ z. Child S r (tree_of S p n y) (successors_of S z)) e k, (n, omega arith, l, refl))

    row_back : (x : ℕ) (t : Tree S) → TreeOfRow x t → (r : ℕ) (u : Tree S) → Child S r u (successors_of S t) →
        (y : ℕ) × ((y < p.rows) × T (reached S p r x y)) × TreeOfRow y u
    row_back x t (zero, d, b, e) r u k = absurd (omega arith)
    row_back x t (suc n, d, b, e) r u k =
        let (y, m, i, g) = child_member (λ j. tree_of S p n j) r u (successor_rows S p x) (subst (λ z. Child S r u (successors_of S z)) (sym e) k) in
        let (c, l) = filter_below_out (successor_of S p x) p.rows y m in
        let v = successor_above S p up x y l c in
        (y, (l, and_intro (successor_of S p x y) (S.subrole (p.role y) r) c i), (n, omega arith, l, g))

    row_atoms : (x : ℕ) (t : Tree S) → TreeOfRow x t → (n : ℕ) → S.has (p.label x).wanted n ≡ S.has (label_of S t).wanted n
    row_atoms x t (zero, d, b, e) n = ap (λ z. S.has (label_of S z).wanted n) e
    row_atoms x t (suc m, d, b, e) n = ap (λ z. S.has (label_of S z).wanted n) e

    abbrev row_bisimulation : Bisimulation S model (tree_structure S)
    row_bisimulation = record { Related = TreeOfRow; atoms = row_atoms; forth = row_forth; back = row_back }

    pub fits_numbered_table : (t : Tree S) → Fits S (tree_structure S) t (tree_of S p p.rows 0) → Fits S (structure_of S (interpretation_of S p pos)) t 0
    fits_numbered_table t =
        bisimilar_fits S (tree_structure S) model (converse S model (tree_structure S) row_bisimulation) t (tree_of S p p.rows 0) 0
        (p.rows, omega arith, pos, refl)

    pub numbered_table_fits : (t : Tree S) → Fits S (structure_of S (interpretation_of S p pos)) t 0 → Fits S (tree_structure S) t (tree_of S p p.rows 0)
    numbered_table_fits t = bisimilar_fits S model (tree_structure S) row_bisimulation t 0 (tree_of S p p.rows 0) (p.rows, omega arith, pos, refl)
