-- 01, "The file": a table by row number, whatever it is read from, and the tree that hangs from a row.
--   Table          the number of rows, and for each row its parent, kind, role and label
--   successor_of    row j hangs from row i (row 0 hangs from none)
--   successor_rows  the rows that hang from row i, in row order
--   successors     rows as successors, each with the tree that h gives
--   tree_of         the tree of a row down to a depth; a depth that is large enough cuts nothing off (Depths: `treeOf-deeper`)
--   tree           the tree of a picture: that of row 0
--   ParentsFirst   question 11: a parent stands before its row
--   KnownRoles     question 10: roles are below the number of roles
use Rattle.std.specs.Prelude.{◌<◌, suc, zero, ℕ, eqb, Bool, ◌&&◌, not, List, [], ◌∷◌, ◌≡◌}
use Rattle.ale.specs.Rows.{filter_below}
use Rattle.ale.specs.Signature.{Signature}
use Rattle.ale.specs.Tree.{Forest, Kind, Label, Tree, cons, nil, node}

module _ (S : Signature) where
  pub record Table : Type 0 where
    pub rows : ℕ
    pub parent : ℕ → ℕ
    pub kind : ℕ → Kind
    pub role : ℕ → ℕ
    pub label : ℕ → Label S

module _ (S : Signature) (p : Table S) where
  abbrev pub successor_of : ℕ → ℕ → Bool
  successor_of i j = not (eqb j 0) && eqb (p.parent j) i

  abbrev pub successor_rows : ℕ → List ℕ
  successor_rows i = filter_below (successor_of i) p.rows

  abbrev pub successors : (ℕ → Tree S) → List ℕ → Forest S
  successors h [] = nil
  successors h (j ∷ s) = cons (p.kind j) (p.role j) (h j) (successors h s)

  abbrev pub tree_of : ℕ → ℕ → Tree S
  tree_of zero i = node (p.label i) nil
  tree_of (suc n) i = node (p.label i) (successors (λ j. tree_of n j) (successor_rows i))

  abbrev pub tree : ℕ → Tree S
  tree n = tree_of n 0

  abbrev pub ParentsFirst : Type 0
  ParentsFirst = (y : ℕ) → y < p.rows → ¬ (y ≡ 0) → p.parent y < y

  abbrev pub KnownRoles : Type 0
  KnownRoles = (j : ℕ) → j < p.rows → p.role j < S.roles
