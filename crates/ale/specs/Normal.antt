-- 01, "Then, from the leaves up": inconsistent nodes become ⊥, trivial all-successors are dropped; the normal tree of a table.
--   bottom_exists   a some-successor that is ⊥
--   inconsistent   01, broken: ⊥, or a name both wanted and excluded, or a some-successor that is ⊥
--   tidy_node       ⊥ without names and successors if inconsistent, else the node as it is
--   tidy           that at every node, from the leaves up
--   normal_of       the normal tree of a set of rows
--   normal_tree     that of {root}
use Rattle.std.specs.Prelude.{ℕ, Bool, ◌&&◌, ◌||◌, not, List, [], ◌∷◌}
use Rattle.table.specs.Pick.{pick}
use Rattle.ale.specs.Forest.{cons_reduced}
use Rattle.ale.specs.Merged.{merged}
use Rattle.ale.specs.Signature.{Signature}
use Rattle.ale.specs.Table.{Table}
use Rattle.ale.specs.Tree.{Forest, Kind, Label, Tree, any, bottom_tree, cons, exists, label_of, nil, node, same_kind}

module _ (S : Signature) where
  abbrev pub bottom_exists : Kind → ℕ → Tree S → Bool
  bottom_exists k r t = same_kind k exists && (label_of S t).bottom

  abbrev pub inconsistent : Label S → Forest S → Bool
  inconsistent l f = l.bottom || (not (S.subset (S.intersection l.wanted l.excluded) S.none) || any S bottom_exists f)

  abbrev pub tidy_node : Label S → Forest S → Tree S
  tidy_node l f = pick (inconsistent l f) (bottom_tree S) (node l f)

  abbrev mutual
    pub tidy : Tree S → Tree S
    tidy (node l f) = tidy_node l (tidy_all f)

    pub tidy_all : Forest S → Forest S
    tidy_all nil = nil
    tidy_all (cons k r t f) = cons_reduced S k r (tidy t) (tidy_all f)

module _ (S : Signature) (p : Table S) where
  abbrev pub normal_of : ℕ → List ℕ → Tree S
  normal_of n s = tidy S (merged S p n s)

  abbrev pub normal_tree : ℕ → Tree S
  normal_tree n = normal_of n (0 ∷ [])
