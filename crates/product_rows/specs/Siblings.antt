-- Rows that hang from the same row, in row order, and the order of their edges. Nobody has to believe these.
--   siblings     row e and those after it that hang from the same row; none where e is 0
--   forest_of     rows as successors, each with its tree down to a depth
--   forest_from   these as successors
--   edge_of       the edge of row e, as it hangs from a row of another table
--   key_at        the place of row e's edge in the order of successors (ale, PairWalks: `edgeKey`)
--   drop_lower    a list of rows from the first on whose edge does not stand before a place
--   Trim         what is asked of a normal table's tree: no all-successor is empty, successors are ordered, roles are
--                known
--   TrimAll      the same of successors
--   Kept         the same of a row's tree, which is not dropped
use Rattle.std.specs.Prelude.{ℕ, leb, List, [], ◌∷◌, false, ◌≡◌}
use Rattle.table.specs.Fields.{kind_of, parent_of, role_of}
use Rattle.table.specs.Pick.{pick}
use Rattle.row_sets.proofs.LinkLists.{ahead}
use Rattle.ale.proofs.PairWalks.{edge_key}
use Rattle.ale.specs.Theory.{Ordered, OrderedAll, Reduced, ReducedAll}
use Rattle.ale.specs.PictureSignature.{picture_signature}
use Rattle.ale.specs.Table.{successors}
use Rattle.ale.specs.Tree.{Forest, Kind, RolesKnown, RolesKnownAll, Tree}
use Rattle.meaning.specs.Meaning.{kind_at, picture_table}
use Rattle.normal_writer.specs.declared.node.Edge.{Edge}
use Rattle.homomorphism_search.specs.Search.{tree_at}
use Rattle.ale.specs.Forest.{dropped}

abbrev pub siblings : List ℕ → ℕ → ℕ → List ℕ
siblings t rows e = ahead (parent_of t) rows (parent_of t e) e

abbrev pub forest_of : List ℕ → ℕ → List ℕ → Forest picture_signature
forest_of t depth rows = successors picture_signature (picture_table t) (tree_at t depth) rows

abbrev pub forest_from : List ℕ → ℕ → ℕ → ℕ → Forest picture_signature
forest_from t rows depth e = forest_of t depth (siblings t rows e)

abbrev pub edge_of : List ℕ → ℕ → ℕ → Edge
edge_of t e parent = record { parent = parent; kind = kind_of t e; role = role_of t e }

unfoldable pub key_at : List ℕ → ℕ → ℕ
key_at t e = edge_key (kind_at (kind_of t e)) (role_of t e)

abbrev pub drop_lower : List ℕ → ℕ → List ℕ → List ℕ
drop_lower t key [] = []
drop_lower t key (e ∷ es) = pick (leb key (key_at t e)) (e ∷ es) (drop_lower t key es)

pub record Trim (t : Tree picture_signature) : Type 0 where
  pub reduced : Reduced picture_signature t
  pub ordered : Ordered picture_signature t
  pub known : RolesKnown picture_signature t

pub record TrimAll (f : Forest picture_signature) : Type 0 where
  pub reduced : ReducedAll picture_signature f
  pub ordered : OrderedAll picture_signature f
  pub known : RolesKnownAll picture_signature f

pub record Kept (k : Kind) (t : Tree picture_signature) : Type 0 where
  pub trim : Trim t
  pub kept : dropped picture_signature k t ≡ false
