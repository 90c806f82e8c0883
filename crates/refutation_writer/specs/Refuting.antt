-- What the parts of the refutation writer write, on the tables s (the first) and t (the second), down to a depth: rows of the theory's countermodel
-- (ale, Countermodel), from individual k on, as reached from a parent by a role. Nobody has to believe these.
--   reached_tree, reached_all          rows of a tree, of successors, reached from a parent
--   canonical_tree, canonical_below    the canonical model of row u's tree; what hangs from its root
--   wanted_within                     row w is not marked, and its wanted names are in a set
--   against_tree, against_top          individuals that fit row u, or ⊤, and not row w
--   falsified_below                   what hangs from row u so that row w is not fitted
--   first_value, value_row             the first all-successor of a list by a role; that of row u; 0 if there is none
--   against_value                     where the all-edge of row c is not to be fitted: individuals that fit the all-successor of u by its role, and not c
--   realized_rows, realized_below      where its some-edge is not to be fitted: the some-successors of a list; of u
use Rattle.std.specs.Prelude.{ℕ, eqb, Bool, ◌&&◌, not, List, [], ◌∷◌}
use Rattle.table.specs.Fields.{impossible_of, kind_of, role_of, wanted_of}
use Rattle.table.specs.Layout.{kind_for_all}
use Rattle.table.specs.NameSet.{subset}
use Rattle.table.specs.Pick.{pick}
use Rattle.ale.specs.Countermodel.{canonical, canonical_all, countermodel, falsify_all, realize, value_of}
use Rattle.ale.specs.Encoding.{Row, encode_forest, encode_tree}
use Rattle.ale.specs.PictureSignature.{picture_signature}
use Rattle.ale.specs.Table.{successor_rows, successors}
use Rattle.ale.specs.Tree.{Forest, Tree, exists, successors_of, top}
use Rattle.meaning.specs.Meaning.{picture_table, set_at}
use Rattle.homomorphism_search.specs.Search.{forest_at, tree_at}

-- rows of a tree that is reached, and of successors
abbrev pub reached_tree : Tree picture_signature → ℕ → ℕ → ℕ → List (Row picture_signature)
reached_tree t parent role k = encode_tree picture_signature t parent exists role k

abbrev pub reached_all : Forest picture_signature → ℕ → ℕ → List (Row picture_signature)
reached_all f parent k = encode_forest picture_signature f parent k

unfoldable pub canonical_tree : List ℕ → ℕ → ℕ → Tree picture_signature
canonical_tree s depth u = canonical picture_signature (tree_at s depth u)

unfoldable pub canonical_below : List ℕ → ℕ → ℕ → Forest picture_signature
canonical_below s depth u = canonical_all picture_signature (successors_of picture_signature (tree_at s depth u))

unfoldable pub wanted_within : List ℕ → ℕ → ℕ → Bool
wanted_within t w set = subset (set_at (wanted_of t w)).set set && not (eqb (impossible_of t w) 1)

unfoldable pub against_tree : List ℕ → List ℕ → ℕ → ℕ → ℕ → Tree picture_signature
against_tree s t depth w u = countermodel picture_signature (tree_at t depth w) (tree_at s depth u)

unfoldable pub against_top : List ℕ → ℕ → ℕ → Tree picture_signature
against_top t depth w = countermodel picture_signature (tree_at t depth w) (top picture_signature)

unfoldable pub falsified_below : List ℕ → List ℕ → ℕ → ℕ → ℕ → Forest picture_signature
falsified_below s t depth w u =
    falsify_all picture_signature (successors_of picture_signature (tree_at t depth w)) (successors_of picture_signature (tree_at s depth u))

-- the all-successor of a role, first of a list of rows
abbrev pub first_value : List ℕ → ℕ → List ℕ → ℕ
first_value s role [] = 0
first_value s role (v ∷ vs) = pick (eqb (kind_of s v) kind_for_all) (pick (eqb (role_of s v) role) v (first_value s role vs)) (first_value s role vs)

unfoldable pub value_row : List ℕ → ℕ → ℕ → ℕ
value_row s u role = first_value s role (successor_rows picture_signature (picture_table s) u)

-- individuals that fit the all-successor of a role, or ⊤, and not row c
unfoldable pub against_value : List ℕ → List ℕ → ℕ → ℕ → ℕ → Tree picture_signature
against_value s t depth c u = countermodel picture_signature (tree_at t depth c) (value_of picture_signature (role_of t c) (forest_at s depth u))

-- successors for rows vs of s, where the some-edge of row c is not to be fitted
unfoldable pub realized_rows : List ℕ → List ℕ → ℕ → ℕ → List ℕ → Forest picture_signature
realized_rows s t depth c vs =
    realize picture_signature
    (λ r v. pick (picture_signature.subrole r (role_of t c)) (countermodel picture_signature (tree_at t depth c) v) (canonical picture_signature v))
    (successors picture_signature (picture_table s) (tree_at s depth) vs)

unfoldable pub realized_below : List ℕ → List ℕ → ℕ → ℕ → ℕ → Forest picture_signature
realized_below s t depth c u = realized_rows s t depth c (successor_rows picture_signature (picture_table s) u)
