-- What the parts of the search decide, on the tables s (the first) and t (the second), down to a depth. Nobody has to believe these: the theory's
-- test (ale, Homomorphism: `maps_to`) is what they come to, `rowMaps` of the two roots.
--   RowLabel           a label of the code is that of row w
--   tree_at, forest_at   the tree of row i, and what hangs from it as successors
--   EdgeRow            a row that hangs: its kind is one of two
--   EdgeIs             an edge of the code is that by which row c hangs
--   label_carried       the label of row w of t is within that of row u of s
--   same_edge           row v of s hangs by the kind of row c of t, and by a role that serves for its role
--   row_maps            row w's tree maps to row u's tree
--   edge_served         an edge of u serves for the edge of row c
--   first_failing       the first row of a list that fails, or 0
--   unserved_row        the first row that hangs from w and that no edge of u serves; 0 if there is none
--   lowest_image        the lowest row that hangs from u by such an edge and to whose tree row c's tree maps; the number of rows if there is none
-- and what the search leaves behind, so that no two rows are compared again:
--   Climbs, Under      so many edges up from row i is row w; row i is w or hangs below it
--   Apart              two lists agree but for rows under w
--   Hangs              row j hangs from row i
--   ImagesKept         of each row that hangs from w the image is there, and a fact of both
--   Found              where row w maps to row u: for each row below w the image that was found, the lowest (below a marked row there is none)
--   FoundBelow         the same of the rows that hang from w, u not being marked
--   EdgesKept          of each row that hangs from u by an edge like that of row c, a fact of both
--   Missed             where row w does not map to row u though its label is carried: for u, and below it, the row that no edge serves
--   MissedBelow        the same of the rows below u, where no edge serves for row c
--   Shallow            no row stands deeper than the depth, which so cuts nothing off
--   Mapped             row 0 maps to row 0, and the images below it were found
use Rattle.std.specs.Prelude.{◌<◌, suc, zero, ℕ, get_or, length, Bool, ◌&&◌, true, List, [], ◌∷◌, ◌≡◌}
use Rattle.table.specs.Fields.{impossible_of, kind_of, parent_of, role_of}
use Rattle.table.specs.Layout.{kind_exists, kind_for_all}
use Rattle.table_rows.specs.Rows.{HasRow}
use Rattle.table.specs.Pick.{pick}
use Rattle.ale.proofs.Depths.{Ranked}
use Rattle.ale.specs.Homomorphism.{edge_serves, label_within, maps_to, role_serves}
use Rattle.ale.specs.PictureSignature.{picture_signature}
use Rattle.ale.specs.RowMap.{edge_joins}
use Rattle.ale.specs.Rows.{first_from}
use Rattle.ale.specs.Table.{successor_rows, successors, tree_of}
use Rattle.ale.specs.Tree.{Forest, Tree, any, same_kind}
use Rattle.meaning.specs.Meaning.{picture_table}
use Rattle.picture.specs.Readable.{row_count}
use Rattle.row_sets.specs.Labels.{LabelIs}
use Rattle.row_sets.specs.declared.label.Label.{Label}
use Rattle.homomorphism_search.specs.declared.edge.RowEdge.{RowEdge}

abbrev pub RowLabel : List ℕ → ℕ → Label → Type 0
RowLabel t w label = LabelIs label ((picture_table t).label w)

-- the tree of row i, and what hangs from it as successors
abbrev pub tree_at : List ℕ → ℕ → ℕ → Tree picture_signature
tree_at t depth i = tree_of picture_signature (picture_table t) depth i

abbrev pub forest_at : List ℕ → ℕ → ℕ → Forest picture_signature
forest_at t depth i = successors picture_signature (picture_table t) (tree_at t depth) (successor_rows picture_signature (picture_table t) i)

-- a row that stands whole in the table and hangs from another
pub record EdgeRow (t : List ℕ) (v : ℕ) : Type 0 where
  pub whole : HasRow t v
  pub edge : (kind_of t v ≡ kind_exists → ⊥) → kind_of t v ≡ kind_for_all

pub record EdgeIs (t : List ℕ) (c : ℕ) (edge : RowEdge) : Type 0 where
  pub row : EdgeRow t c
  pub kind_is : edge.kind ≡ kind_of t c
  pub role_is : edge.role ≡ role_of t c

unfoldable pub label_carried : List ℕ → List ℕ → ℕ → ℕ → Bool
label_carried s t w u = label_within picture_signature ((picture_table t).label w) ((picture_table s).label u)

unfoldable pub same_edge : List ℕ → List ℕ → ℕ → ℕ → Bool
same_edge s t c v =
    same_kind ((picture_table t).kind c) ((picture_table s).kind v)
    && role_serves picture_signature ((picture_table t).kind c) ((picture_table s).role v) ((picture_table t).role c)

unfoldable pub row_maps : List ℕ → List ℕ → ℕ → ℕ → ℕ → Bool
row_maps s t depth w u = maps_to picture_signature (tree_at t depth w) (tree_at s depth u)

unfoldable pub edge_served : List ℕ → List ℕ → ℕ → ℕ → ℕ → Bool
edge_served s t depth u c =
    any picture_signature (edge_serves picture_signature ((picture_table t).kind c) ((picture_table t).role c) (λ x. maps_to picture_signature (tree_at t depth c) x)) (forest_at s depth u)

-- the first row of a list that fails, or 0
abbrev pub first_failing : (ℕ → Bool) → List ℕ → ℕ
first_failing f [] = 0
first_failing f (c ∷ s) = pick (f c) (first_failing f s) c

unfoldable pub unserved_row : List ℕ → List ℕ → ℕ → ℕ → ℕ → ℕ
unserved_row s t depth w u = first_failing (edge_served s t depth u) (successor_rows picture_signature (picture_table t) w)

unfoldable pub lowest_image : List ℕ → List ℕ → ℕ → ℕ → ℕ → ℕ
lowest_image s t depth c u =
    first_from (λ v. edge_joins picture_signature (picture_table s) (picture_table t) c u v && row_maps s t depth c v) 0 (picture_table s).rows

-- ---- what the search leaves behind

abbrev pub Climbs : (ℕ → ℕ) → ℕ → ℕ → ℕ → Type 0
Climbs parent zero i w = i ≡ w
Climbs parent (suc k) i w = (i ≡ 0 → ⊥) × Climbs parent k (parent i) w

abbrev pub Under : (ℕ → ℕ) → ℕ → ℕ → Type 0
Under parent w i = (k : ℕ) × Climbs parent k i w

pub record Apart (parent : ℕ → ℕ) (w : ℕ) (old new : List ℕ) : Type 0 where
  pub size : length new ≡ length old
  pub same : (i : ℕ) → (Under parent w i → ⊥) → get_or new i 0 ≡ get_or old i 0

-- row j hangs from row i of a table of so many rows
abbrev pub Hangs : List ℕ → ℕ → ℕ → Type 0
Hangs t i j = (j ≡ 0 → ⊥) × (j < row_count t) × (parent_of t j ≡ i)

-- of each row c that hangs from w the image is there, and P holds of both
abbrev pub ImagesKept : List ℕ → List ℕ → List ℕ → ℕ → (ℕ → ℕ → Type 0) → ℕ → ℕ → Type 0
ImagesKept s t found depth P w u = (c : ℕ) → Hangs t w c → (get_or found c 0 ≡ lowest_image s t depth c u) × P c (lowest_image s t depth c u)

abbrev pub Found : List ℕ → List ℕ → List ℕ → ℕ → ℕ → ℕ → Type 0
Found s t found zero w u = Unit
Found s t found (suc depth) w u = (impossible_of s u ≡ 1 → ⊥) → ImagesKept s t found depth (λ c v. Found s t found depth c v) w u

abbrev pub FoundBelow : List ℕ → List ℕ → List ℕ → ℕ → ℕ → ℕ → Type 0
FoundBelow s t found depth w u = ImagesKept s t found depth (Found s t found depth) w u

-- of each row v that hangs from u by an edge like c's, P holds of c and v
abbrev pub EdgesKept : List ℕ → List ℕ → (ℕ → ℕ → Type 0) → ℕ → ℕ → Type 0
EdgesKept s t P c u = (v : ℕ) → Hangs s u v → same_edge s t c v ≡ true → P c v

abbrev pub Missed : List ℕ → List ℕ → List ℕ → ℕ → ℕ → ℕ → Type 0
Missed s t missed zero w u = Unit
Missed s t missed (suc depth) w u =
    label_carried s t w u ≡ true →
    (get_or missed u 0 ≡ unserved_row s t depth w u)
    × EdgesKept s t (λ c v. Missed s t missed depth c v) (unserved_row s t depth w u) u

abbrev pub MissedBelow : List ℕ → List ℕ → List ℕ → ℕ → ℕ → ℕ → Type 0
MissedBelow s t missed depth c u = EdgesKept s t (Missed s t missed depth) c u

-- no row stands deeper than the depth, by some rank that rises along edges (ale, Depths: `Ranked`)
pub record Shallow (t : List ℕ) (depth : ℕ) : Type 0 where
  pub rank : ℕ → ℕ
  pub ranked : Ranked picture_signature (picture_table t) rank depth

pub record Mapped (s t found : List ℕ) : Type 0 where
  pub depth : ℕ
  pub first_shallow : Shallow s depth
  pub second_shallow : Shallow t depth
  pub maps : row_maps s t depth 0 0 ≡ true
  pub images : Found s t found depth 0 0
