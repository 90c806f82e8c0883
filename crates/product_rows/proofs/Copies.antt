-- A row of a table with what hangs from it, as it is copied.
--   tree_node                a row's tree is its label and what hangs from it
--   tree_some                it has a row at least
--   copy_row                 a row, and then what hangs from it, is the row's tree
--   rows_parts               of rows in turn the first's tree, and then theirs
--   made_by                  what is made by an edge is made by what that edge is
use Prim.Native.Nat.{◌<◌, suc, zero, ℕ}
use mathlib.Core.List.{List}
use mathlib.Core.Path.{◌≡◌, ap, refl, subst, sym}
use native.Mathlib.Omega.{arith}
use Rattle.table.specs.Fields.{kind_of, role_of}
use Rattle.table_rows.specs.declared.builder.Builder.{Builder}
use Rattle.ale.specs.Forest.{append}
use Rattle.ale.specs.PictureSignature.{picture_signature}
use Rattle.ale.specs.Tree.{Forest, Kind, Tree, cons, nil, node, size, successors_of}
use Rattle.meaning.specs.File.{code_at}
use Rattle.meaning.specs.Meaning.{kind_at, picture_table}
use Rattle.row_sets.specs.declared.label.Label.{Label}
use Rattle.normal_writer.specs.declared.node.Edge.{Edge}
use Rattle.homomorphism_search.specs.Search.{RowLabel, tree_at}
use Rattle.product_rows.specs.Grown.{Grown, Pushed, Room}
use Rattle.product_rows.specs.Siblings.{forest_from, forest_of}
use Rattle.product_rows.proofs.Growth.{grown_same}
use Rattle.product_rows.proofs.Nodes.{grown_row}
use Rattle.product_rows.proofs.SiblingRows.{Headed}

pub tree_node : (t : List ℕ) (depth u : ℕ) → tree_at t depth u
    ≡ node ((picture_table t).label u) (successors_of picture_signature (tree_at t depth u))
tree_node t zero u = refl
tree_node t (suc depth) u = refl

pub tree_some : (x : Tree picture_signature) → 0 < size picture_signature x
tree_some (node l f) = omega arith

pub copy_row : (t : List ℕ) (depth v : ℕ) (edge : Edge) {limit : ℕ} {b : Builder} {out : List ℕ} {label : Label} →
    RowLabel t v label →
    code_at b.rows (kind_at edge.kind) ≡ edge.kind → Room limit b out → b.rows < limit →
    {entered below : Builder} {first mid : List ℕ} → Pushed b out edge label entered first →
    Grown limit b.rows entered first (successors_of picture_signature (tree_at t depth v)) below mid →
    Grown limit edge.parent b out (cons (kind_at edge.kind) edge.role (tree_at t depth v) nil) below mid
copy_row t depth v edge {limit} {b} {out} is code room fits {below = below} {mid = mid} en gr =
    grown_same limit edge.parent b below out mid _ _ (ap (λ x. cons (kind_at edge.kind) edge.role x nil)
    (sym (tree_node t depth v)))
    (grown_row edge is code room fits en gr)

pub rows_parts : {t : List ℕ} {rows from c next : ℕ} → Headed t rows from c next → (depth : ℕ) →
    forest_from t rows depth from
    ≡ append picture_signature (cons (kind_at (kind_of t c)) (role_of t c) (tree_at t depth c) nil)
    (forest_from t rows depth next)
rows_parts {t} head depth = ap (forest_of t depth) head.rows_are

pub made_by : {edge same : Edge} (f : Kind → ℕ → Forest picture_signature) {limit : ℕ} {b r : Builder}
    {out end : List ℕ} → edge ≡ same →
    Grown limit edge.parent b out (f (kind_at edge.kind) edge.role) r end →
    Grown limit same.parent b out (f (kind_at same.kind) same.role) r end
made_by f {limit} {b} {r} {out} {end} is made = subst (λ (e : Edge). Grown limit e.parent b out
    (f (kind_at e.kind) e.role) r end) is made
