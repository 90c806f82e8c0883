-- The pair of two rows, as the code makes it.
--   pair_first, pair_second   one side is marked: the pair is the other side, whole
--   pair_node                 neither is: the names in common, and the pairs of successors
--   pairs_leaf                at depth 0 there are none
--   leaf_tests                what `is_pair_leaf` has asked
--   pairs_none                nor where one of the two rows has no first link
--   graft_leaf                then the pair is a leaf
--   graft_full                a pair that stays where the table is full
--   graft_left                a pair as it is left once what hangs from it is there
use Prim.Native.Nat.{◌+◌, ◌<◌, ◌≤◌, ℕ}
use lib.Dec.{eqb}
use lib.ListN.{get_or}
use mathlib.Core.Bool.{Bool, ◌&&◌, ◌||◌, false, false≢true, not, true}
use mathlib.Core.List.{List}
use mathlib.Core.Logic.{⊎_elim}
use mathlib.Core.Path.{◌∙◌, ◌≡◌, ap, refl, subst, sym}
use Rattle.table.proofs.Bools.{either}
use Rattle.table.specs.Pick.{pick}
use Rattle.table_rows.specs.declared.builder.Builder.{Builder}
use Rattle.ale.proofs.PairWalks.{pair_forest_walk, pair_walk, picture_equal}
use Rattle.ale.proofs.Pairs.{pair_forest}
use Rattle.ale.specs.Forest.{cons_reduced}
use Rattle.ale.specs.PictureSignature.{picture_signature}
use Rattle.ale.specs.Product.{label_intersection, product}
use Rattle.ale.specs.Tree as tree
use Rattle.ale.specs.Tree.{Forest, Kind, Tree, cons, nil, node, successors_of}
use Rattle.meaning.specs.File.{code_at}
use Rattle.meaning.specs.Meaning.{kind_at, picture_table}
use Rattle.row_sets.specs.Labels.{LabelIs}
use Rattle.row_sets.specs.declared.label.Label.{Label}
use Rattle.normal_writer.specs.declared.node.Edge.{Edge}
use Rattle.row_sets.specs.Rows.{LinkedTable}
use Rattle.homomorphism_search.specs.Search.{tree_at}
use Rattle.product_rows.specs.Grown.{Entered, Grown, Room, is_dropped, stays}
use Rattle.product_writer.specs.Tables.{pairs_below, product_at}
use Rattle.product_rows.specs.Siblings.{Kept, Trim}
use Rattle.product_rows.proofs.Copies.{tree_node}
use Rattle.product_writer.proofs.Pairings.{walk_nil}
use Rattle.product_rows.proofs.Growth.{grown_nil, grown_same}
use Rattle.product_rows.proofs.Nodes.{grown_node, grown_stays}
use Rattle.product_rows.proofs.SiblingRows.{trees_leaf, trees_none, trim_below}

-- over any two nodes
module _ (l m : tree.Label picture_signature) (f g : Forest picture_signature) where
  product_first : l.bottom ≡ true → product picture_signature (node l f) (node m g) ≡ node m g
  product_first marked = rw marked

  product_second : l.bottom ≡ false → m.bottom ≡ true → product picture_signature (node l f) (node m g) ≡ node l f
  product_second possible marked = rw (possible, marked)

  product_pair : l.bottom ≡ false → m.bottom ≡ false →
      product picture_signature (node l f) (node m g) ≡ node (label_intersection picture_signature l m)
      (pair_forest picture_signature f g)
  product_pair possible other = rw (possible, other)

pub leaf_tests : (x y z : Bool) → (not x && (not y && z)) ≡ true → (x ≡ false) × ((y ≡ false) × (z ≡ true))
leaf_tests false false z e = (refl, (refl, e))
leaf_tests false true z e = absurd (false≢true e)
leaf_tests true y z e = absurd (false≢true e)

module _ (s t : List ℕ) (depth u w : ℕ) where
  abbrev l : tree.Label picture_signature
  l = (picture_table s).label u

  abbrev m : tree.Label picture_signature
  m = (picture_table t).label w

  abbrev f : Forest picture_signature
  f = successors_of picture_signature (tree_at s depth u)

  abbrev g : Forest picture_signature
  g = successors_of picture_signature (tree_at t depth w)

  as_nodes : product_at s t depth u w ≡ product picture_signature (node l f) (node m g)
  unfolding product_at
  as_nodes =
      ap (λ x. product picture_signature x (tree_at t depth w)) (tree_node s depth u)
      ∙ ap (product picture_signature (node l f)) (tree_node t depth w)

  module _ (k : Kind) (role : ℕ) where
    kept_one : (x : Tree picture_signature) → Kept k x → cons_reduced picture_signature k role x nil ≡ cons k role x nil
    kept_one x kept = rw kept.kept

    pub pair_first : ((picture_table s).label u).bottom ≡ true → Kept k (tree_at t depth w) →
        cons_reduced picture_signature k role (product_at s t depth u w) nil ≡ cons k role (tree_at t depth w) nil
    pair_first marked kept =
        ap (λ x. cons_reduced picture_signature k role x nil)
        (as_nodes ∙ product_first l m f g marked ∙ sym (tree_node t depth w)) ∙ kept_one (tree_at t depth w) kept

    pub pair_second : ((picture_table s).label u).bottom ≡ false → ((picture_table t).label w).bottom ≡ true →
        Kept k (tree_at s depth u) →
        cons_reduced picture_signature k role (product_at s t depth u w) nil ≡ cons k role (tree_at s depth u) nil
    pair_second possible marked kept =
        ap (λ x. cons_reduced picture_signature k role x nil)
        (as_nodes ∙ product_second l m f g possible marked ∙ sym (tree_node s depth u))
        ∙ kept_one (tree_at s depth u) kept

  pub pair_node : ((picture_table s).label u).bottom ≡ false → ((picture_table t).label w).bottom ≡ false →
      product_at s t depth u w
      ≡ node (label_intersection picture_signature ((picture_table s).label u) ((picture_table t).label w))
      (pairs_below s t depth u w)
  unfolding pairs_below
  pair_node possible other = as_nodes ∙ product_pair l m f g possible other

  pub pairs_leaf : {limit parent : ℕ} {b : Builder} {out : List ℕ} → Room limit b out → depth ≡ 0 →
      Grown limit parent b out (pairs_below s t depth u w) b out
  unfolding pairs_below
  pairs_leaf {limit} {parent} {b} {out} room z =
      grown_same limit parent b b out out nil (pairs_below s t depth u w)
      (sym (rw (trees_leaf s depth u z) (pair_forest_walk picture_signature picture_equal nil g tt tt)))
      (grown_nil limit parent b out room)

  pub pairs_none : {links others : List ℕ} {n o : ℕ} → LinkedTable s n links → LinkedTable t o others → u < n → w < o →
      Trim (tree_at s depth u) →
      (eqb (get_or links u 0) 0 || eqb (get_or others w 0) 0) ≡ true → pairs_below s t depth u w ≡ nil
  unfolding pairs_below
  pairs_none {links} {others} one other l k trim none =
      let below = trim_below ((picture_table s).label u) f (subst Trim (tree_node s depth u) trim) in
      pair_forest_walk picture_signature picture_equal f g below.ordered below.known
      ∙ ⊎_elim {C = pair_walk picture_signature f g ≡ nil}
      (λ e. ap (λ x. pair_walk picture_signature x g) (trees_none s depth u one l e))
      (λ e. ap (pair_walk picture_signature f) (trees_none t depth w other k e) ∙ walk_nil f)
      (either (eqb (get_or links u 0) 0) (eqb (get_or others w 0) 0) none)

  -- neither row is marked
  module _ {limit : ℕ} {b : Builder} {out : List ℕ} (edge : Edge) (room : Room limit b out)
      (code : code_at b.rows (kind_at edge.kind) ≡ edge.kind)
      (possible : ((picture_table s).label u).bottom ≡ false) (other : ((picture_table t).label w).bottom ≡ false)
      {label : Label}
      (common : LabelIs label (label_intersection picture_signature ((picture_table s).label u)
      ((picture_table t).label w))) where
    pair_is :
        cons_reduced picture_signature (kind_at edge.kind) edge.role (product_at s t depth u w) nil
        ≡ cons_reduced picture_signature (kind_at edge.kind) edge.role
        (node (label_intersection picture_signature l m) (pairs_below s t depth u w)) nil
    pair_is =
        ap (λ x. cons_reduced picture_signature (kind_at edge.kind) edge.role x nil)
        (pair_node possible other)

    pub graft_leaf : pairs_below s t depth u w ≡ nil → {r : Builder} {end : List ℕ} →
        ((x : tree.Label picture_signature) → LabelIs label x → x.bottom ≡ false →
        Grown limit edge.parent b out (cons_reduced picture_signature (kind_at edge.kind) edge.role
        (node x nil) nil) r end) →
        Grown limit edge.parent b out (cons_reduced picture_signature (kind_at edge.kind) edge.role
        (product_at s t depth u w) nil) r end
    graft_leaf none {r} {end} made =
        grown_same limit edge.parent b r out end _ _
        (sym
        (pair_is
        ∙ ap (λ x. cons_reduced picture_signature (kind_at edge.kind) edge.role
        (node (label_intersection picture_signature l m) x) nil) none))
        (made (label_intersection picture_signature l m) common refl)

    pub graft_full : {r : Builder} → limit ≤ b.rows → stays edge label ≡ true → r.rows ≡ limit + 1 →
        Grown limit edge.parent b out (cons_reduced picture_signature (kind_at edge.kind) edge.role
        (product_at s t depth u w) nil) r out
    graft_full {r} full kept over =
        grown_same limit edge.parent b r out out _ _ (sym pair_is)
        (grown_stays edge common code room refl (pairs_below s t depth u w) r full kept over)

    pub graft_left : (limit ≤ b.rows → stays edge label ≡ false) → {entered below r : Builder} {first mid : List ℕ} →
        Entered limit b out edge label entered first → r.rows
        ≡ pick (is_dropped limit b edge label below) b.rows below.rows →
        Grown limit b.rows entered first (pairs_below s t depth u w) below mid →
        Grown limit edge.parent b out (cons_reduced picture_signature (kind_at edge.kind) edge.role
        (product_at s t depth u w) nil) r mid
    graft_left room-or {below = below} {r} {mid = mid} en left gr =
        grown_same limit edge.parent b r out mid _ _ (sym pair_is)
        (grown_node edge common code room refl room-or en below r mid left (pairs_below s t depth u w) gr)
