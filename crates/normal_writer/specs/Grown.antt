-- What a function that writes merged rows has done: it has counted a forest of them up to the limit and one more, and has written
-- what tidying leaves of it. Nobody has to believe these.
--   Room                              what such a function needs of its arguments
--   Written                           the rows of a forest stand after those that were there, and whether a some-successor is ⊥
--   Grown                             a forest was counted, and what tidying leaves of it was written if the count is within the limit
--   Entered                           a row was written, and what hangs from it is to follow
--   clash, bare                       a label is broken by itself; it has no names
--   is_inconsistent, is_dropped, Left   01, "broken", "dropped": how a row is left once what hangs from it is there
use Rattle.std.specs.Prelude.{◌+◌, ◌≤◌, suc, ℕ, eqb, length, Bool, ◌&&◌, ◌||◌, false, not, List, ◌++◌, ◌≡◌}
use Rattle.table.specs.Bounds.{max_rows}
use Rattle.table.specs.Fields.{row_of}
use Rattle.table.specs.Layout.{kind_for_all, «place»}
use Rattle.table.specs.NameSet.{none}
use Rattle.table.specs.NameValues.{overlap, set_of}
use Rattle.table.specs.Pick.{pick}
use Rattle.table.specs.Put.{put}
use Rattle.table_rows.specs.Rows.{prefix}
use Rattle.ale.specs.Encoding.{encode_forest}
use Rattle.ale.specs.Normal.{bottom_exists, tidy_all}
use Rattle.ale.specs.PictureSignature.{picture_signature}
use Rattle.ale.specs.Tree.{Forest, any, sizes}
use Rattle.meaning.specs.File.{rows_from}
use Rattle.normal_writer.specs.declared.node.Branch.{Branch}
use Rattle.normal_writer.specs.declared.node.Edge.{Edge}
use Rattle.row_sets.specs.Parts.{capped}
use Rattle.row_sets.specs.declared.label.Label.{Label}

pub record Room (limit : ℕ) (b : Branch) (out : List ℕ) : Type 0 where
  pub limit_most : limit ≤ max_rows
  pub space : place limit 0 ≤ length out
  pub fewer : b.table.rows ≤ b.merged
  pub counted : b.merged ≤ suc limit

pub record Written (parent : ℕ) (b : Branch) (out : List ℕ) (f : Forest picture_signature) (r : Branch) (end : List ℕ) : Type 0 where
  pub rows_are : r.table.rows ≡ b.table.rows + sizes picture_signature f
  pub bytes_are :
      prefix r.table.rows end
      ≡ prefix b.table.rows out ++ rows_from b.table.rows (encode_forest picture_signature f parent b.table.rows)
  pub bottom_is : r.bottom ≡ (b.bottom || any picture_signature (bottom_exists picture_signature) f)

pub record Grown (limit parent : ℕ) (b : Branch) (out : List ℕ) (f : Forest picture_signature) (r : Branch) (end : List ℕ) : Type 0 where
  pub count : r.merged ≡ capped limit (b.merged + sizes picture_signature f)
  pub fewer : r.table.rows ≤ r.merged
  pub rises : b.table.rows ≤ r.table.rows
  pub same : length end ≡ length out
  pub written : b.merged + sizes picture_signature f ≤ limit → Written parent b out (tidy_all picture_signature f) r end

pub record Entered (b : Branch) (out : List ℕ) (edge : Edge) (label : Label) (r : Branch) (end : List ℕ) : Type 0 where
  pub one_more : r.table.rows ≡ b.table.rows + 1
  pub counted : r.merged ≡ b.merged + 1
  pub none_yet : r.bottom ≡ false
  pub row_put :
      end
      ≡ put out (place b.table.rows 0)
      (row_of edge.parent edge.kind edge.role 0 (set_of label.wanted) (set_of label.excluded))

abbrev pub clash : Label → Bool
clash label = eqb label.bottom 1 || overlap (set_of label.wanted) (set_of label.excluded)

abbrev pub bare : Label → Bool
bare label = eqb (set_of label.wanted) none && eqb (set_of label.excluded) none

abbrev pub is_inconsistent : Label → Branch → Bool
is_inconsistent label below = clash label || below.bottom

abbrev pub is_dropped : Branch → Edge → Label → Branch → Bool
is_dropped b edge label below = eqb edge.kind kind_for_all && (bare label && eqb below.table.rows (b.table.rows + 1))

pub record Left (b : Branch) (edge : Edge) (label : Label) (below : Branch) (out : List ℕ) (r : Branch) (end : List ℕ) : Type 0 where
  pub counted : r.merged ≡ below.merged
  pub rows_are :
      r.table.rows
      ≡ pick (is_inconsistent label below) (b.table.rows + 1) (pick (is_dropped b edge label below) b.table.rows below.table.rows)
  pub bottom_is : r.bottom ≡ (b.bottom || (is_inconsistent label below && not (eqb edge.kind kind_for_all)))
  pub bytes_are :
      end
      ≡ pick (is_inconsistent label below)
      (put out (place b.table.rows 0) (row_of edge.parent edge.kind edge.role 1 none none))
      out
