-- What a function that adds rows to a table under construction has done. Nobody has to believe these.
--   Room               what it needs: the table is within the limit, and the lent part has room up to it
--   Grown              the rows of a forest were counted up to the limit and one more, and within it they stand after
--                      those that were there
--   Built              the rows of a tree were counted so, and within the limit they stand at the start
--   Pushed, Entered    one row more; the same if there is room for one
--   stays, is_dropped   a row that is kept whatever hangs from it; one that was written and is dropped
use Rattle.std.specs.Prelude.{◌+◌, ◌<◌, ◌≤◌, ℕ, eqb, ltb, length, Bool, ◌&&◌, not, List, ◌++◌, ◌≡◌}
use Rattle.table.specs.Bounds.{max_rows}
use Rattle.table.specs.Fields.{row_of}
use Rattle.table.specs.Layout.{kind_for_all, «place»}
use Rattle.table.specs.NameValues.{set_of}
use Rattle.table.specs.Put.{put}
use Rattle.table_rows.specs.declared.builder.Builder.{Builder}
use Rattle.table.specs.declared.layout.Limits.{Limits}
use Rattle.ale.specs.Encoding.{encode, encode_forest}
use Rattle.ale.specs.PictureSignature.{picture_signature}
use Rattle.ale.specs.Tree.{Forest, Tree, size, sizes}
use Rattle.meaning.specs.File.{mark_code, rows_from}
use Rattle.normal_writer.specs.Grown.{bare}
use Rattle.table_rows.specs.Rows.{prefix}
use Rattle.row_sets.specs.Parts.{capped}
use Rattle.row_sets.specs.declared.label.Label.{Label}
use Rattle.normal_writer.specs.declared.node.Edge.{Edge}

pub record Room (limit : ℕ) (b : Builder) (out : List ℕ) : Type 0 where
  pub limit_most : limit ≤ max_rows
  pub space : place limit 0 ≤ length out
  pub within : b.rows ≤ limit

pub record Grown (limit parent : ℕ) (b : Builder) (out : List ℕ) (f : Forest picture_signature) (r : Builder)
    (end : List ℕ) : Type 0 where
  pub count : r.rows ≡ capped limit (b.rows + sizes picture_signature f)
  pub same : length end ≡ length out
  pub written :
      b.rows + sizes picture_signature f ≤ limit →
      prefix r.rows end ≡ prefix b.rows out ++ rows_from b.rows (encode_forest picture_signature f parent b.rows)

pub record Built (limits : Limits) (t : Tree picture_signature) (out : List ℕ) (r : Builder)
    (end : List ℕ) : Type 0 where
  pub count : r.rows ≡ capped limits.rows (size picture_signature t)
  pub same : length end ≡ length out
  pub bytes_are : size picture_signature t ≤ limits.rows → prefix r.rows end ≡ rows_from 0 (encode picture_signature t)

pub record Pushed (b : Builder) (out : List ℕ) (edge : Edge) (label : Label) (r : Builder) (end : List ℕ) : Type 0 where
  pub one_more : r.rows ≡ b.rows + 1
  pub row_put :
      end
      ≡ put out (place b.rows 0)
      (row_of edge.parent edge.kind edge.role (mark_code (eqb label.bottom 1)) (set_of label.wanted)
      (set_of label.excluded))

pub record Entered (limit : ℕ) (b : Builder) (out : List ℕ) (edge : Edge) (label : Label) (r : Builder)
    (end : List ℕ) : Type 0 where
  pub pushed : b.rows < limit → Pushed b out edge label r end
  pub full : limit ≤ b.rows → (r.rows ≡ b.rows) × (end ≡ out)

abbrev pub stays : Edge → Label → Bool
stays edge label = not (eqb edge.kind kind_for_all && bare label)

abbrev pub is_dropped : ℕ → Builder → Edge → Label → Builder → Bool
is_dropped limit b edge label below = ltb b.rows limit && (not (stays edge label) && eqb below.rows (b.rows + 1))
