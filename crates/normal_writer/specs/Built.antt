-- What building a normal table in a lent part does: the merged rows are counted up to the limit and one more, and within the limit
-- the rows of the normal table stand at its start. Nobody has to believe this.
use Rattle.std.specs.Prelude.{◌≤◌, ℕ, length, List, ◌≡◌}
use Rattle.table.specs.declared.layout.Limits.{Limits}
use Rattle.ale.specs.Encoding.{encode}
use Rattle.ale.specs.PictureSignature.{picture_signature}
use Rattle.ale.specs.Tree.{size}
use Rattle.meaning.specs.File.{rows_from}
use Rattle.meaning.specs.NormalTable.{merged_count, normal_tree_of}
use Rattle.row_sets.specs.Parts.{capped}
use Rattle.table_rows.specs.Rows.{prefix}
use Rattle.normal_writer.specs.declared.node.Branch.{Branch}

pub record Built (limits : Limits) (s : List ℕ) (out : List ℕ) (r : Branch) (end : List ℕ) : Type 0 where
  pub count : r.merged ≡ capped limits.rows (merged_count limits s)
  pub same : length end ≡ length out
  pub fewer : r.table.rows ≤ r.merged
  pub rows_are : merged_count limits s ≤ limits.rows → r.table.rows ≡ size picture_signature (normal_tree_of limits s)
  pub bytes_are :
      merged_count limits s ≤ limits.rows → prefix r.table.rows end ≡ rows_from 0 (encode picture_signature (normal_tree_of limits s))
