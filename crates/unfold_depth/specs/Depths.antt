-- The depths of the rows of a table in bytes.
--   Hung      so many rows stand in the table, each but row 0 after the row that it hangs from, and the code can hold
--             the limit
--   shallow   no row stands deeper than the limit
use Rattle.std.specs.Prelude.{◌<◌, ◌≤◌, ℕ, leb, length, Bool, List, ◌≡◌}
use Rattle.table.specs.Bounds.{max_depth, max_rows}
use Rattle.table.specs.Fields.{parent_of}
use Rattle.table.specs.Layout.{«place»}
use Rattle.table.specs.Range.{each}
use Rattle.picture.specs.Depth.{depth}

pub record Hung (table : List ℕ) (rows limit : ℕ) : Type 0 where
  pub few : rows ≤ max_rows
  pub whole : place rows 0 ≤ length table
  pub ordered : (j : ℕ) → ¬ (j ≡ 0) → j < rows → parent_of table j < j
  pub low : limit ≤ max_depth

abbrev pub shallow : List ℕ → ℕ → ℕ → Bool
shallow table rows limit = each (λ j. leb (depth (parent_of table) j) limit) rows 0
