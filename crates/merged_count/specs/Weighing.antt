-- What the functions of the bound ask of their arguments, and what they give. Nobody has to believe these.
--   Later       row j stands in the file, and is not the first
--   Blank       nothing is filled in yet
--   Filled      each row has its key, and the some-rows of each key are counted
--   Weighable   then the rows can be weighed, up to a limit that is reached before a byte is full
use Rattle.std.specs.Prelude.{◌<◌, ◌≤◌, ℕ, List, ◌≡◌}
use Rattle.table.specs.Bounds.{max_rows}
use Rattle.table_rows.specs.Links.{Zeros}
use Rattle.row_sets.specs.Rows.{Checked}
use Rattle.merged_count.specs.Bound.{Keyed, Tallied, key_count}

pub record Later (s : List ℕ) (rows j : ℕ) : Type 0 where
  pub checked : Checked s rows
  pub later : j ≡ 0 → ⊥
  pub inside : j < rows

pub record Blank (s : List ℕ) (rows : ℕ) (keys somes : List ℕ) : Type 0 where
  pub checked : Checked s rows
  pub no_keys : Zeros max_rows keys
  pub no_somes : Zeros key_count somes

pub record Filled (s : List ℕ) (rows : ℕ) (keys somes : List ℕ) : Type 0 where
  pub keyed : Keyed s rows keys
  pub tallied : Tallied s rows keys somes

pub record Weighable (s : List ℕ) (rows limit : ℕ) (keys somes : List ℕ) : Type 0 where
  pub checked : Checked s rows
  pub filled : Filled s rows keys somes
  pub low : limit ≤ max_rows
