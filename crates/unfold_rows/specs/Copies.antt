-- Rows of a picture, copied into a table under construction.
--   copy_of      row k of s as bytes, hung from row p
--   copy_bytes   n rows of s from row k on, each hung from what `up` makes of its parent
--   Source      rows that are there, with parents that come first
--   Added       rows that were written after those that are there
--   Hangable    what is asked before a definition's rows are hung: there may be one row more than the limit already
--   Hung        its rows but the root were added, or they are more than the limit
use Rattle.std.specs.Prelude.{◌%◌, ◌+◌, ◌-◌, ◌<◌, ◌^◌, ◌≤◌, suc, zero, ℕ, length, List, [], ◌++◌, ◌≡◌}
use Rattle.table.specs.Bounds.{max_rows}
use Rattle.table.specs.Fields.{excluded_of, impossible_of, kind_of, parent_of, role_of, row_of, wanted_of}
use Rattle.table.specs.Layout.{name_count, «place»}
use Rattle.table_rows.specs.Rows.{prefix}
use Rattle.ale.specs.PictureSignature.{picture_signature}
use Rattle.tbox.specs.Unfold.{parent_in}
use Rattle.picture.specs.Readable.{row_count}

abbrev pub copy_of : List ℕ → ℕ → ℕ → List ℕ
copy_of s k p =
    row_of p (kind_of s k) (role_of s k) (impossible_of s k) (wanted_of s k % 2 ^ name_count) (excluded_of s k % 2 ^ name_count)

unfoldable pub copy_bytes : List ℕ → (ℕ → ℕ) → ℕ → ℕ → List ℕ
copy_bytes s up k zero = []
copy_bytes s up k (suc n) = copy_bytes s up k n ++ copy_of s (k + n) (up (parent_of s (k + n)))

pub record Source (s : List ℕ) (rows : ℕ) : Type 0 where
  pub some : 0 < rows
  pub most : rows ≤ max_rows
  pub whole : place rows 0 ≤ length s
  pub parents : (j : ℕ) → 0 < j → j < rows → parent_of s j < j

pub record Added (d e rows : List ℕ) (from count : ℕ) : Type 0 where
  pub same_length : length e ≡ length d
  pub bytes : prefix (from + count) e ≡ prefix from d ++ rows

pub record Hangable (s : List ℕ) (limit first : ℕ) (out : List ℕ) : Type 0 where
  pub source : Source s (row_count s)
  pub started : first ≤ limit + 1
  pub small : limit ≤ max_rows
  pub room : place limit 0 ≤ length out

pub record Hung (s : List ℕ) (i limit first : ℕ) (d : List ℕ) (r : ℕ) (e : List ℕ) : Type 0 where
  pub same_length : length e ≡ length d
  pub fitted : first + (row_count s - 1) ≤ limit → (r ≡ first + (row_count s - 1))
      × Added d e (copy_bytes s (parent_in picture_signature i first) 1 (row_count s - 1)) first (row_count s - 1)
  pub stopped : limit < first + (row_count s - 1) → r ≡ limit + 1
