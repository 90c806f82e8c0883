-- 01, "Order: 1; first (or case); second, or 24 and the cards in turn; 14 for each in that order; then 15 or 16 to 23" and
-- "All but the first two borrow a work space": what the calls on two pictures have in common.
--   Acceptable   "any two readable pictures, each at most 256 rows when merged": 2 to 13 and 14 are answered yes for
--                both
--   pair_asked    first; second; 14 of each
--   work_size     two halves, each as long as the longest picture
--   halves_put    the first normal table from byte 0, the second from where the second half begins, the rest of each
--                half zero
use Rattle.std.specs.Prelude.{◌+◌, ◌≤◌, ℕ, List, ◌++◌}
use Rattle.table.specs.Bounds.{picture_size}
use Rattle.table.specs.Put.{put}
use Rattle.table.specs.declared.layout.Limits.{Limits}
use Rattle.picture.specs.Asked.{and_then, read_asked, Asked}
use Rattle.picture.specs.Readable.{Readable}
use Rattle.picture.specs.declared.answer.Input.TheVariants.{First, Second}
use Rattle.meaning.specs.NormalTable.{merged_count, normal_file}
use Rattle.normal.specs.Call.{merged_asked}
use Rattle.normal.specs.Half.{half_of}

pub record Acceptable (limits : Limits) (first second : List ℕ) : Type 0 where
  pub first_readable : Readable limits first
  pub second_readable : Readable limits second
  pub first_few : merged_count limits first ≤ limits.rows
  pub second_few : merged_count limits second ≤ limits.rows

unfoldable pub pair_asked : Limits → List ℕ → List ℕ → Asked
pair_asked limits first second =
    and_then (read_asked limits First first)
    (and_then (read_asked limits Second second)
    (and_then (merged_asked limits First first)
    (merged_asked limits Second second)))

abbrev pub work_size : Limits → ℕ
work_size limits = picture_size limits + picture_size limits

unfoldable pub halves_put : Limits → List ℕ → List ℕ → List ℕ → List ℕ
halves_put limits first second work = put work 0 (half_of limits (normal_file limits first) ++ half_of limits (normal_file limits second))
