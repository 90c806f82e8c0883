-- 01, "Common picture and its length (buffer 6,147)": the answer, and what the two buffers hold then.
--   too_large    15 is answered no: it names the second
--   large_asked  15
--   lcs_lent     1; first; second; 14 of each
--   lcs_asked    those; 15
--   lcs_answer   the length of the common picture, after these
--   lcs_work     the work space: both tables once 14 is answered yes for both, whatever 15 says; else nothing written
--   lcs_result   the result buffer: the common picture from its first byte on where all is answered yes; else nothing
--               written
use Rattle.std.specs.Prelude.{ℕ, leb, length, List, Ok, Result}
use Rattle.table.specs.Bounds.{picture_size}
use Rattle.table.specs.Put.{put}
use Rattle.table.specs.declared.layout.Limits.{Limits}
use Rattle.picture.specs.Asked.{and_then, asked, kept, on_asked, Asked}
use Rattle.picture.specs.Refusal.{refusal}
use Rattle.picture.specs.declared.answer.Input.TheVariants.{Second}
use Rattle.picture.specs.declared.answer.Refusal.{Refusal}
use Rattle.workspace.specs.Lent.{lent_asked, pair_work, roomy}
use Rattle.lcs.specs.Product.{lcs_count, lcs_file}

abbrev pub too_large : Refusal
too_large = refusal 15 Second

abbrev pub large_asked : Limits → List ℕ → List ℕ → Asked
large_asked limits first second = asked (leb (lcs_count limits first second) limits.rows) too_large

abbrev pub lcs_lent : Limits → List ℕ → List ℕ → ℕ → ℕ → Asked
lcs_lent limits first second work result = lent_asked limits (roomy limits (picture_size limits) work result) first second

abbrev pub lcs_asked : Limits → List ℕ → List ℕ → ℕ → ℕ → Asked
lcs_asked limits first second work result =
    and_then (lcs_lent limits first second work result) (large_asked limits first second)

unfoldable pub lcs_answer : Limits → List ℕ → List ℕ → ℕ → ℕ → Result ℕ Refusal
lcs_answer limits first second work result =
    on_asked (lcs_asked limits first second work result) (Ok (length (lcs_file limits first second)))

abbrev pub lcs_work : Limits → List ℕ → List ℕ → List ℕ → ℕ → List ℕ
lcs_work limits first second work result =
    pair_work limits (roomy limits (picture_size limits) (length work) result) first second work

abbrev pub lcs_result : Limits → List ℕ → List ℕ → ℕ → List ℕ → List ℕ
lcs_result limits first second work result =
    kept (lcs_asked limits first second work (length result)) (put result 0 (lcs_file limits first second)) result
