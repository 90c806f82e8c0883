-- 01, "Write its normal table and give its length in bytes (buffer 6,147)": the answer, and what the result buffer
-- holds then.
--   merged_asked       14 of a picture
--   one_asked          1; 2 to 13; 14
--   normalize_answer   the length of the normal table
--   normalize_result   the normal table from the first byte on, or nothing written
use Rattle.std.specs.Prelude.{ℕ, leb, length, List, Ok, Result}
use Rattle.table.specs.Bounds.{picture_size}
use Rattle.table.specs.Put.{put}
use Rattle.table.specs.declared.layout.Limits.{Limits}
use Rattle.picture.specs.Asked.{and_then, asked, kept, on_asked, read_asked, room_asked, Asked}
use Rattle.picture.specs.Refusal.{too_many}
use Rattle.picture.specs.declared.answer.Input.{Input}
use Rattle.picture.specs.declared.answer.Input.TheVariants.{First}
use Rattle.picture.specs.declared.answer.Refusal.{Refusal}
use Rattle.meaning.specs.NormalTable.{merged_count, normal_file}

unfoldable pub merged_asked : Limits → Input → List ℕ → Asked
merged_asked limits input s = asked (leb (merged_count limits s) limits.rows) (too_many input)

unfoldable pub one_asked : Limits → List ℕ → ℕ → Asked
one_asked limits s room =
    and_then (room_asked (leb (picture_size limits) room))
    (and_then (read_asked limits First s)
    (merged_asked limits First s))

unfoldable pub normalize_answer : Limits → List ℕ → ℕ → Result ℕ Refusal
normalize_answer limits s room = on_asked (one_asked limits s room) (Ok (length (normal_file limits s)))

unfoldable pub normalize_result : Limits → List ℕ → List ℕ → List ℕ
normalize_result limits s out = kept (one_asked limits s (length out)) (put out 0 (normal_file limits s)) out
