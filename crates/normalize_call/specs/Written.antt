-- What the call has answered and written. Nobody has to believe these.
--   Written   the answer and the result buffer, by what is asked and the picture that the table is made of
use Rattle.std.specs.Prelude.{ℕ, length, List, ◌≡◌, Ok, Result}
use Rattle.table.specs.Put.{put}
use Rattle.table.specs.declared.layout.Limits.{Limits}
use Rattle.picture.specs.Asked.{kept, on_asked, Asked}
use Rattle.picture.specs.declared.answer.Refusal.{Refusal}
use Rattle.meaning.specs.NormalTable.{normal_file}

pub record Written (limits : Limits) (asked : Asked) (s result : List ℕ) (r : Result ℕ Refusal) (end : List ℕ) : Type 0 where
  pub answer : r ≡ on_asked asked (Ok (length (normal_file limits s)))
  pub bytes : end ≡ kept asked (put result 0 (normal_file limits s)) result
