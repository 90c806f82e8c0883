-- 01, "Questions asked": a picture is read field by field, to its end field or to the first question that is answered no.
use Rattle.std.specs.Prelude.{List, ℕ, zero, suc, ◌+◌, Err, Ok, Result}
use Rattle.table.specs.declared.layout.Limits.{Limits}
use Rattle.picture.specs.Refusal.{refusal_at}
use Rattle.picture.specs.declared.answer.Input.{Input}
use Rattle.picture.specs.declared.field.Field.TheVariants.{End, Row}
use Rattle.picture.specs.declared.field.Field.{Field}
use Rattle.picture.specs.declared.answer.Refusal.{Refusal}
use Rattle.picture.specs.declared.read.Failure.{Failure}
use Rattle.picture.specs.Questions.{field_at}

-- a question is answered no for the field after so many rows
abbrev pub failure : ℕ → ℕ → Failure
failure number rows = record { number = number; rows = rows }

-- the field after n rows, which is read, or fails there
abbrev pub located : Result Field ℕ → ℕ → Result Field Failure
located (Ok field) n = Ok field
located (Err q) n = Err (failure q n)

-- what the field after n rows makes of the reading: after a row it is `rest`
abbrev pub on_field : Result Field ℕ → ℕ → Result ℕ Failure → Result ℕ Failure
on_field (Ok (Row depth)) n rest = rest
on_field (Ok End) n rest = Ok n
on_field (Err q) n rest = Err (failure q n)

-- the reading from the field after n rows on, with at most `left` fields to come
unfoldable pub scan_from : ℕ → Limits → List ℕ → ℕ → Result ℕ Failure
scan_from zero limits s n = Err (failure 5 n)
scan_from (suc left) limits s n = on_field (field_at limits s n) n (scan_from left limits s (n + 1))

-- the fields are at most the rows allowed and one more, which is the end field or meets 5
unfoldable pub reading_of : Limits → List ℕ → Result ℕ Failure
reading_of limits s = scan_from (suc limits.rows) limits s 0

-- the answer for a picture that is the input named
abbrev pub answered : Input → Result ℕ Failure → Result ℕ Refusal
answered input (Ok n) = Ok n
answered input (Err at) = Err (refusal_at at.number input at.rows)

unfoldable pub answer_of : Limits → Input → List ℕ → Result ℕ Refusal
answer_of limits input s = answered input (reading_of limits s)
