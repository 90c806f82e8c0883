-- 01, "A refusal carries the number and which input it concerns"; 02, U1, "Refusals 2 to 13 shall also carry the row
-- being read (rows completed so far) and the byte where its field begins, from the picture's first", "other refusals
-- carry .. 0 for both": every refusal is one of these.
--   refusal       a question is answered no for an input, but of no field: 1, and 14 to 30
--   refusal_at     a question is answered no for the field after so many rows of a picture: 2 to 13
--   short_buffer   1, which names the buffer, whichever is short
--   too_many       14 of an input
use Rattle.std.specs.Prelude.{ℕ}
use Rattle.table.specs.Layout.{«place»}
use Rattle.picture.specs.declared.answer.Input.{Input}
use Rattle.picture.specs.declared.answer.Input.TheVariants.{Buffer}
use Rattle.picture.specs.declared.answer.Refusal.{Refusal}

abbrev pub refusal : ℕ → Input → Refusal
refusal number input = record { number = number; input = input; row = 0; byte = 0 }

-- the fields before it are rows, so it begins where row number `row` would
abbrev pub refusal_at : ℕ → Input → ℕ → Refusal
refusal_at number input row = record { number = number; input = input; row = row; byte = place row 0 }

abbrev pub short_buffer : Refusal
short_buffer = refusal 1 Buffer

abbrev pub too_many : Input → Refusal
too_many input = refusal 14 input
