-- The answer word: what a caller takes out of it is what was put in.
--   Fits, field_fits                        a refusal whose parts fit the word; that of a field is one
--   refusal_outcome .. refusal_byte         the parts of a refusal's word
--   value_outcome, value_value              the parts of an answer's word
--   codes_agree                             the words of a refusal of each input, and of an answer of each call, computed
--   bench_bounded                           paper 01's limits are such as the code can hold
--   validate_readable, readable_validate    the plain test answers with a row count exactly when the picture is readable
use mathlib.Core.Path.{◌≡◌, refl}
use mathlib.Core.List.{List, [], ◌∷◌}
use Prim.Native.Nat.{ℕ, ◌<◌}
use native.Mathlib.Omega.{arith}
use Rattle.std.proofs.Common.{Err, Ok, Result}
use Rattle.table.specs.Bounds.{Bounded, bench_limits}
use Rattle.table.specs.declared.layout.Limits.{Limits}
use Rattle.picture.specs.declared.answer.Input.{Input}
use Rattle.picture.specs.declared.answer.Input.TheVariants.{Book, Buffer, Card, Definition, Definitions, Evidence, First, Second}
use Rattle.picture.specs.declared.answer.Refusal.{Refusal}
use Rattle.picture.specs.Read.{reading_of, answered, answer_of}
use Rattle.picture.specs.Readable.{FailsAt, Readable, row_count}
use Rattle.picture.specs.Refusal.{refusal_at}
use Rattle.evidence.specs.declared.check.Taken.TheVariants as taken
use Rattle.lcs.specs.Call.{too_large}
use Rattle.book.specs.Call.{no_book}
use Rattle.subsumption.specs.declared.verdict.Verdict.TheVariants as verdict
use Rattle.picture.proofs.Readables.{failed_field, failed_most, failed_number, reading_answer, readable_count}
use Rattle.interface.specs.Word.{byte, card, card_of, common_word, input, input_code, normalized_word, outcome, outcome_yes, part_range, place_range, question, read_word, refusal_word, refused, refused_at, row, selected_word, value, value_range, value_word, verdict_word, verified_word}
use Rattle.picture.specs.declared.read.Failure.{Failure}
use Rattle.interface.specs.Calls.{validate_word}

pub bench_bounded : Bounded bench_limits
bench_bounded = (omega arith, omega arith)

code_small : (i : Input) → input_code i < part_range
code_small Buffer = omega arith
code_small First = omega arith
code_small Second = omega arith
code_small Evidence = omega arith
code_small Book = omega arith
code_small (Card n) = omega arith
code_small Definitions = omega arith
code_small (Definition n) = omega arith

-- a refusal whose parts fit the word
pub record Fits (r : Refusal) : Type 0 where
  pub number : r.number < part_range
  pub card : card_of r.input < part_range
  pub row : r.row < place_range
  pub byte : r.byte < place_range

module _ (r : Refusal) (fits : Fits r) where
  pub refusal_outcome : outcome (refusal_word r) ≡ 0
  refusal_outcome = omega (arith, fits, code_small r.input)

  pub refusal_question : question (refusal_word r) ≡ r.number
  refusal_question = omega (arith, fits, code_small r.input)

  pub refusal_input : input (refusal_word r) ≡ input_code r.input
  refusal_input = omega (arith, fits, code_small r.input)

  pub refusal_card : card (refusal_word r) ≡ card_of r.input
  refusal_card = omega (arith, fits, code_small r.input)

  pub refusal_row : row (refusal_word r) ≡ r.row
  refusal_row = omega (arith, fits, code_small r.input)

  pub refusal_byte : byte (refusal_word r) ≡ r.byte
  refusal_byte = omega (arith, fits, code_small r.input)

-- that of a field is one: the rows before it are within the limits
pub field_fits : (limits : Limits) → Bounded limits → (s : List ℕ) (input : Input) → card_of input < part_range →
    (q n : ℕ) → FailsAt limits s q n → Fits (refusal_at q input n)
field_fits limits bounded s input few q n fails =
    let number = failed_number limits s q n fails in
    let most = failed_most limits s q n fails in
    record {
      number = omega (arith, number.most);
      card = few;
      row = omega (arith, most, bounded.0);
      byte = omega (arith, most, bounded.0);
    }

module _ (o v : ℕ) (small : v < value_range) where
  pub value_outcome : outcome (value_word o v) ≡ o
  value_outcome = omega arith

  pub value_value : value (value_word o v) ≡ v
  value_value = omega arith

abbrev pub words : List ℕ
words =
    refused 1 Buffer
    ∷ refused_at 13 First 0
    ∷ refused 14 Second
    ∷ refused 16 Evidence
    ∷ refused 24 Book
    ∷ refused_at 2 (Card 31) 0
    ∷ refused_at 11 (Card 4) 3
    ∷ refused_at 5 Second 256
    ∷ refused 25 Definitions
    ∷ refused_at 2 (Definition 31) 0
    ∷ refused 29 (Definition 4)
    ∷ read_word (Ok 256)
    ∷ normalized_word (Ok 6147)
    ∷ verdict_word (Ok (verdict.Yes 12))
    ∷ verdict_word (Ok (verdict.No 46595))
    ∷ common_word (Ok 6147)
    ∷ common_word (Err too_large)
    ∷ verified_word (Ok taken.Map)
    ∷ verified_word (Ok taken.Refutation)
    ∷ selected_word (Ok 0xFFFFFFFF)
    ∷ selected_word (Err no_book)
    ∷ []

-- in hex each byte is a part: outcome, question, input, card, and four of value; of a refusal two of row, two of byte
pub codes_agree : words ≡
    0x0001000000000000
    ∷ 0x000D010000000000
    ∷ 0x000E020000000000
    ∷ 0x0010030000000000
    ∷ 0x0018040000000000
    ∷ 0x0002051F00000000
    ∷ 0x000B050400030048
    ∷ 0x0005020001001800
    ∷ 0x0019060000000000
    ∷ 0x0002071F00000000
    ∷ 0x001D070400000000
    ∷ 0x0100000000000100
    ∷ 0x0100000000001803
    ∷ 0x010000000000000C
    ∷ 0x020000000000B603
    ∷ 0x0100000000001803
    ∷ 0x000F020000000000
    ∷ 0x0100000000000000
    ∷ 0x0200000000000000
    ∷ 0x01000000FFFFFFFF
    ∷ 0x0018040000000000
    ∷ []
codes_agree = refl

-- ---- the plain test

module _ (limits : Limits) (s : List ℕ) where
  pub readable_validate : Readable limits s → validate_word limits s ≡ value_word outcome_yes (row_count s)
  unfolding validate_word
  readable_validate r = rw (reading_answer limits s First r.rows r.reads, readable_count limits s r)

  yes_reading : Bounded limits → (r : Result ℕ Failure) → reading_of limits s ≡ r →
      outcome (read_word (answered First r)) ≡ outcome_yes → Readable limits s
  yes_reading bounded (Ok n) e h = record { rows = n; reads = e }
  yes_reading bounded (Err at) e h =
      let q = at.number in
      let n = at.rows in
      let fits = field_fits limits bounded s First (omega arith) q n ((failed_field limits s q n).0 e) in
      absurd (omega (arith, h, refusal_outcome (refusal_at q First n) fits))

  pub validate_readable : Bounded limits → outcome (validate_word limits s) ≡ outcome_yes → Readable limits s
  unfolding validate_word answer_of
  validate_readable bounded h = yes_reading bounded (reading_of limits s) refl h
