-- The 64-bit answer word of a call: how it is put together, and how include/zuvaropy.h takes it apart.
--   bits 63..56  outcome: 0 a refusal; 1 a value, verdict yes or map taken; 2 verdict no or refutation taken
--   a refusal:   bits 55..48 the question's number, 47..40 the input's code, 39..32 the number of the card or the
--                definition, or 0, 31..16 the row, 15..0 the byte, as the refusal carries them (02, U1)
--   an answer:   bits 31..0 the value, the rest 0
--
--   outcome_yes, outcome_no                   the outcomes of an answer
--   input_code, card_of                       the code of an input, and the number of its card or definition
--   outcome_weight .. row_weight              the weights of the parts; the value is below `valueRange`, row and byte are
--                                           below `placeRange`, the other parts below `partRange`
--   value_word, refusal_word                  the word of an answer; of a refusal
--   refused, refused_at                      the word of a refusal that is at no field; of one at the field after n rows
--   outcome, question, input, card,
--   row, byte, value                        the parts of a word; row and byte are a refusal's, the value an answer's: of
--                                           other words the header gives 0 for them
--   number_word                              the word of a number or a refusal
--   read_word, normalized_word, verdict_word, common_word, verified_word, selected_word   the word of each call's answer
use Rattle.std.specs.Prelude.{ℕ, ◌%◌, ◌*◌, ◌+◌, ◌/◌, ◌^◌, Err, Ok, Result}
use Rattle.picture.specs.Refusal.{refusal, refusal_at}
use Rattle.picture.specs.declared.answer.Input.{Input}
use Rattle.picture.specs.declared.answer.Input.TheVariants.{Book, Buffer, Card, Definition, Definitions, Evidence, First, Second}
use Rattle.picture.specs.declared.answer.Refusal.{Refusal}
use Rattle.evidence.specs.declared.check.Taken.TheVariants as taken
use Rattle.subsumption.specs.declared.verdict.Verdict.{Verdict}
use Rattle.evidence.specs.declared.check.Taken.{Taken}
use Rattle.subsumption.specs.declared.verdict.Verdict.TheVariants as verdict

abbrev pub outcome_yes : ℕ
outcome_yes = 1

abbrev pub outcome_no : ℕ
outcome_no = 2

abbrev pub input_code : Input → ℕ
input_code Buffer = 0
input_code First = 1
input_code Second = 2
input_code Evidence = 3
input_code Book = 4
input_code (Card n) = 5
input_code Definitions = 6
input_code (Definition n) = 7

abbrev pub card_of : Input → ℕ
card_of Buffer = 0
card_of First = 0
card_of Second = 0
card_of Evidence = 0
card_of Book = 0
card_of (Card n) = n
card_of Definitions = 0
card_of (Definition n) = n

abbrev pub part_range : ℕ
part_range = 2 ^ 8

abbrev pub value_range : ℕ
value_range = 2 ^ 32

abbrev pub place_range : ℕ
place_range = 2 ^ 16

abbrev pub row_weight : ℕ
row_weight = place_range

abbrev pub card_weight : ℕ
card_weight = value_range

abbrev pub input_weight : ℕ
input_weight = 2 ^ 40

abbrev pub question_weight : ℕ
question_weight = 2 ^ 48

abbrev pub outcome_weight : ℕ
outcome_weight = 2 ^ 56

abbrev pub value_word : ℕ → ℕ → ℕ
value_word outcome value = outcome * outcome_weight + value

abbrev pub refusal_word : Refusal → ℕ
refusal_word r =
    r.number * question_weight + input_code r.input * input_weight + card_of r.input * card_weight
    + r.row * row_weight + r.byte

abbrev pub refused : ℕ → Input → ℕ
refused number input = refusal_word (refusal number input)

abbrev pub refused_at : ℕ → Input → ℕ → ℕ
refused_at number input n = refusal_word (refusal_at number input n)

abbrev pub outcome : ℕ → ℕ
outcome w = w / outcome_weight

abbrev pub question : ℕ → ℕ
question w = w / question_weight % part_range

abbrev pub input : ℕ → ℕ
input w = w / input_weight % part_range

abbrev pub card : ℕ → ℕ
card w = w / card_weight % part_range

abbrev pub row : ℕ → ℕ
row w = w / row_weight % place_range

abbrev pub byte : ℕ → ℕ
byte w = w % place_range

abbrev pub value : ℕ → ℕ
value w = w % value_range

-- a number, or the refusal
abbrev pub number_word : Result ℕ Refusal → ℕ
number_word (Ok n) = value_word outcome_yes n
number_word (Err r) = refusal_word r

-- the plain test: the row count, or the refusal
abbrev pub read_word : Result ℕ Refusal → ℕ
read_word = number_word

-- the normal table: its length in bytes, or the refusal
abbrev pub normalized_word : Result ℕ Refusal → ℕ
normalized_word = number_word

-- the verdict: yes or no, with the length of the evidence in bytes, or the refusal
abbrev pub verdict_word : Result Verdict Refusal → ℕ
verdict_word (Ok (verdict.Yes n)) = value_word outcome_yes n
verdict_word (Ok (verdict.No n)) = value_word outcome_no n
verdict_word (Err r) = refusal_word r

-- the common picture: its length in bytes, or the refusal
abbrev pub common_word : Result ℕ Refusal → ℕ
common_word = number_word

-- the check of evidence: which kind was taken, with value 0, or the refusal
abbrev pub verified_word : Result Taken Refusal → ℕ
verified_word (Ok taken.Map) = value_word outcome_yes 0
verified_word (Ok taken.Refutation) = value_word outcome_no 0
verified_word (Err r) = refusal_word r

-- the nearest cards: their word, card n as bit n, or the refusal
abbrev pub selected_word : Result ℕ Refusal → ℕ
selected_word = number_word
