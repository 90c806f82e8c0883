-- 01, the verdict program, and 02, U1, "refusal line ends with row, then byte": what it prints, byte by byte. Every
-- line ends with a newline.
--   text          a text as bytes, in ASCII
--   digit         a digit
--   digits_up_to    the digits of a number below 10 ^ k, without zeros in front; 0 has one, but for k = 0
--   decimal       those of a number below 10 ^ 20, so of each that the code can hold
--   number        a number, and the text after it
--   map_rows       the rows that a map of n bytes has an image for: those of the second normal table
--                 (verdict_tool/proofs/Verdicts: `rows-map`)
--   map_line       a row of the second normal table, and its image
--   map_lines      those of the rows below n
--   refused_input  which picture is refused; no other input is (verdict_tool/proofs/RefusedInputs: `refused-named`)
--   refusal_line   that, the number of the question, the row and the byte
--   output        the lines of a verdict, whose evidence is e
--   printed       those of two files
use Prim.Native.Char.{code}
use Rattle.std.specs.Prelude.{◌%◌, ◌+◌, ◌-◌, ◌/◌, suc, zero, ℕ, ltb, List, [], ◌++◌, ◌∷◌, Err, Ok, Result}
use Prim.Native.String.{String}
use Prim.Native.String as string
use Rattle.table.specs.Bounds.{bench_limits}
use Rattle.table.specs.Layout.{end_size, number_size}
use Rattle.table.specs.Pick.{pick}
use Rattle.picture.specs.declared.answer.Input.{Input}
use Rattle.picture.specs.declared.answer.Input.TheVariants.{Book, Buffer, Card, Definition, Definitions, Evidence, First, Second}
use Rattle.homomorphism.specs.Layout.{image_of, image_place}
use Rattle.workspace.specs.Prepare.{work_size}
use Rattle.subsumption.specs.Call.{subsumes_answer}
use Rattle.subsumption.specs.Verdict.{evidence_of, evidence_size}
use Rattle.subsumption.specs.declared.verdict.Verdict.{Verdict}
use Rattle.picture.specs.declared.answer.Refusal.{Refusal}
use Rattle.subsumption.specs.declared.verdict.Verdict.TheVariants.{No, Yes}

abbrev pub text : String → List ℕ
text string.[] = []
text (string.◌∷◌ c s) = code c ∷ text s

abbrev pub digit : ℕ → ℕ
digit d = code "0" + d

abbrev pub digits_up_to : ℕ → ℕ → List ℕ
digits_up_to zero n = []
digits_up_to (suc k) n = pick (ltb n 10) [] (digits_up_to k (n / 10)) ++ (digit (n % 10) ∷ [])

unfoldable pub decimal : ℕ → List ℕ
decimal n = digits_up_to 20 n

abbrev pub number : ℕ → String → List ℕ
number n after = decimal n ++ text after

abbrev pub map_rows : ℕ → ℕ
map_rows n = (n - image_place 0 - end_size) / number_size

abbrev pub map_line : ℕ → ℕ → List ℕ
map_line row image = number row " " ++ number image "\n"

unfoldable pub map_lines : List ℕ → ℕ → List ℕ
map_lines e zero = []
map_lines e (suc n) = map_lines e n ++ map_line n (image_of e n)

abbrev pub refused_input : Input → List ℕ
refused_input First = text "refused first "
refused_input Buffer = text "refused second "
refused_input Second = text "refused second "
refused_input Evidence = text "refused second "
refused_input Book = text "refused second "
refused_input (Card k) = text "refused second "
refused_input Definitions = text "refused second "
refused_input (Definition k) = text "refused second "

abbrev pub refusal_line : Input → ℕ → ℕ → ℕ → List ℕ
refusal_line input question row byte = refused_input input ++ number question " " ++ number row " " ++ number byte "\n"

unfoldable pub output : Result Verdict Refusal → List ℕ → List ℕ
output (Ok (Yes n)) e = text "verdict yes\n" ++ map_lines e (map_rows n)
output (Ok (No n)) e = text "verdict no\n"
output (Err r) e = refusal_line r.input r.number r.row r.byte

unfoldable pub printed : List ℕ → List ℕ → List ℕ
printed first second =
    output (subsumes_answer bench_limits first second (work_size bench_limits) (evidence_size bench_limits))
    (evidence_of bench_limits first second)
