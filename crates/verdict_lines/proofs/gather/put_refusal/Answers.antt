-- Each number is put after what stands there, and the widths of the numbers bound the line.
use Prim.Native.Nat.{◌<◌, ◌^◌, ◌≤◌, ℕ}
use lib.ListN.{length, length-append}
use native.Mathlib.Omega.{arith}
use Rattle.picture.specs.declared.answer.Input.{Input}
use Rattle.picture.specs.declared.answer.Input.TheVariants.{Book, Buffer, Card, Definition, Definitions, Evidence, First, Second}
use Rattle.verdict_lines.specs.Lines.{decimal, number, refusal_line, refused_input}
use Rattle.verdict_lines.proofs.Decimals.{decimal_short}
use Rattle.verdict_lines.proofs.Gatherings.{added_four, added_front}
use Rattle.verdict_lines.proofs.gather.put_refusal.Goals as goal

input_short : (input : Input) → length (refused_input input) ≤ 15
input_short First = omega arith
input_short Buffer = omega arith
input_short Second = omega arith
input_short Evidence = omega arith
input_short Book = omega arith
input_short (Card k) = omega arith
input_short Definitions = omega arith
input_short (Definition k) = omega arith

byte_short : (n : ℕ) → n < 2 ^ 8 → length (decimal n) ≤ 3
byte_short n l = decimal_short 2 n (omega arith)

word_short : (n : ℕ) → n < 2 ^ 16 → length (decimal n) ≤ 5
word_short n l = decimal_short 4 n (omega arith)

pub put_number-asked-requires : goal.put_number-asked-requires
put_number-asked-requires c =
    let a = c.args in
    let named = c.put_input-named in
    let question = byte_short a.question c.ranges.question.fits in
    omega (arith, c.requires, named.ensures.place, input_short a.input, question, named.auto)

pub put_number-at_row-requires : goal.put_number-at_row-requires
put_number-at_row-requires c =
    let a = c.args in
    let named = c.put_input-named in
    let asked = c.put_number-asked in
    let place = simp length-append at asked.ensures.place in
    let question = byte_short a.question c.ranges.question.fits in
    let row = word_short a.row c.ranges.row.fits in
    omega (arith, c.requires, named.ensures.place, input_short a.input, place, question, row, named.auto, asked.auto)

pub put_number-requires : goal.put_number-requires
put_number-requires c =
    let a = c.args in
    let named = c.put_input-named in
    let asked = c.put_number-asked in
    let told = c.put_number-at_row in
    let asked_place = simp length-append at asked.ensures.place in
    let row_place = simp length-append at told.ensures.place in
    omega (
      arith,
      c.requires,
      named.ensures.place,
      input_short a.input,
      asked_place,
      byte_short a.question c.ranges.question.fits,
      row_place,
      word_short a.row c.ranges.row.fits,
      word_short a.byte c.ranges.byte.fits,
      named.auto,
      asked.auto,
      told.auto,
    )

pub returns : goal.returns
returns c =
    let a = c.args in
    let named = c.put_input-named in
    let asked = c.put_number-asked in
    let told = c.put_number-at_row in
    let last = c.put_number in
    let input = input_short a.input in
    let question = byte_short a.question c.ranges.question.fits in
    let row = word_short a.row c.ranges.row.fits in
    let byte = word_short a.byte c.ranges.byte.fits in
    let line = refusal_line a.input a.question a.row a.byte in
    let size : length line ≤ 31 = simp length-append (omega (arith, input, question, row, byte)) in
    added_front a.out.now last.new.out line last.result (omega (arith, c.requires, size))
    (added_four a.out.now named.new.out asked.new.out told.new.out last.new.out
    0 named.result asked.result told.result last.result
    (refused_input a.input) (number a.question " ") (number a.row " ") (number a.byte "\n")
    (simp length-append (omega (arith, c.requires, input, question, row)))
    named.ensures asked.ensures told.ensures last.ensures)
