-- Both words have 32 bits.
use native.Mathlib.Omega.{arith}
use Rattle.book_form.proofs.CardSets.{without_bits}
use Rattle.book_form.proofs.word.without.Goals as goal

pub returns : goal.returns
returns c = λ i. without_bits 32 c.args.word c.args.other i (omega arith) (omega arith)
