-- The zeros below the lowest bit are counted in the word without its bits below `from`.
use Prim.Native.Nat.{◌/◌, ◌^◌}
use native.Mathlib.Omega.{arith}
use lib.Count.{trailing_le}
use Rattle.row_sets.proofs.Words.{next_clear, next_set}
use Rattle.row_sets.proofs.rows.next_bit.Goals as goal

pub overflow_cast-result : goal.overflow_cast-result
overflow_cast-result c = omega (arith, trailing_le 64 (c.args.word / 2 ^ c.args.from))

pub overflow_add-result : goal.overflow_add-result
overflow_add-result c = omega (arith, c.requires, trailing_le 64 (c.args.word / 2 ^ c.args.from))

pub returns : goal.returns
returns c =
    let a = c.args in (omega arith, omega (arith, trailing_le 64 (a.word / 2 ^ a.from)), λ k l b. next_clear a.word a.from k l b, λ b. next_set a.word a.from b)
