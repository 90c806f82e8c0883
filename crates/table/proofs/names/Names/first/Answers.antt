-- The zeros below the lowest bit.
use native.Mathlib.Omega.{arith}
use lib.Count.{trailing_le}
use Rattle.table.proofs.Lowest.{lowest_clear, lowest_set}
use Rattle.table.proofs.names.Names.first.Goals as goal

pub overflow_cast-result : goal.overflow_cast-result
overflow_cast-result c = omega (arith, trailing_le 64 c.args.self.word)

pub returns : goal.returns
returns c =
    let w = c.args.self.word in
    (omega (arith, trailing_le 64 w), (λ k l. lowest_clear w k l, λ l. lowest_set w l))
