-- At the loop's head each row has the weight of those rows from j on that hang from it, and it fits a byte.
use Rattle.merged_count.proofs.Weighings.{Low, WeighedFrom}
use Rattle.merged_count.proofs.bound.weigh.Given as goal

abbrev pub invariant-loop-j : goal.invariant-loop-j
invariant-loop-j l = WeighedFrom l.s l.rows l.keys l.somes l.j l.below × Low l.below
