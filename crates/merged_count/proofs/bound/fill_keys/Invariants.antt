-- At the loop's head the rows before j have their keys, and their some-rows are tallied.
use Rattle.merged_count.proofs.Keyings.{KeyedTo}
use Rattle.merged_count.proofs.bound.fill_keys.Given as goal

abbrev pub invariant-loop-j : goal.invariant-loop-j
invariant-loop-j l = KeyedTo l.s l.rows l.j l.keys l.somes
