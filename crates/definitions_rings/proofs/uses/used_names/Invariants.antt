-- After k rows the set has what the first k rows want.
use Rattle.table.specs.NameValues.{set_of}
use Rattle.definitions_rings.proofs.WantedNames.{Wants}
use Rattle.definitions_rings.proofs.uses.used_names.Given as goal

abbrev pub invariant-loop-k : goal.invariant-loop-k
invariant-loop-k l = Wants l.picture l.k (set_of l.wants)
