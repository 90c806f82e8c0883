-- After each round the set is that of so many rounds; a round that adds none is the last that is needed.
use mathlib.Core.Path.{◌≡◌}
use Rattle.table.specs.NameValues.{set_of}
use Rattle.definitions_rings.specs.Rings.{settled_set, uses_at}
use Rattle.definitions_rings.proofs.rings.find_settled.Given as goal

abbrev pub invariant-loop-round : goal.invariant-loop-round
invariant-loop-round l = set_of l.done ≡ settled_set (uses_at l.uses) (set_of l.defined) l.round
