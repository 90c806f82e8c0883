-- What is found, with those that are left and will be found, is all of the round.
use Rattle.table.specs.NameValues.{set_of}
use Rattle.definition_parts.specs.Names.{names_of}
use Rattle.definitions_rings.specs.Rings.{uses_at}
use Rattle.definitions_rings.proofs.Settlings.{Settling}
use Rattle.definitions_rings.proofs.rings.settle.Given as goal

abbrev pub invariant-loop-name : goal.invariant-loop-name
invariant-loop-name l =
    Settling (uses_at l.uses) (set_of l.fn.defined) (set_of l.done) (set_of l.found) (names_of (set_of l.name-iterator.left))
