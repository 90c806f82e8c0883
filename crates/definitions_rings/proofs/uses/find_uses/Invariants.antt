-- Of each defined name before the lowest that is left the set is kept.
use Prim.Native.Nat.{ℕ}
use Rattle.table.specs.NameValues.{set_of}
use Rattle.definition_parts.proofs.NameWalks.{Lowest}
use Rattle.definitions_rings.proofs.UsesFound.{Finding}
use Rattle.definitions_rings.proofs.uses.find_uses.Given as goal

abbrev pub invariant-loop-name : goal.invariant-loop-name
invariant-loop-name l =
    let left = set_of l.name-iterator.left in
    (name : ℕ) → Lowest left name →
    Finding l.tbox.bytes.now l.tbox.starts.now (set_of l.tbox.defined) l.uses left name
