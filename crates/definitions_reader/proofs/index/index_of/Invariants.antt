-- At the loop's head the index is that of the definitions below k.
use Rattle.table.specs.NameValues.{set_of}
use Rattle.definitions_reader.proofs.Indexes.{IndexedTo}
use Rattle.definitions_reader.proofs.index.index_of.Given as goal

abbrev pub invariant-loop-k : goal.invariant-loop-k
invariant-loop-k l = IndexedTo l.tbox l.starts (set_of l.defined) l.once l.k
