use mathlib.Core.Path.{ap}
use mathlib.Core.Bool.{not}
use Rattle.definitions_reader.proofs.index.still_once.Goals as goal

pub returns-then-once : goal.returns-then-once
returns-then-once c = rw c.if-once.true (ap not c.subset.ensures)
