-- Links are filled in where there are none.
use mathlib.Core.Path.{refl}
use Rattle.table_rows.proofs.Stores.{blank}
use Rattle.product_writer.proofs.graft.build.Goals as goal

pub new-left-requires-clause-empty : goal.new-left-requires-clause-empty
new-left-requires-clause-empty c = blank 512 512 refl

pub new-right-requires-clause-empty : goal.new-right-requires-clause-empty
new-right-requires-clause-empty c = blank 512 512 refl
