use mathlib.Core.Path.{refl}
use Rattle.table_rows.proofs.Stores.{blank}
use Rattle.book_tables.proofs.subsumers.covers_case.Goals as goal

pub new-table-requires-clause-empty : goal.new-table-requires-clause-empty
new-table-requires-clause-empty c = blank 512 512 refl
