use mathlib.Core.Path.{refl}
use Rattle.table_rows.proofs.Stores.{blank}
use Rattle.book_selection.proofs.compare.compare_spots.Goals as goal

pub table_of-table-requires-clause-empty : goal.table_of-table-requires-clause-empty
table_of-table-requires-clause-empty c = blank 512 512 refl
