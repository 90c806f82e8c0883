-- No word has a bit.
use mathlib.Core.Path.{refl}
use Rattle.row_sets.proofs.Words.{holds_none}
use Rattle.row_sets.proofs.rows.RowSet.none.Goals as goal

pub returns : goal.returns
returns c = holds_none _ refl refl refl refl
