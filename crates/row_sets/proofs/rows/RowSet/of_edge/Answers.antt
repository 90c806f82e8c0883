-- Each word meets the one of the edge's four.
use mathlib.Core.Path.{refl}
use Rattle.row_sets.proofs.Words.{meet_row}
use Rattle.row_sets.proofs.rows.RowSet.of_edge.Goals as goal

pub returns : goal.returns
returns c = let a = c.args in meet_row _ a.self a.masks.now _ _ refl refl refl refl refl
