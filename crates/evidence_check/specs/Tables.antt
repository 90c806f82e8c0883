-- What the code checks evidence against: two tables as bytes. Nobody has to believe this.
--   check_in   the answer from the two tables alone: their trees in the place of the pictures'
use Rattle.std.specs.Prelude.{ℕ, List, Ok, Result}
use Rattle.table.specs.declared.layout.Limits.{Limits}
use Rattle.picture.specs.Asked.{on_asked}
use Rattle.meaning.specs.Meaning.{picture_table}
use Rattle.countermodel.specs.Model.{row_tree}
use Rattle.picture.specs.declared.answer.Refusal.{Refusal}
use Rattle.evidence.specs.declared.check.Taken.{Taken}
use Rattle.evidence.specs.Check.{check_asked, taken_as}

unfoldable pub check_in : Limits → List ℕ → List ℕ → List ℕ → Result Taken Refusal
check_in limits first second e =
    on_asked
    (check_asked limits (picture_table first) (picture_table second)
    (row_tree (picture_table first) 0) (row_tree (picture_table second) 0) e)
    (Ok (taken_as (picture_table second).rows e))
