-- At the loop's head the questions of the rows before row i are answered yes, so their images are rows of the first.
-- The first row with a no decides; else all are answered yes.
use Rattle.map_check.proofs.MapLaws.{asks}
use Rattle.picture.proofs.Orders.{YesTo}
use Rattle.map_check.proofs.map.map_asked.Given as goal

abbrev pub invariant-loop-i : goal.invariant-loop-i
invariant-loop-i l = YesTo (asks l.first l.second l.e) l.i
