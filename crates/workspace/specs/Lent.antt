-- 01, 1 and the work space of the calls on two pictures.
--   roomy       1 of a call that is lent a result buffer too: the work space is at least as long as two halves, and the
--               result buffer as the length named
--   lent_asked   1; first; second; 14 of each. The argument after the limits says whether the buffers are long enough
--   pair_work    the work space: both tables where all that is answered yes, whatever comes after; else nothing written
use Rattle.std.specs.Prelude.{ℕ, leb, Bool, ◌&&◌, List}
use Rattle.table.specs.declared.layout.Limits.{Limits}
use Rattle.picture.specs.Asked.{and_then, kept, room_asked, Asked}
use Rattle.workspace.specs.Prepare.{halves_put, pair_asked, work_size}

-- the length named of the result buffer, and how long the two are
abbrev pub roomy : Limits → ℕ → ℕ → ℕ → Bool
roomy limits size work result = leb (work_size limits) work && leb size result

unfoldable pub lent_asked : Limits → Bool → List ℕ → List ℕ → Asked
lent_asked limits enough first second = and_then (room_asked enough) (pair_asked limits first second)

abbrev pub pair_work : Limits → Bool → List ℕ → List ℕ → List ℕ → List ℕ
pair_work limits enough first second work =
    kept (lent_asked limits enough first second) (halves_put limits first second work) work
