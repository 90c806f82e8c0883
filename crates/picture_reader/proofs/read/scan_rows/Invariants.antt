-- At the loop's head n rows have been read, the table has their depths, and the reading is that of the scan from row n on.
-- The measure is the number of rows that may still come.
use mathlib.Core.Path.{◌≡◌}
use Prim.Native.Nat.{suc, ◌≤◌, ◌-◌}
use lib.ListN.{length}
use Rattle.table.specs.Bounds.{max_rows}
use Rattle.picture_questions.specs.Depths.{Known}
use Rattle.picture.specs.Read.{scan_from, reading_of}
use Rattle.picture_reader.proofs.read.scan_rows.Given as goal

abbrev pub invariant-loop-depth : goal.invariant-loop-depth
invariant-loop-depth l = (l.n ≤ l.limits.rows) × ((length l.depths ≡ max_rows) × ((Known l.s l.n l.depths) × (reading_of l.limits l.s ≡ scan_from (suc l.limits.rows - l.n) l.limits l.s l.n)))

abbrev pub decreases-loop-depth : goal.decreases-loop-depth
decreases-loop-depth l = l.limits.rows - l.n
