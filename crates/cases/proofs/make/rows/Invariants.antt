-- The place stays within the buffer, which keeps its length.
use Rattle.std.proofs.Common.{◌≤◌, length}
use Rattle.cases.proofs.make.rows.Given as goal

abbrev pub invariant-loop-n : goal.invariant-loop-n
invariant-loop-n l = l.at ≤ length l.out
