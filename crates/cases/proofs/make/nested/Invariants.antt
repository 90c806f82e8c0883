-- The place stays within the buffer, which keeps its length.
use Rattle.std.proofs.Common.{◌≤◌, length}
use Rattle.cases.proofs.make.nested.Given as goal

abbrev pub invariant-loop-level : goal.invariant-loop-level
invariant-loop-level l = l.at ≤ length l.out
