-- The place stays within the buffer, which keeps its length.
use Rattle.std.proofs.Common.{◌≤◌, length}
use Rattle.cases.proofs.make.successors.Given as goal

abbrev pub invariant-loop : goal.invariant-loop
invariant-loop l = l.to ≤ length l.out
