-- At the loop's head k rows have been pushed.
use mathlib.Core.Path.{◌≡◌}
use Rattle.unfold_rows.specs.Copies.{Added, copy_bytes}
use Rattle.unfold_rows.proofs.copy.copy_rows.Given as goal

abbrev pub invariant-loop-k : goal.invariant-loop-k
invariant-loop-k l = (l.table.rows ≡ l.k) × Added l.initial.out l.out (copy_bytes l.s (λ p. p) 0 l.k) 0 l.k
