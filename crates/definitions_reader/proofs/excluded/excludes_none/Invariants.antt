-- At the loop's head no row before row j excludes a name of the set: what is left to ask is the test from row j on.
use mathlib.Core.Bool.{not}
use mathlib.Core.Path.{◌≡◌}
use Prim.Native.Nat.{◌-◌}
use Rattle.table.specs.NameValues.{set_of}
use Rattle.table.specs.Range.{each}
use Rattle.definitions_reader.specs.Excluded.{excludes_at, excludes_none_of}
use Rattle.definitions_reader.proofs.excluded.excludes_none.Given as goal

abbrev pub invariant-loop-j : goal.invariant-loop-j
invariant-loop-j l =
    excludes_none_of l.picture (set_of l.defined)
    ≡ each (λ k. not (excludes_at l.picture (set_of l.defined) k)) (l.rows - l.j) l.j
