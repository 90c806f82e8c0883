-- At the loop's head: once the other rounds are over, all is taken in (`Onward`).
use Prim.Native.Nat.{◌-◌, ◌<◌, ◌^◌, ℕ}
use mathlib.Core.Bool.{true}
use mathlib.Core.Path.{◌≡◌}
use Rattle.table.specs.Layout.{name_count}
use Rattle.table.specs.NameSet.{has}
use Rattle.table.specs.NameValues.{set_of}
use Rattle.unfold_rows.proofs.TakingLaws.{Onward}
use Rattle.unfold_rows.proofs.take.take_in.Given as goal

abbrev pub invariant-loop-round : goal.invariant-loop-round
invariant-loop-round l = record {
  below : set_of l.s.taken < 2 ^ name_count;
  known : (n : ℕ) → has (set_of l.s.taken) n ≡ true → has (set_of l.tbox.defined) n ≡ true;
  onward : Onward l.tbox.bytes.now l.tbox.starts.now (set_of l.tbox.defined) l.initial.s l.s (name_count - l._round);
}
