-- At the loop's head the card is compared with the earlier ones before those that are left. Of the cards that are left
-- none is marked on the way: only the one that is compared, or the card itself.
use Prim.Native.Nat.{◌<◌, ◌≤◌, ℕ}
use mathlib.Core.Bool.{◌&&◌, not}
use mathlib.Core.Path.{◌≡◌}
use Rattle.table.specs.NameSet.{has}
use Rattle.under.specs.Book.{unfolded_book}
use Rattle.book_selection.specs.Comparing.{ComparedTo}
use Rattle.book_selection.proofs.compare.compare_earlier.Given as goal

abbrev pub invariant-loop-n : goal.invariant-loop-n
invariant-loop-n l = record {
  left : (k : ℕ) → l.n-iterator.from ≤ k → k < l.m → has l.n-iterator.word k ≡ (has l.covering k && not (has l.word k));
  compared : ComparedTo l.limits (unfolded_book l.limits l.tbox l.book) l.covering l.m l.n-iterator.from l.word;
}
