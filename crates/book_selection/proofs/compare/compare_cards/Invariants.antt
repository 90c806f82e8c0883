-- At the loop's head the cards before those that are left are compared with all earlier ones, and the cache has the
-- bytes that it was lent.
use lib.ListN.{length}
use mathlib.Core.Path.{◌≡◌}
use Rattle.book_tables.specs.Cache.{Cached}
use Rattle.under.specs.Book.{unfolded_book}
use Rattle.book_selection.specs.Comparing.{Compared}
use Rattle.book_selection.proofs.compare.compare_cards.Given as goal

abbrev pub invariant-loop-m : goal.invariant-loop-m
invariant-loop-m l = record {
  of : l.m-iterator.word ≡ l.covering;
  compared : Compared l.limits (unfolded_book l.limits l.tbox l.book) l.covering l.m-iterator.from l.redundant;
  same : l.cache.tables.ghost_name ≡ l.initial.cache.tables.ghost_name;
  long : length l.cache.tables.now ≡ length l.initial.cache.tables.now;
  cached : Cached l.limits (unfolded_book l.limits l.tbox l.book) l.cache;
}
