-- At the loop's head the cards below k are tested, and the cache has the bytes that it was lent. The table of card k is
-- made in the rest of the work space, and the search on both tables says whether it covers the case.
use lib.ListN.{length}
use mathlib.Core.Path.{◌≡◌}
use Rattle.under.specs.Book.{unfolded_book}
use Rattle.book_tables.specs.Cache.{SubsumersBelow}
use Rattle.book_tables.proofs.subsumers.test_cards.Given as goal

abbrev pub invariant-loop-k : goal.invariant-loop-k
invariant-loop-k l = record {
  below : SubsumersBelow l.limits l.case.bytes.now (unfolded_book l.limits l.tbox.bytes.now l.book) l.word l.cache l.k;
  same : l.cache.tables.ghost_name ≡ l.initial.cache.tables.ghost_name;
  long : length l.cache.tables.now ≡ length l.initial.cache.tables.now;
}
