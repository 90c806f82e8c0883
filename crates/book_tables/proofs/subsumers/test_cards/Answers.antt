use native.Mathlib.Omega.{arith}
use mathlib.Core.Path.{◌∙◌, refl}
use Rattle.book_tables.proofs.Caches.{table_checked, table_few}
use Rattle.book_tables.proofs.CardTables.{card_made}
use Rattle.book_tables.proofs.CardTests.{test_next, test_start, word_room}
use Rattle.book_tables.proofs.subsumers.test_cards.Goals.{else-covers, then-covers}
use Rattle.book_tables.proofs.subsumers.test_cards.Goals as goal

pub loop-k-init : goal.loop-k-init
loop-k-init c = record { below = test_start c.requires.cached; same = refl; long = refl }

pub covers_case-covers-requires-clause-whole : goal.covers_case-covers-requires-clause-whole
covers_case-covers-requires-clause-whole c =
    let pre = c.requires in
    let made = card_made pre.ready.bounded pre.taken c.loop-k.k (omega (arith, pre.placed.counted)) c.card-own.ensures c.unfolded_table-rows.ensures in
    omega (arith, table_few made, pre.room)

pub covers_case-covers-requires-clause-checked : goal.covers_case-covers-requires-clause-checked
covers_case-covers-requires-clause-checked c =
    let pre = c.requires in
    table_checked pre.ready.bounded
    (card_made pre.ready.bounded pre.taken c.loop-k.k (omega (arith, pre.placed.counted)) c.card-own.ensures c.unfolded_table-rows.ensures)

pub overflow_add-word : goal.overflow_add-word
overflow_add-word c =
    let so = c.loop-k.invariant.below in
    omega (arith, word_room so (omega (arith, c.requires.placed.located.most)), c.bit-word.ensures)

pub keep-requires-clause-few : goal.keep-requires-clause-few
keep-requires-clause-few c =
    let pre = c.requires in
    let made = card_made pre.ready.bounded pre.taken c.loop-k.k (omega (arith, pre.placed.counted)) c.card-own.ensures c.unfolded_table-rows.ensures in
    (table_checked pre.ready.bounded made).most

pub keep-requires-clause-whole : goal.keep-requires-clause-whole
keep-requires-clause-whole c =
    let pre = c.requires in
    let made = card_made pre.ready.bounded pre.taken c.loop-k.k (omega (arith, pre.placed.counted)) c.card-own.ensures c.unfolded_table-rows.ensures in
    omega (arith, table_few made, pre.room)

pub loop-k-preserved : goal.loop-k-preserved
loop-k-preserved c =
    let pre = c.requires in
    let so = c.loop-k.invariant in
    let made = card_made pre.ready.bounded pre.taken c.loop-k.k (omega (arith, pre.placed.counted)) c.card-own.ensures c.unfolded_table-rows.ensures in
    elim c.if-covers.branch [
      | then-covers w ↦
          record {
            below = test_next so.below made c.covers_case-covers.ensures
                (w.word-is ∙ rw (w.if-covers.true, w.bit-word.ensures))
                (rw w.cache-is (w.keep.ensures.cached _ _ so.below.cached made));
            same = rw w.cache-is (w.keep.ensures.same_reference ∙ so.same);
            long = rw w.cache-is (w.keep.ensures.long ∙ so.long);
          }
      | else-covers w ↦
          record {
            below = test_next so.below made c.covers_case-covers.ensures
                (w.word-is ∙ rw w.if-covers.false (omega arith)) (rw w.cache-is so.below.cached);
            same = rw w.cache-is so.same;
            long = rw w.cache-is so.long;
          }
    ]
