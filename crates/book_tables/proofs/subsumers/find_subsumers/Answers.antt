-- The case's table is made in the first half of the work space, and the cards are tested against it.
use native.Mathlib.Omega.{arith}
use mathlib.Core.Path.{◌∙◌, refl, subst, sym}
use Rattle.table_rows.proofs.Stores.{blank}
use Rattle.row_sets.specs.Rows.{Checked}
use Rattle.book_tables.specs.Tables.{TakenUnder}
use Rattle.book_tables.proofs.Caches.{tabled_at, table_checked, table_few}
use Rattle.book_tables.proofs.CardTables.{cards_taken, count_is}
use Rattle.book_tables.proofs.CardTests.{case_tested}
use Rattle.book_tables.proofs.subsumers.find_subsumers.Goals as goal

pub table_at-requires : goal.table_at-requires
table_at-requires c =
    let pre = c.requires.findable in
    let made = tabled_at _ _ _ _ _ c.unfolded_table-rows.ensures pre.accepted.case_few in
    ((table_checked pre.ready.bounded made).most, omega (arith, table_few made))

pub new-table-requires-clause-checked : goal.new-table-requires-clause-checked
new-table-requires-clause-checked c =
    let pre = c.requires.findable in
    subst (λ t. Checked t c.unfolded_table-rows.result) (sym c.table_at.ensures)
    (table_checked pre.ready.bounded (tabled_at _ _ _ _ _ c.unfolded_table-rows.ensures pre.accepted.case_few))

pub new-table-requires-clause-empty : goal.new-table-requires-clause-empty
new-table-requires-clause-empty c = blank 512 512 refl

pub returns-clause-word : goal.returns-clause-word
returns-clause-word c =
    let a = c.args in
    let pre = c.requires.findable in
    let bounded = pre.ready.bounded in
    let taken : TakenUnder a.limits a.tbox.now.bytes.now a.book.now = record { case = a.case.now; accepted = pre.accepted } in
    let made = tabled_at _ _ _ _ _ c.unfolded_table-rows.ensures pre.accepted.case_few in
    case_tested a.limits _ _ a.cards.count bounded pre.accepted.case_few (cards_taken bounded taken)
    (pre.placed.counted ∙ sym (count_is bounded taken)) (c.new-table.ensures.bytes ∙ c.table_at.ensures ∙ made.is)
    c.test_cards.ensures.word
