-- The cards that were found subsume the case, and those that are left are the answer, all of them unfolded.
use mathlib.Core.Path.{◌∙◌, ◌≡◌, sym}
use Rattle.book.specs.Form.{card_count}
use Rattle.definitions.specs.Unfolded.{unfolded_file}
use Rattle.under.specs.Book.{unfolded_book}
use Rattle.book_tables.proofs.CardTables.{count_is}
use Rattle.most_specific.proofs.Calls.{covering_inside, selected_word_is}
use Rattle.most_specific.proofs.most_specific.specific_cards.Goals as goal

pub find_subsumers-word-requires-clause-cached : goal.find_subsumers-word-requires-clause-cached
find_subsumers-word-requires-clause-cached c = c.new-cache.ensures.cached _ _

pub select_cards-requires-clause-inside : goal.select_cards-requires-clause-inside
select_cards-requires-clause-inside c =
    let a = c.args in
    let tbox = a.tbox.now.bytes.now in
    let counted : a.cards.count ≡ card_count (unfolded_book a.limits tbox a.book.now) =
    c.requires.placed.counted
    ∙ sym (count_is c.requires.ready.bounded (record { case = a.case.now; accepted = c.requires.accepted })) in
    covering_inside a.limits (unfolded_file a.limits tbox a.case.now) (unfolded_book a.limits tbox a.book.now)
    a.cards.count c.find_subsumers-word.result counted c.find_subsumers-word.ensures.word

pub returns : goal.returns
returns c =
    let a = c.args in
    let tbox = a.tbox.now.bytes.now in
    let counted : a.cards.count ≡ card_count (unfolded_book a.limits tbox a.book.now) =
    c.requires.placed.counted
    ∙ sym (count_is c.requires.ready.bounded (record { case = a.case.now; accepted = c.requires.accepted })) in (
      selected_word_is a.limits (unfolded_file a.limits tbox a.case.now) (unfolded_book a.limits tbox a.book.now)
          a.cards.count c.find_subsumers-word.result counted c.find_subsumers-word.ensures.word
          c.select_cards.result c.select_cards.ensures.word,
      c.select_cards.ensures.work,
    )
