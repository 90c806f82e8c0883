-- The questions in their order.
use mathlib.Core.Bool.{true}
use mathlib.Core.Path.{◌∙◌, ◌≡◌, sym}
use Rattle.picture.proofs.Exits.{exits}
use Rattle.book.specs.Call.{no_book}
use Rattle.book.specs.Form.{book_form}
use Rattle.most_specific.specs.Asking.{after_cards, after_case, word_under}
use Rattle.most_specific.proofs.Calls.{cards_passed, cards_refused, cards_room, form_refused, left_as, stopped}
use Rattle.most_specific.proofs.most_specific.ask_book.Goals as goal

pub returns-then-not-has_book_form : goal.returns-then-not-has_book_form
returns-then-not-has_book_form c =
    let a = c.args in
    let no-is = form_refused a.limits a.tbox.now a.case.now a.book.now
    (sym c.has_book_form.ensures ∙ c.if-not-has_book_form.true) in
    rw c.refuse.ensures
    (stopped a.limits (word_under a.limits a.tbox.now a.case.now a.book.now) a.work.now
    (after_case a.limits a.tbox.now a.case.now a.book.now) no_book no-is)

pub ask_definitions-requires : goal.ask_definitions-requires
ask_definitions-requires c =
    let formed : book_form c.args.book.now ≡ true = sym c.has_book_form.ensures ∙ c.if-not-has_book_form.false in
    let a = c.args in
    let found = c.find_cards-cards in
    cards_room a.limits a.tbox.now a.case.now a.book.now (formed)
    found.result found.ensures c.read_cards.result c.read_cards.ensures c.requires
    c.in_ok-read_cards.was

pub returns : goal.returns
returns c =
    let formed : book_form c.args.book.now ≡ true = sym c.has_book_form.ensures ∙ c.if-not-has_book_form.false in
    let a = c.args in
    let found = c.find_cards-cards in
    let left = c.ask_definitions in
    left_as a.limits (word_under a.limits a.tbox.now a.case.now a.book.now) a.work.now
    (after_case a.limits a.tbox.now a.case.now a.book.now)
    (after_cards a.limits a.tbox.now a.case.now a.book.now)
    (cards_passed a.limits a.tbox.now a.case.now a.book.now (formed)
    found.result found.ensures c.read_cards.result c.read_cards.ensures
    c.in_ok-read_cards.was)
    left.result _ left.ensures

pub returns-in_err-read_cards : goal.returns-in_err-read_cards
returns-in_err-read_cards c =
    let formed : book_form c.args.book.now ≡ true = sym c.has_book_form.ensures ∙ c.if-not-has_book_form.false in
    let a = c.args in
    let found = c.find_cards-cards in
    rw (exits c.from_residual.result _ c.from_residual.ensures.1)
    (stopped a.limits (word_under a.limits a.tbox.now a.case.now a.book.now) a.work.now
    (after_case a.limits a.tbox.now a.case.now a.book.now) _
    (cards_refused a.limits a.tbox.now a.case.now a.book.now (formed)
    found.result found.ensures c.read_cards.result c.read_cards.ensures _
    c.in_err-read_cards.was))
