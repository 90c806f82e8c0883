use mathlib.Core.Path.{◌∙◌, ◌≡◌, ap}
use Rattle.picture.proofs.Exits.{exits}
use Rattle.picture.proofs.ReadInTurn.{read_all, read_next, read_refused}
use Rattle.picture.specs.Read.{answer_of}
use Rattle.picture.specs.declared.answer.Input.TheVariants.{Card}
use Rattle.book.specs.Form.{card}
use Rattle.most_specific.proofs.most_specific.read_cards.Goals as goal
use Rattle.most_specific.proofs.most_specific.read_cards.Goals.{After-read}

says : (c : After-read) → c.read.result ≡ answer_of c.args.limits (Card c.loop-k.k) (card c.args.book.now c.loop-k.k)
says c = c.read.ensures ∙ ap (answer_of c.args.limits (Card c.loop-k.k)) c.card.ensures

pub loop-k-preserved : goal.loop-k-preserved
loop-k-preserved c =
    let args = c.args in
    read_next args.limits Card (card args.book.now) args.cards.count c.loop-k.k c.loop-k.invariant
    c.loop-k-test.true c.read.result (says (goal.at.loop-k-preserved c).After-read) _ c.in_ok-read.was

pub returns-in_err-read : goal.returns-in_err-read
returns-in_err-read c =
    let args = c.args in
    exits c.from_residual.result _ c.from_residual.ensures.1
    ∙ read_refused args.limits Card (card args.book.now) args.cards.count c.loop-k.k c.loop-k.invariant
    c.loop-k-test.true c.read.result (says (goal.at.returns-in_err-read c).After-read) _ c.in_err-read.was

pub returns : goal.returns
returns c =
    let args = c.args in
    read_all args.limits Card (card args.book.now) args.cards.count c.loop-k.k c.loop-k.invariant c.loop-k-test.false
