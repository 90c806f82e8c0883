-- At the loop's head the cards below k have passed.
use Rattle.picture.proofs.ReadInTurn.{ReadTo}
use Rattle.picture.specs.declared.answer.Input.TheVariants.{Card}
use Rattle.book.specs.Form.{card}
use Rattle.most_specific.proofs.most_specific.read_cards.Given as goal

abbrev pub invariant-loop-k : goal.invariant-loop-k
invariant-loop-k l = ReadTo l.limits Card (card l.book) l.cards.count l.k
