-- At the loop's head 14 is answered yes for the cards below k, unfolded.
use Rattle.picture.proofs.Orders.{YesTo}
use Rattle.under.specs.Asked.{card_few}
use Rattle.book_tables.proofs.merged.ask_cards.Given as goal

abbrev pub invariant-loop-k : goal.invariant-loop-k
invariant-loop-k l = YesTo (card_few l.limits l.tbox.bytes.now l.book) l.k
