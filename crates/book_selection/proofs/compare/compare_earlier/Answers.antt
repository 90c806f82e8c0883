use native.Mathlib.Omega.{arith}
use mathlib.Core.Bool.{Bool, ◌&&◌, not}
use mathlib.Core.Path.{◌∙◌, ap, subst, sym}
use Rattle.table.specs.NameSet.{has}
use Rattle.fields.proofs.Forms.{count_most}
use Rattle.book.proofs.Selections.{cards_preorder}
use Rattle.book.specs.Form.{card_tag, most_cards}
use Rattle.under.specs.Book.{unfolded_book}
use Rattle.book_tables.proofs.CardTables.{cards_taken, count_is}
use Rattle.book_selection.specs.Comparing.{ComparedTo}
use Rattle.book_selection.proofs.Comparisons.{earlier_ended, earlier_skipped, earlier_stopped, earlier_there, other_kept}
use Rattle.book_selection.proofs.Comparisons.{pair_compared, paired}
use Rattle.book_selection.proofs.compare.compare_earlier.Goals as goal

pub mark_passed-word-requires : goal.mark_passed-word-requires
mark_passed-word-requires c =
    let most = count_most card_tag c.args.book.now in (omega arith, omega arith)

pub returns-then-order : goal.returns-then-order
returns-then-order c =
    let a = c.args in
    let known = c.requires.known in
    let l = c.loop-n in
    let n = c.in-Some.n in
    let (near, next, from, of) = c.in-Some.ensures.steps in
    let so = earlier_skipped a.limits _ a.covering a.m l.word _ _ l.invariant.left l.invariant.compared n next.none in
    let here = earlier_there a.limits _ a.covering a.m l.word _ _ l.invariant.left l.invariant.compared n next.later c.if-m-n.false (next.there near) in
    let ordered = c.compare_pair-order.ensures a.m c.requires.below c.requires.own in
    let pair = paired a.limits _ a.m n l.word c.mark_passed-word.result c.compare_pair-order.result ordered c.mark_passed-word.ensures in
    earlier_stopped a.limits _ a.covering a.m l.word n c.mark_passed-word.result so c.if-m-n.false
    (omega (arith, count_is known.bounded known.taken)) c.requires.covers here.0 pair
    (cards_preorder a.limits _ (cards_taken known.bounded known.taken).readable) (sym ordered.0 ∙ c.if-order.true) here.1

pub loop-n-preserved : goal.loop-n-preserved
loop-n-preserved c =
    let a = c.args in
    let known = c.requires.known in
    let l = c.loop-n in
    let n = c.in-Some.n in
    let r = c.mark_passed-word.result in
    let (near, next, from, of) = c.in-Some.ensures.steps in
    let so = earlier_skipped a.limits _ a.covering a.m l.word _ _ l.invariant.left l.invariant.compared n next.none in
    let here = earlier_there a.limits _ a.covering a.m l.word _ _ l.invariant.left l.invariant.compared n next.later c.if-m-n.false (next.there near) in
    let ordered = c.compare_pair-order.ensures a.m c.requires.below c.requires.own in
    let pair = paired a.limits _ a.m n l.word r c.compare_pair-order.result ordered c.mark_passed-word.ensures in
    record {
      left = λ k p q.
          ap (λ word. has word k) of
          ∙ l.invariant.left k (omega (arith, p, from, next.later)) q
          ∙ ap (λ (b : Bool). has a.covering k && not b)
          (sym (other_kept l.word a.m n r _ _ c.mark_passed-word.ensures k (λ e. omega arith) (λ e. omega arith)));
      compared = subst (λ i. ComparedTo a.limits (unfolded_book a.limits a.tbox.now a.book.now) a.covering a.m i r) (sym from)
          (pair_compared a.limits _ a.covering a.m l.word n r so c.if-m-n.false
          (omega (arith, count_is known.bounded known.taken)) c.requires.covers here.0 pair);
    }

pub returns : goal.returns
returns c =
    let a = c.args in
    let l = c.loop-n in
    earlier_ended a.limits _ a.covering a.m l.word most_cards (omega (arith, count_most card_tag a.book.now))
    (earlier_skipped a.limits _ a.covering a.m l.word _ _ l.invariant.left l.invariant.compared most_cards
    c.in-None.ensures.steps.0)
