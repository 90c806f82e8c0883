-- One of the two covers the other and is not covered by it, or the word stays as it is.
use mathlib.Core.Bool.{◌&&◌, false, not, true}
use mathlib.Core.Path.{◌≡◌}
use Rattle.book_form.proofs.CardSets.{with_each, with_more, with_none}
use Rattle.book_selection.proofs.compare.mark_passed.Goals as goal

pub returns-then-order-2 : goal.returns-then-order-2
returns-then-order-2 c =
    let a = c.args in
    let above : (a.order.over && not a.order.under) ≡ false = rw (c.if-order.true, c.if-order-2.true) in
    let below : (a.order.under && not a.order.over) ≡ false = rw (c.if-order.true, c.if-order-2.true) in
    with_each a.redundant a.m _ a.redundant a.n _ a.redundant (with_none a.redundant a.m _ above)
    (with_none a.redundant a.n _ below)

pub returns-then-order : goal.returns-then-order
returns-then-order c =
    let a = c.args in
    let above : (a.order.over && not a.order.under) ≡ true = rw
    (c.if-order.true, c.if-order-2.false) in
    let below : (a.order.under && not a.order.over) ≡ false = rw
    (c.if-order.true, c.if-order-2.false) in
    with_each a.redundant a.m _ c.with_card.result a.n _ c.with_card.result
    (with_more a.redundant a.m _ c.with_card.result above c.with_card.ensures)
    (with_none c.with_card.result a.n _ below)

pub returns-then-order-3 : goal.returns-then-order-3
returns-then-order-3 c =
    let a = c.args in
    let above : (a.order.over && not a.order.under) ≡ false = rw c.if-order.false in
    let below : (a.order.under && not a.order.over) ≡ true = rw
    (c.if-order.false, c.if-order-3.true) in
    with_each a.redundant a.m _ a.redundant a.n _ c.with_card-then-order-3.result
    (with_none a.redundant a.m _ above)
    (with_more a.redundant a.n _ c.with_card-then-order-3.result below c.with_card-then-order-3.ensures)

pub returns : goal.returns
returns c =
    let a = c.args in
    let above : (a.order.over && not a.order.under) ≡ false = rw c.if-order.false in
    let below : (a.order.under && not a.order.over) ≡ false = rw c.if-order-3.false in
    with_each a.redundant a.m _ a.redundant a.n _ a.redundant (with_none a.redundant a.m _ above)
    (with_none a.redundant a.n _ below)
