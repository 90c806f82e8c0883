use native.Mathlib.Omega.{arith}
use mathlib.Core.Path.{◌∙◌, ap, refl, subst, sym}
use Rattle.table.specs.NameSet.{has}
use Rattle.under.specs.Book.{unfolded_book}
use Rattle.book_tables.proofs.CardTables.{count_is}
use Rattle.book_selection.specs.declared.cards.Cards.{Cards}
use Rattle.book_selection.specs.Comparing.{Compared}
use Rattle.book_selection.proofs.Comparisons.{none_compared}
use Rattle.book_selection.proofs.compare.compare_cards.Goals as goal

pub loop-m-init : goal.loop-m-init
loop-m-init c =
    let a = c.args in
    let is = c.into_iter-m-iterator.ensures.into_iter_gives in
    let first = c.cards_of-m-items.ensures in
    record {
      of = ap (λ (i : Cards). i.word) is ∙ first.word;
      compared = subst (λ k. Compared a.limits (unfolded_book a.limits a.tbox.now a.book.now) a.covering k 0)
          (sym (ap (λ (i : Cards). i.from) is ∙ first.from)) (none_compared a.limits _ a.covering);
      same = refl;
      long = refl;
      cached = c.requires.known.cached;
    }

pub compare_card-redundant-requires-clause-below : goal.compare_card-redundant-requires-clause-below
compare_card-redundant-requires-clause-below c =
    let known = c.requires.known in
    let (near, next, _, _) = c.in-Some.ensures.steps in
    let covers = ap (λ word. has word c.in-Some.m) (sym c.loop-m.invariant.of) ∙ next.there near in
    omega (arith, c.requires.inside c.in-Some.m covers, count_is known.bounded known.taken)
