use lib.ListN.{get_or}
use mathlib.Core.Path.{◌∙◌, ap, refl, subst, sym}
use Rattle.refutation_reader.proofs.Walks as individuals
use Rattle.row_sets.proofs.Walks as rows
use Rattle.model_check.proofs.Models.{BelowAt, MeetsAt, agrees, below_end, below_fails, below_next, below_start, decided, fits_satisfied, fits_unsatisfied, meets_end, meets_found, meets_next, meets_start, other_role_is}
use Rattle.model_check.proofs.model.+fits.Goals as goal

pub below-loop-c-init : goal.below-loop-c-init
below-loop-c-init t c =
    let a = c.args in
    let same = c.into_iter-c-iterator.ensures.into_iter_gives in
    let first = c.below-c-items.ensures in (
      ap (λ b. b.table.now) same ∙ first.table,
      below_start a.table.now a.refutation.now.bytes.now a.i c.requires.1 (ap (λ b. b.next) same ∙ first.next),
    )

pub below-returns-then-not-restricted : goal.below-returns-then-not-restricted
below-returns-then-not-restricted t c =
    let a = c.args in
    let turn = rows.turned c.loop-c.c-iterator c.next.new.self c.loop-c.invariant.0 c.in-Some.ensures.steps in
    let at = subst (BelowAt _ _ _ _ _) turn.is c.loop-c.invariant.1 in
    sym (below_fails a.table.now a.refutation.now.bytes.now a.i turn.there at c.restricted.ensures c.if-not-restricted.true)

pub below-loop-c-preserved : goal.below-loop-c-preserved
below-loop-c-preserved t c =
    let a = c.args in
    let turn = rows.turned c.loop-c.c-iterator c.next.new.self c.loop-c.invariant.0 c.in-Some.ensures.steps in
    let at = subst (BelowAt _ _ _ _ _) turn.is c.loop-c.invariant.1 in
    (turn.table, below_next a.table.now a.refutation.now.bytes.now a.i turn.there at c.restricted.ensures c.if-not-restricted.false turn.next)

pub below-returns : goal.below-returns
below-returns t c = sym (below_end c.loop-c.invariant.1 c.in-None.ensures.steps.0)

pub fits-returns-then-not-satisfies : goal.fits-returns-then-not-satisfies
fits-returns-then-not-satisfies t c =
    let a = c.args in
    sym (fits_unsatisfied a.table.now.linked.checked a.refutation.now a.w a.i
    (c.satisfies.ensures a.table.now.bytes.now a.w c.requires.label) c.if-not-satisfies.true)

pub fits-returns : goal.fits-returns
fits-returns t c =
    let a = c.args in
    sym (fits_satisfied a.table.now.linked.checked a.refutation.now a.w a.i
    (c.satisfies.ensures a.table.now.bytes.now a.w c.requires.label) c.if-not-satisfies.false c.below.ensures)

pub restricted-returns-then-refutation-i-eq0 : goal.restricted-returns-then-refutation-i-eq0
restricted-returns-then-refutation-i-eq0 t c =
    let a = c.args in
    sym (meets_end (meets_start _ a.table.now.bytes.now a.c a.refutation.now c.requires.0 c.kind-every.ensures refl refl) c.if-refutation-i-eq0.true)

pub restricted-loop-j-init : goal.restricted-loop-j-init
restricted-loop-j-init t c =
    let a = c.args in
    let same = c.into_iter-j-iterator.ensures.into_iter_gives in
    let first = c.reached-j-items.ensures in (
      ap (λ b. b.refutation.now) same ∙ first.refutation,
      meets_start _ a.table.now.bytes.now a.c a.refutation.now c.requires.0 c.kind-every.ensures refl
          (ap (individuals.at a.refutation.now) same ∙ ap (λ i. get_or a.refutation.now.links.now i 0) first.link),
    )

pub restricted-returns-then-fits-every : goal.restricted-returns-then-fits-every
restricted-returns-then-fits-every t c =
    let a = c.args in
    let turn = individuals.turned c.loop-j.j-iterator c.next.new.self c.loop-j.invariant.0 c.in-Some.ensures.steps in
    let at = subst (MeetsAt _ _ _ _ _ _) turn.is c.loop-j.invariant.1 in
    sym (meets_found _ a.table.now.bytes.now a.c a.refutation.now turn.there at
    (decided _ a.table.now.bytes.now a.c a.refutation.now turn.there at c.role.ensures c.role-by.ensures c.if-role-by.true
    c.fits.ensures c.if-fits-every.true))

pub restricted-loop-j-preserved-else-fits-every : goal.restricted-loop-j-preserved-else-fits-every
restricted-loop-j-preserved-else-fits-every t c =
    let a = c.args in
    let turn = individuals.turned c.loop-j.j-iterator c.next.new.self c.loop-j.invariant.0 c.in-Some.ensures.steps in
    let at = subst (MeetsAt _ _ _ _ _ _) turn.is c.loop-j.invariant.1 in (
      turn.refutation,
      meets_next _ a.table.now.bytes.now a.c a.refutation.now turn.there at turn.next
          (agrees _ a.table.now.bytes.now a.c a.refutation.now turn.there at c.fits.ensures c.if-fits-every.false),
    )

pub restricted-loop-j-preserved : goal.restricted-loop-j-preserved
restricted-loop-j-preserved t c =
    let a = c.args in
    let turn = individuals.turned c.loop-j.j-iterator c.next.new.self c.loop-j.invariant.0 c.in-Some.ensures.steps in
    let at = subst (MeetsAt _ _ _ _ _ _) turn.is c.loop-j.invariant.1 in (
      turn.refutation,
      meets_next _ a.table.now.bytes.now a.c a.refutation.now turn.there at turn.next
          (other_role_is _ a.table.now.bytes.now a.c a.refutation.now turn.there at c.role.ensures c.role-by.ensures c.if-role-by.false),
    )

pub restricted-returns : goal.restricted-returns
restricted-returns t c =
    sym (meets_end c.loop-j.invariant.1 (individuals.ended c.loop-j.j-iterator c.next.new.self c.loop-j.invariant.0 c.in-None.ensures.steps))
