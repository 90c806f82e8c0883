use borrow.Author.Tests.{eq-eqb, ne_eqb}
use mathlib.Core.Bool.{and-false, false, true}
use mathlib.Core.Path.{◌≡◌, ◌∙◌, ap, subst, sym}
use Rattle.homomorphism_search.proofs.Walks.{WalkAt, walk_found, walk_next}
use Rattle.row_sets.proofs.Walks.{turned}
use Rattle.refutation_writer.proofs.RefutingTurns.{is_value, value_start}
use Rattle.refutation_writer.proofs.refute.value_row.Goals as goal
use Rattle.refutation_writer.proofs.refute.value_row.Goals.{else-kind-eq-KIND_FOR_ALL-via-then-kind-eq-KIND_FOR_ALL+else-role, else-kind-eq-KIND_FOR_ALL-via-else-kind-eq-KIND_FOR_ALL}

pub loop-v-init : goal.loop-v-init
loop-v-init c =
    let same = c.into_iter-v-iterator.ensures.into_iter_gives in
    let first = c.below-v-items.ensures in
    (ap (λ b. b.table.now) same ∙ first.table, value_start c.args.first.now c.args.role c.requires (ap (λ b. b.next) same ∙ first.next))

pub returns-then-role : goal.returns-then-role
returns-then-role c =
    let turn = turned c.loop-v.v-iterator c.next.new.self c.loop-v.invariant.0 c.in-Some.ensures.steps in
    let at = subst (WalkAt _ _ _ _ _ _) turn.is c.loop-v.invariant.1 in
    let passes : is_value c.args.first.now.bytes.now c.args.role c.in-Some.v ≡ true =
    rw (eq-eqb _ _ (sym c.kind.ensures ∙ c.if-kind-eq-KIND_FOR_ALL.true), eq-eqb _ _ (sym c.role.ensures ∙ c.if-role.true)) in
    (walk_found c.args.first.now.linked.linked turn.there at passes, turn.there, (at.on turn.there).0)

pub loop-v-preserved : goal.loop-v-preserved
loop-v-preserved c =
    let turn = turned c.loop-v.v-iterator c.next.new.self c.loop-v.invariant.0 c.in-Some.ensures.steps in
    let at = subst (WalkAt _ _ _ _ _ _) turn.is c.loop-v.invariant.1 in
    let other : is_value c.args.first.now.bytes.now c.args.role c.in-Some.v ≡ false = elim c.else-kind-eq-KIND_FOR_ALL.branch [
      | else-kind-eq-KIND_FOR_ALL-via-then-kind-eq-KIND_FOR_ALL+else-role w ↦
          rw (ne_eqb _ _ (λ e. w.if-role.false (w.role.ensures ∙ e))) (and-false _)
      | else-kind-eq-KIND_FOR_ALL-via-else-kind-eq-KIND_FOR_ALL w ↦ rw (ne_eqb _ _ (λ e. w.if-kind-eq-KIND_FOR_ALL.false (c.kind.ensures ∙ e)))
    ] in
    (turn.table, walk_next c.args.first.now.linked.linked turn.there at c.next.new.self.next turn.next other)
