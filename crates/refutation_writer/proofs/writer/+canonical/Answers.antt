use mathlib.Core.Path.{◌∙◌, ap, subst}
use native.Mathlib.Omega.{arith}
use Rattle.row_sets.proofs.Walks.{turned}
use Rattle.refutation_writer.proofs.Canonicals.{canonical_end, canonical_here, canonical_next, canonical_none, canonical_room, canonical_skip, canonical_start, canonical_turn, canonical_written}
use Rattle.refutation_writer.proofs.Walks.{WalkAt}
use Rattle.refutation_writer.proofs.writer.+canonical.Goals as goal

pub write_canonical-write_individual-requires : goal.write_canonical-write_individual-requires
write_canonical-write_individual-requires t c =
    let a = c.args in canonical_here a.first.now.bytes.now a.depth a.u a.out.now a.k a.parent a.role c.requires.room

pub write_canonical-write_canonical_below-requires : goal.write_canonical-write_canonical_below-requires
write_canonical-write_canonical_below-requires t c =
    let a = c.args in (
      omega arith,
      (
        c.requires.inside,
        canonical_room a.first.now.bytes.now a.depth a.u a.out.now a.k a.parent a.role c.requires.room c.write_individual.new.out
            _ c.wanted.ensures c.write_individual.ensures,
      ),
    )

pub write_canonical-returns : goal.write_canonical-returns
write_canonical-returns t c =
    let a = c.args in
    canonical_written a.first.now.bytes.now a.depth a.u a.out.now a.k a.parent a.role c.requires.room c.write_individual.new.out
    _ c.wanted.ensures c.write_individual.ensures _ _ c.write_canonical_below.ensures

pub write_canonical_below-returns-then-depth-eq0 : goal.write_canonical_below-returns-then-depth-eq0
write_canonical_below-returns-then-depth-eq0 t c =
    let a = c.args in canonical_none a.first.now.bytes.now a.depth a.u a.parent a.out.now a.k c.if-depth-eq0.true

pub write_canonical_below-loop-v-init : goal.write_canonical_below-loop-v-init
write_canonical_below-loop-v-init t c =
    let same = c.into_iter-v-iterator.ensures.into_iter_gives in
    let first = c.below-v-items.ensures in (
      ap (λ b. b.table.now) same ∙ first.table,
      canonical_start c.args.first.now c.if-depth-eq0.false c.requires.inside (ap (λ b. b.next) same ∙ first.next) c.requires.room,
    )

pub write_canonical_below-write_canonical-next-requires : goal.write_canonical_below-write_canonical-next-requires
write_canonical_below-write_canonical-next-requires t c =
    let turn = turned c.loop-v.v-iterator c.next.new.self c.loop-v.invariant.0 c.in-Some.ensures.steps in
    let at = subst (WalkAt _ _ _ _ _ _ _ _ _) turn.is c.loop-v.invariant.1 in (
      omega (arith, c.if-depth-eq0.false),
      (
        (at.on turn.there).0,
        canonical_turn c.args.first.now c.if-depth-eq0.false turn.there at c.kind.ensures c.role-role.ensures c.if-kind-eq-KIND_EXISTS.true,
      ),
    )

pub write_canonical_below-loop-v-preserved-then-kind-eq-KIND_EXISTS : goal.write_canonical_below-loop-v-preserved-then-kind-eq-KIND_EXISTS
write_canonical_below-loop-v-preserved-then-kind-eq-KIND_EXISTS t c =
    let turn = turned c.loop-v.v-iterator c.next.new.self c.loop-v.invariant.0 c.in-Some.ensures.steps in
    let at = subst (WalkAt _ _ _ _ _ _ _ _ _) turn.is c.loop-v.invariant.1 in (
      turn.table,
      canonical_next c.args.first.now c.if-depth-eq0.false turn.there at c.kind.ensures turn.next c.role-role.ensures
          c.if-kind-eq-KIND_EXISTS.true c.write_canonical-next.ensures,
    )

pub write_canonical_below-loop-v-preserved : goal.write_canonical_below-loop-v-preserved
write_canonical_below-loop-v-preserved t c =
    let turn = turned c.loop-v.v-iterator c.next.new.self c.loop-v.invariant.0 c.in-Some.ensures.steps in
    let at = subst (WalkAt _ _ _ _ _ _ _ _ _) turn.is c.loop-v.invariant.1 in
    (turn.table, canonical_skip c.args.first.now c.if-depth-eq0.false turn.there at c.kind.ensures turn.next c.if-kind-eq-KIND_EXISTS.false)

pub write_canonical_below-returns : goal.write_canonical_below-returns
write_canonical_below-returns t c = canonical_end c.args.first.now c.if-depth-eq0.false c.in-None.ensures.steps.0 c.loop-v.invariant.1
