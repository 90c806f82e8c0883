use mathlib.Core.Path.{◌∙◌, ap, refl, subst, sym}
use native.Mathlib.Omega.{arith}
use Rattle.row_sets.proofs.Walks.{turned}
use Rattle.refutation_writer.specs.Refuting.{against_tree}
use Rattle.refutation_writer.specs.Searches.{first_of, second_of}
use Rattle.refutation_writer.proofs.Misses.{falsified_canonical, missed_chain, missed_reached, missed_row, missed_value, some_kind}
use Rattle.refutation_writer.proofs.Refutings.{against_carried, falsified_realized, falsified_value, realized_all, realized_other, realized_same, realized_split, value_row_is, value_top}
use Rattle.refutation_writer.proofs.RefutingTurns.{begun_below, begun_holds, begun_lacks, edge_room, edge_written, edges_room, edges_written, forest_room, forest_written, realized_end, realized_start, tree_here, tree_room, tree_written}
use Rattle.refutation_writer.proofs.Walks.{WalkAt, walk_next, walk_room}
use Rattle.refutation_writer.proofs.Writings.{written_none}
use Rattle.refutation_writer.proofs.refute.+against.Goals as goal

pub write_against-write_individual-requires : goal.write_against-write_individual-requires
write_against-write_individual-requires t c =
    let a = c.args in
    tree_here (against_tree (first_of a.search.now) (second_of a.search.now) a.depth a.w a.u) a.parent a.role c.requires.room

pub write_against-write_individual-requires-then-not-subset : goal.write_against-write_individual-requires-then-not-subset
write_against-write_individual-requires-then-not-subset t c =
    let a = c.args in
    tree_here (against_tree (first_of a.search.now) (second_of a.search.now) a.depth a.w a.u) a.parent a.role c.requires.room

pub write_against-write_individual-requires-2 : goal.write_against-write_individual-requires-2
write_against-write_individual-requires-2 t c =
    let a = c.args in
    tree_here (against_tree (first_of a.search.now) (second_of a.search.now) a.depth a.w a.u) a.parent a.role c.requires.room

pub write_against-write_canonical_below-requires-clause-room : goal.write_against-write_canonical_below-requires-clause-room
write_against-write_canonical_below-requires-clause-room t c =
    let a = c.args in
    (begun_lacks (first_of a.search.now) (second_of a.search.now) a.depth a.w a.u a.parent a.role c.requires.room
    c.wanted-has.ensures c.wanted_within.ensures c.if-not-wanted_within.true c.write_individual.ensures).room

pub write_against-returns-then-not-wanted_within : goal.write_against-returns-then-not-wanted_within
write_against-returns-then-not-wanted_within t c =
    let a = c.args in
    (begun_lacks (first_of a.search.now) (second_of a.search.now) a.depth a.w a.u a.parent a.role c.requires.room
    c.wanted-has.ensures c.wanted_within.ensures c.if-not-wanted_within.true c.write_individual.ensures).written
    _ _ c.write_canonical_below.ensures

pub write_against-write_canonical_below-requires-then-not-subset-clause-room : goal.write_against-write_canonical_below-requires-then-not-subset-clause-room
write_against-write_canonical_below-requires-then-not-subset-clause-room t c =
    let a = c.args in
    (begun_holds (first_of a.search.now) (second_of a.search.now) a.depth a.w a.u a.parent a.role c.requires.room
    c.wanted-has.ensures c.wanted_within.ensures c.if-not-wanted_within.false c.excluded-lacks.ensures c.excluded-excludes.ensures
    c.subset.ensures c.if-not-subset.true c.widened.ensures c.write_individual-then-not-subset.ensures).room

pub write_against-returns-then-not-subset : goal.write_against-returns-then-not-subset
write_against-returns-then-not-subset t c =
    let a = c.args in
    (begun_holds (first_of a.search.now) (second_of a.search.now) a.depth a.w a.u a.parent a.role c.requires.room
    c.wanted-has.ensures c.wanted_within.ensures c.if-not-wanted_within.false c.excluded-lacks.ensures c.excluded-excludes.ensures
    c.subset.ensures c.if-not-subset.true c.widened.ensures c.write_individual-then-not-subset.ensures).written
    _ _ c.write_canonical_below-then-not-subset.ensures

pub write_against-write_falsified-requires : goal.write_against-write_falsified-requires
write_against-write_falsified-requires t c =
    let a = c.args in
    let one = begun_below (first_of a.search.now) (second_of a.search.now) a.depth a.w a.u a.parent a.role c.requires.room
    c.wanted-has.ensures c.wanted_within.ensures c.if-not-wanted_within.false c.excluded-lacks.ensures c.excluded-excludes.ensures
    c.subset.ensures c.if-not-subset.false c.write_individual-2.ensures in
    let carried = against_carried (first_of a.search.now) (second_of a.search.now) a.depth a.w a.u _ c.wanted-has.ensures
    _ c.wanted_within.ensures c.if-not-wanted_within.false _ _ c.excluded-lacks.ensures c.excluded-excludes.ensures
    _ c.subset.ensures c.if-not-subset.false in
    (omega arith, (c.requires.inside, (c.requires.missed, (carried, one.room))))

pub write_against-returns : goal.write_against-returns
write_against-returns t c =
    let a = c.args in
    (begun_below (first_of a.search.now) (second_of a.search.now) a.depth a.w a.u a.parent a.role c.requires.room
    c.wanted-has.ensures c.wanted_within.ensures c.if-not-wanted_within.false c.excluded-lacks.ensures c.excluded-excludes.ensures
    c.subset.ensures c.if-not-subset.false c.write_individual-2.ensures).written
    _ _ c.write_falsified.ensures

pub write_against_value-write_against_top-requires-clause-room : goal.write_against_value-write_against_top-requires-clause-room
write_against_value-write_against_top-requires-clause-room t c =
    let a = c.args in
    tree_room (value_top (first_of a.search.now) (second_of a.search.now) a.depth a.c a.u c.role-role.ensures c.in_default.ensures)
    (sym c.role-role.ensures) a.parent c.requires.room

pub write_against_value-returns-in_default : goal.write_against_value-returns-in_default
write_against_value-returns-in_default t c =
    let a = c.args in
    tree_written (value_top (first_of a.search.now) (second_of a.search.now) a.depth a.c a.u c.role-role.ensures c.in_default.ensures)
    (sym c.role-role.ensures) a.parent c.write_against_top.ensures

pub write_against_value-write_against-requires : goal.write_against_value-write_against-requires
write_against_value-write_against-requires t c =
    let a = c.args in (
      omega arith,
      (
        (c.requires.inside.0, c.in-Some.ensures.2),
        (
          missed_value a.search.now a.depth a.c c.requires.inside.0 c.requires.missed c.requires.kind c.role-role.ensures c.in-Some.ensures.0 c.in-Some.ensures.1,
          tree_room
              (value_row_is (first_of a.search.now) (second_of a.search.now) a.depth a.c a.u c.role-role.ensures c.in-Some.ensures.0 c.in-Some.ensures.1)
              (sym c.role-role.ensures) a.parent c.requires.room,
        ),
      ),
    )

pub write_against_value-returns : goal.write_against_value-returns
write_against_value-returns t c =
    let a = c.args in
    tree_written
    (value_row_is (first_of a.search.now) (second_of a.search.now) a.depth a.c a.u c.role-role.ensures c.in-Some.ensures.0 c.in-Some.ensures.1)
    (sym c.role-role.ensures) a.parent c.write_against.ensures

pub write_falsified-write_canonical_below-requires-clause-room : goal.write_falsified-write_canonical_below-requires-clause-room
write_falsified-write_canonical_below-requires-clause-room t c =
    let a = c.args in
    forest_room
    (falsified_canonical a.search.now a.depth a.w a.u c.requires.missed c.requires.carried c.from-c.ensures c.then-depth-eq0.either)
    a.parent c.requires.room

pub write_falsified-returns-then-depth-eq0 : goal.write_falsified-returns-then-depth-eq0
write_falsified-returns-then-depth-eq0 t c =
    let a = c.args in
    forest_written
    (falsified_canonical a.search.now a.depth a.w a.u c.requires.missed c.requires.carried c.from-c.ensures c.then-depth-eq0.either)
    a.parent c.write_canonical_below.ensures

pub write_falsified-kind-requires : goal.write_falsified-kind-requires
write_falsified-kind-requires t c =
    let a = c.args in
    let row = missed_row a.search.now a.depth a.w a.u c.requires.missed c.requires.carried c.from-c.ensures c.if-depth-eq0.false in
    let inside = row.inside in
    let checked = a.search.now.second.now.linked.checked in (omega arith, omega arith)

pub write_falsified-write_against_value-next-requires : goal.write_falsified-write_against_value-next-requires
write_falsified-write_against_value-next-requires t c =
    let a = c.args in
    let row = missed_row a.search.now a.depth a.w a.u c.requires.missed c.requires.carried c.from-c.ensures c.if-depth-eq0.false in (
      omega (arith, c.if-depth-eq0.false),
      (
        (row.inside, c.requires.inside.1),
        (
          sym c.kind.ensures ∙ c.if-kind-eq-KIND_FOR_ALL.true,
          (
            row.below,
            edge_room (falsified_value (first_of a.search.now) (second_of a.search.now) a.u a.w c.if-depth-eq0.false row.found c.if-c-eq0.false c.kind.ensures c.if-kind-eq-KIND_FOR_ALL.true)
                a.parent c.requires.room,
          ),
        ),
      ),
    )

pub write_falsified-write_canonical_below-requires-then-kind-eq-KIND_FOR_ALL-clause-room : goal.write_falsified-write_canonical_below-requires-then-kind-eq-KIND_FOR_ALL-clause-room
write_falsified-write_canonical_below-requires-then-kind-eq-KIND_FOR_ALL-clause-room t c =
    let a = c.args in
    let row = missed_row a.search.now a.depth a.w a.u c.requires.missed c.requires.carried c.from-c.ensures c.if-depth-eq0.false in
    edges_room (falsified_value (first_of a.search.now) (second_of a.search.now) a.u a.w c.if-depth-eq0.false row.found c.if-c-eq0.false c.kind.ensures c.if-kind-eq-KIND_FOR_ALL.true)
    a.parent c.requires.room c.write_against_value-next.ensures

pub write_falsified-returns-then-kind-eq-KIND_FOR_ALL : goal.write_falsified-returns-then-kind-eq-KIND_FOR_ALL
write_falsified-returns-then-kind-eq-KIND_FOR_ALL t c =
    let a = c.args in
    let row = missed_row a.search.now a.depth a.w a.u c.requires.missed c.requires.carried c.from-c.ensures c.if-depth-eq0.false in
    edges_written (falsified_value (first_of a.search.now) (second_of a.search.now) a.u a.w c.if-depth-eq0.false row.found c.if-c-eq0.false c.kind.ensures c.if-kind-eq-KIND_FOR_ALL.true)
    a.parent c.requires.room c.write_against_value-next.ensures c.write_canonical_below-then-kind-eq-KIND_FOR_ALL.ensures

pub write_falsified-write_realized-requires : goal.write_falsified-write_realized-requires
write_falsified-write_realized-requires t c =
    let a = c.args in
    let row = missed_row a.search.now a.depth a.w a.u c.requires.missed c.requires.carried c.from-c.ensures c.if-depth-eq0.false in (
      omega (arith, c.if-depth-eq0.false),
      (
        (row.inside, c.requires.inside.1),
        (
          some_kind a.search.now.second.now c.if-c-eq0.false row.inside c.kind.ensures c.if-kind-eq-KIND_FOR_ALL.false,
          (
            row.below,
            forest_room (falsified_realized (first_of a.search.now) (second_of a.search.now) a.u a.w c.if-depth-eq0.false row.found c.if-c-eq0.false c.kind.ensures c.if-kind-eq-KIND_FOR_ALL.false)
                a.parent c.requires.room,
          ),
        ),
      ),
    )

pub write_falsified-returns : goal.write_falsified-returns
write_falsified-returns t c =
    let a = c.args in
    let row = missed_row a.search.now a.depth a.w a.u c.requires.missed c.requires.carried c.from-c.ensures c.if-depth-eq0.false in
    forest_written (falsified_realized (first_of a.search.now) (second_of a.search.now) a.u a.w c.if-depth-eq0.false row.found c.if-c-eq0.false c.kind.ensures c.if-kind-eq-KIND_FOR_ALL.false)
    a.parent c.write_realized.ensures

pub write_reached-returns-then-kind-eq-KIND_FOR_ALL : goal.write_reached-returns-then-kind-eq-KIND_FOR_ALL
write_reached-returns-then-kind-eq-KIND_FOR_ALL t c =
    let a = c.args in
    forest_written (realized_all (first_of a.search.now) (second_of a.search.now) a.depth a.c a.v _ c.kind.ensures c.if-kind-eq-KIND_FOR_ALL.true)
    a.parent (written_none a.out.now a.k)

pub write_reached-write_against-requires : goal.write_reached-write_against-requires
write_reached-write_against-requires t c =
    let a = c.args in (
      omega arith,
      (
        (c.requires.inside.0, c.requires.inside.1),
        (
          missed_reached a.search.now a.depth a.c c.requires.inside.0 c.requires.inside.2 c.requires.inside.1 c.requires.kind c.requires.missed
              c.kind.ensures c.if-kind-eq-KIND_FOR_ALL.false c.role-role.ensures c.role.ensures c.if-role.true,
          edge_room
              (realized_same (first_of a.search.now) (second_of a.search.now) a.depth a.c a.v _ c.kind.ensures c.if-kind-eq-KIND_FOR_ALL.false
              _ _ c.role-role.ensures c.role.ensures c.if-role.true)
              a.parent c.requires.room,
        ),
      ),
    )

pub write_reached-returns-then-role : goal.write_reached-returns-then-role
write_reached-returns-then-role t c =
    let a = c.args in
    edge_written
    (realized_same (first_of a.search.now) (second_of a.search.now) a.depth a.c a.v _ c.kind.ensures c.if-kind-eq-KIND_FOR_ALL.false
    _ _ c.role-role.ensures c.role.ensures c.if-role.true)
    a.parent c.requires.room c.write_against.ensures refl

pub write_reached-write_canonical-requires-clause-room : goal.write_reached-write_canonical-requires-clause-room
write_reached-write_canonical-requires-clause-room t c =
    let a = c.args in
    edge_room
    (realized_other (first_of a.search.now) (second_of a.search.now) a.depth a.c a.v _ c.kind.ensures c.if-kind-eq-KIND_FOR_ALL.false
    _ _ c.role-role.ensures c.role.ensures c.if-role.false)
    a.parent c.requires.room

pub write_reached-returns : goal.write_reached-returns
write_reached-returns t c =
    let a = c.args in
    edge_written
    (realized_other (first_of a.search.now) (second_of a.search.now) a.depth a.c a.v _ c.kind.ensures c.if-kind-eq-KIND_FOR_ALL.false
    _ _ c.role-role.ensures c.role.ensures c.if-role.false)
    a.parent c.requires.room c.write_canonical.ensures refl

pub write_realized-loop-v-init : goal.write_realized-loop-v-init
write_realized-loop-v-init t c =
    let a = c.args in
    let same = c.into_iter-v-iterator.ensures.into_iter_gives in
    let first = c.below-v-items.ensures in (
      ap (λ b. b.table.now) same ∙ first.table,
      realized_start a.search.now.first.now (second_of a.search.now) a.depth a.c c.requires.inside.1 (ap (λ b. b.next) same ∙ first.next)
          c.requires.room,
    )

pub write_realized-write_reached-next-requires : goal.write_realized-write_reached-next-requires
write_realized-write_reached-next-requires t c =
    let a = c.args in
    let turn = turned c.loop-v.v-iterator c.next.new.self c.loop-v.invariant.0 c.in-Some.ensures.steps in
    let at = subst (WalkAt _ _ _ _ _ _ _ _ _) turn.is c.loop-v.invariant.1 in (
      omega arith,
      (
        (c.requires.inside.0, (at.on turn.there).0, turn.there),
        (
          c.requires.kind,
          (
            missed_chain a.search.now a.depth a.c c.requires.missed at.on turn.there,
            walk_room (realized_split (first_of a.search.now) (second_of a.search.now) a.depth a.c) a.search.now.first.now turn.there at,
          ),
        ),
      ),
    )

pub write_realized-loop-v-preserved : goal.write_realized-loop-v-preserved
write_realized-loop-v-preserved t c =
    let a = c.args in
    let turn = turned c.loop-v.v-iterator c.next.new.self c.loop-v.invariant.0 c.in-Some.ensures.steps in
    let at = subst (WalkAt _ _ _ _ _ _ _ _ _) turn.is c.loop-v.invariant.1 in (
      turn.table,
      walk_next (realized_split (first_of a.search.now) (second_of a.search.now) a.depth a.c) a.search.now.first.now turn.there at turn.next
          c.write_reached-next.ensures,
    )

pub write_realized-returns : goal.write_realized-returns
write_realized-returns t c =
    let a = c.args in
    realized_end a.search.now.first.now (second_of a.search.now) a.depth a.c c.in-None.ensures.steps.0 c.loop-v.invariant.1
