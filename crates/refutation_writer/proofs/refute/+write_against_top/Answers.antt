use native.Mathlib.Omega.{arith}
use mathlib.Core.Path.{refl}
use Rattle.refutation_writer.specs.Refuting.{against_top}
use Rattle.refutation_writer.proofs.Refutings.{top_all, top_inside, top_none, top_some, top_zero}
use Rattle.refutation_writer.proofs.RefutingTurns.{begun_top, begun_top_holds, begun_top_lacks, edge_room, edge_written, leaf_written, tree_here}
use Rattle.refutation_writer.proofs.refute.+write_against_top.Goals as goal

pub write_individual-requires : goal.write_individual-requires
write_individual-requires t c = tree_here (against_top c.args.second.now.bytes.now c.args.depth c.args.w) c.args.parent c.args.role c.requires.room

pub write_individual-requires-then-not-is_none : goal.write_individual-requires-then-not-is_none
write_individual-requires-then-not-is_none t c = tree_here (against_top c.args.second.now.bytes.now c.args.depth c.args.w) c.args.parent c.args.role c.requires.room

pub write_individual-requires-2 : goal.write_individual-requires-2
write_individual-requires-2 t c = tree_here (against_top c.args.second.now.bytes.now c.args.depth c.args.w) c.args.parent c.args.role c.requires.room

pub returns-then-not-wanted_within : goal.returns-then-not-wanted_within
returns-then-not-wanted_within t c =
    let a = c.args in
    leaf_written
    (begun_top_lacks a.second.now.bytes.now a.depth a.w a.parent a.role c.requires.room c.none-none.ensures c.wanted_within.ensures
    c.if-not-wanted_within.true c.write_individual.ensures)
    refl

pub returns-then-not-is_none : goal.returns-then-not-is_none
returns-then-not-is_none t c =
    let a = c.args in
    leaf_written
    (begun_top_holds a.second.now.bytes.now a.depth a.w a.parent a.role c.requires.room c.none-none.ensures c.wanted_within.ensures
    c.if-not-wanted_within.false c.excluded-excludes.ensures c.is_none.ensures c.if-not-is_none.true c.write_individual-then-not-is_none.ensures)
    refl

pub returns-then-depth-eq0 : goal.returns-then-depth-eq0
returns-then-depth-eq0 t c =
    let a = c.args in
    leaf_written
    (begun_top a.second.now.bytes.now a.depth a.w a.parent a.role c.requires.room c.none-none.ensures c.wanted_within.ensures
    c.if-not-wanted_within.false c.excluded-excludes.ensures c.is_none.ensures c.if-not-is_none.false c.write_individual-2.ensures)
    (top_zero a.second.now.bytes.now a.depth a.w c.if-depth-eq0.true)

pub returns-then-c-eq0 : goal.returns-then-c-eq0
returns-then-c-eq0 t c =
    let a = c.args in
    leaf_written
    (begun_top a.second.now.bytes.now a.depth a.w a.parent a.role c.requires.room c.none-none.ensures c.wanted_within.ensures
    c.if-not-wanted_within.false c.excluded-excludes.ensures c.is_none.ensures c.if-not-is_none.false c.write_individual-2.ensures)
    (top_none a.second.now c.requires.inside c.if-depth-eq0.false c.from-c.ensures c.if-c-eq0.true)

pub returns-then-kind-eq-KIND_EXISTS : goal.returns-then-kind-eq-KIND_EXISTS
returns-then-kind-eq-KIND_EXISTS t c =
    let a = c.args in
    leaf_written
    (begun_top a.second.now.bytes.now a.depth a.w a.parent a.role c.requires.room c.none-none.ensures c.wanted_within.ensures
    c.if-not-wanted_within.false c.excluded-excludes.ensures c.is_none.ensures c.if-not-is_none.false c.write_individual-2.ensures)
    (top_some a.second.now c.requires.inside c.if-depth-eq0.false c.from-c.ensures c.if-c-eq0.false c.kind.ensures c.if-kind-eq-KIND_EXISTS.true)

pub write_against_top-requires : goal.write_against_top-requires
write_against_top-requires t c =
    let a = c.args in
    let one = begun_top a.second.now.bytes.now a.depth a.w a.parent a.role c.requires.room c.none-none.ensures c.wanted_within.ensures
    c.if-not-wanted_within.false c.excluded-excludes.ensures c.is_none.ensures c.if-not-is_none.false c.write_individual-2.ensures in
    let below = top_all a.second.now c.requires.inside c.if-depth-eq0.false c.from-c.ensures c.if-c-eq0.false c.kind.ensures
    c.if-kind-eq-KIND_EXISTS.false c.role-by.ensures in (
      omega (arith, c.if-depth-eq0.false),
      (top_inside a.second.now c.requires.inside c.if-depth-eq0.false c.from-c.ensures c.if-c-eq0.false, edge_room below a.k one.room),
    )

pub returns : goal.returns
returns t c =
    let a = c.args in
    let one = begun_top a.second.now.bytes.now a.depth a.w a.parent a.role c.requires.room c.none-none.ensures c.wanted_within.ensures
    c.if-not-wanted_within.false c.excluded-excludes.ensures c.is_none.ensures c.if-not-is_none.false c.write_individual-2.ensures in
    let below = top_all a.second.now c.requires.inside c.if-depth-eq0.false c.from-c.ensures c.if-c-eq0.false c.kind.ensures
    c.if-kind-eq-KIND_EXISTS.false c.role-by.ensures in
    one.written _ _ (edge_written below a.k one.room c.write_against_top.ensures refl)
