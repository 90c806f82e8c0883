use mathlib.Core.Path.{◌∙◌, ap, refl, subst, sym}
use Prim.Native.Nat.{◌-◌}
use native.Mathlib.Omega.{arith}
use Rattle.row_sets.proofs.Walks.{turned}
use Rattle.homomorphism_search.proofs.Walks.{walk_found}
use Rattle.homomorphism_search.proofs.Searches.{checked_edge, row_apart, row_deep, row_leaf, row_marked, takes_row}
use Rattle.homomorphism_search.proofs.Traces.{ImageAt, ServedAt, found_deep, image_found, image_missed, image_not, image_other, image_start, missed_deep, served_found, served_next, served_none, served_start, served_stop, served_written}
use Rattle.homomorphism_search.proofs.Served.{if_none, none_served, row_missed}
use Rattle.homomorphism_search.specs.Search.{unserved_row}
use Rattle.homomorphism_search.proofs.search.+search.Goals as goal

pub lowest_image-loop-v-init : goal.lowest_image-loop-v-init
lowest_image-loop-v-init t c =
    let a = c.args in
    let same = c.into_iter-v-iterator.ensures.into_iter_gives in
    let first = c.below-candidates.ensures in (
      ap (λ b. b.table.now) same ∙ first.table,
      image_start a.second.now.bytes.now a.first.now.linked a.depth a.c a.u a.found.now a.missed.now
          c.into_iter-v-iterator.result.next c.requires.2 (ap (λ b. b.next) same ∙ first.next),
    )

pub lowest_image-row_edge-edge-requires : goal.lowest_image-row_edge-edge-requires
lowest_image-row_edge-edge-requires t c = checked_edge c.args.second.now.linked.checked c.requires.1 c.requires.0

pub lowest_image-hangs_by-requires : goal.lowest_image-hangs_by-requires
lowest_image-hangs_by-requires t c =
    let turn = turned c.loop-v.v-iterator c.next.new.self c.loop-v.invariant.0 c.in-Some.ensures.steps in
    let at = subst (ImageAt _ _ _ _ _ _ _ _ _ _) turn.is c.loop-v.invariant.1 in
    checked_edge c.args.first.now.linked.checked turn.there (at.walk.on turn.there).0

pub lowest_image-returns-then-row_maps-clause-row : goal.lowest_image-returns-then-row_maps-clause-row
lowest_image-returns-then-row_maps-clause-row t c =
    let a = c.args in
    let turn = turned c.loop-v.v-iterator c.next.new.self c.loop-v.invariant.0 c.in-Some.ensures.steps in
    let at = subst (ImageAt _ _ _ _ _ _ _ _ _ _) turn.is c.loop-v.invariant.1 in
    let same = c.hangs_by.ensures a.second.now.bytes.now a.c c.row_edge-edge.ensures in
    let passes = takes_row a.first.now.bytes.now a.second.now.bytes.now a.depth a.c c.in-Some.v c.hangs_by.result
    c.row_maps.result same c.row_maps.ensures.is c.if-hangs_by.true c.if-row_maps.true in
    (walk_found a.first.now.linked.linked turn.there at.walk passes, (at.walk.on turn.there).0)

pub lowest_image-returns-then-row_maps-clause-apart : goal.lowest_image-returns-then-row_maps-clause-apart
lowest_image-returns-then-row_maps-clause-apart t c =
    let a = c.args in
    let turn = turned c.loop-v.v-iterator c.next.new.self c.loop-v.invariant.0 c.in-Some.ensures.steps in
    let at = subst (ImageAt _ _ _ _ _ _ _ _ _ _) turn.is c.loop-v.invariant.1 in
    let told = c.row_maps.ensures.apart in (
      image_found a.second.now.bytes.now a.first.now.linked a.depth a.c a.u turn.there at told.0 told.1,
      image_missed a.second.now.bytes.now a.first.now.linked a.depth a.c a.u turn.there at told.0 told.1,
    )

pub lowest_image-loop-v-preserved-else-row_maps : goal.lowest_image-loop-v-preserved-else-row_maps
lowest_image-loop-v-preserved-else-row_maps t c =
    let a = c.args in
    let turn = turned c.loop-v.v-iterator c.next.new.self c.loop-v.invariant.0 c.in-Some.ensures.steps in
    let at = subst (ImageAt _ _ _ _ _ _ _ _ _ _) turn.is c.loop-v.invariant.1 in
    let row = c.row_maps in (
      turn.table,
      image_not a.second.now.bytes.now a.first.now.linked a.depth a.c a.u turn.there at row.ensures.apart.0 row.ensures.apart.1
          row.new.found row.new.missed refl refl c.next.new.self.next turn.next row.result row.ensures.is row.ensures.missed c.if-row_maps.false,
    )

pub lowest_image-loop-v-preserved : goal.lowest_image-loop-v-preserved
lowest_image-loop-v-preserved t c =
    let a = c.args in
    let turn = turned c.loop-v.v-iterator c.next.new.self c.loop-v.invariant.0 c.in-Some.ensures.steps in
    let at = subst (ImageAt _ _ _ _ _ _ _ _ _ _) turn.is c.loop-v.invariant.1 in
    let same = c.hangs_by.ensures a.second.now.bytes.now a.c c.row_edge-edge.ensures in (
      turn.table,
      image_other a.second.now.bytes.now a.first.now.linked a.depth a.c a.u turn.there at
          c.loop-v.found c.loop-v.missed refl refl c.next.new.self.next turn.next c.hangs_by.result same
          c.if-hangs_by.false,
    )

pub row_maps-returns-then-impossible-eq1-clause-is : goal.row_maps-returns-then-impossible-eq1-clause-is
row_maps-returns-then-impossible-eq1-clause-is t c =
    let a = c.args in
    sym (row_marked a.first.now.bytes.now a.second.now.bytes.now a.w a.u a.depth c.impossible.result c.impossible.ensures c.if-impossible-eq1.true)

pub row_maps-returns-then-not-label_within-clause-is : goal.row_maps-returns-then-not-label_within-clause-is
row_maps-returns-then-not-label_within-clause-is t c =
    let a = c.args in
    sym (row_apart a.first.now.bytes.now a.second.now.bytes.now a.w a.u a.depth c.impossible.result c.impossible.ensures c.if-impossible-eq1.false
    c.label_within.result (c.label_within.ensures a.second.now.bytes.now a.w c.requires.0) c.if-not-label_within.true)

pub row_maps-returns-then-depth-eq0-clause-is : goal.row_maps-returns-then-depth-eq0-clause-is
row_maps-returns-then-depth-eq0-clause-is t c =
    let a = c.args in
    sym (row_leaf a.first.now.bytes.now a.second.now.bytes.now a.w a.u a.depth c.impossible.result c.impossible.ensures c.if-impossible-eq1.false
    c.label_within.result (c.label_within.ensures a.second.now.bytes.now a.w c.requires.0) c.if-not-label_within.false c.if-depth-eq0.true)

pub row_maps-returns-clause-is : goal.row_maps-returns-clause-is
row_maps-returns-clause-is t c =
    let a = c.args in
    let found = unserved_row a.first.now.bytes.now a.second.now.bytes.now (a.depth - 1) a.w a.u in
    none_served found c.unserved.result c.is_none.result c.is_none.ensures c.unserved.ensures.row
    ∙ sym (row_deep a.first.now.bytes.now a.second.now.bytes.now a.w a.u a.depth c.impossible.result c.impossible.ensures c.if-impossible-eq1.false
    c.label_within.result (c.label_within.ensures a.second.now.bytes.now a.w c.requires.0) found c.if-not-label_within.false
    c.if-depth-eq0.false refl)

pub row_maps-returns-clause-found : goal.row_maps-returns-clause-found
row_maps-returns-clause-found t c e =
    let a = c.args in
    found_deep a.first.now.bytes.now a.second.now.bytes.now c.unserved.new.found a.depth a.w a.u c.if-depth-eq0.false
    (if_none c.unserved.result c.is_none.result c.is_none.ensures e c.unserved.ensures.found)

pub row_maps-returns-clause-missed : goal.row_maps-returns-clause-missed
row_maps-returns-clause-missed t c e =
    let a = c.args in
    let found = unserved_row a.first.now.bytes.now a.second.now.bytes.now (a.depth - 1) a.w a.u in
    let kept = row_missed _ found c.unserved.result c.is_none.result c.is_none.ensures e c.unserved.ensures.row c.unserved.ensures.missed in
    missed_deep a.first.now.bytes.now a.second.now.bytes.now c.unserved.new.missed a.depth a.w a.u
    found c.if-depth-eq0.false refl kept.0 kept.1

pub unserved-loop-c-init : goal.unserved-loop-c-init
unserved-loop-c-init t c =
    let a = c.args in
    let same = c.into_iter-c-iterator.ensures.into_iter_gives in
    let first = c.below-c-items.ensures in (
      ap (λ b. b.table.now) same ∙ first.table,
      served_start a.first.now.linked a.second.now.linked a.depth a.w a.u a.found.now a.missed.now
          c.into_iter-c-iterator.result.next c.requires.0 (ap (λ b. b.next) same ∙ first.next),
    )

pub unserved-returns-in_default-clause-row : goal.unserved-returns-in_default-clause-row
unserved-returns-in_default-clause-row t c =
    let a = c.args in
    let turn = turned c.loop-c.c-iterator c.next.new.self c.loop-c.invariant.0 c.in-Some.ensures.steps in
    let at = subst (ServedAt _ _ _ _ _ _ _ _ _ _ _) turn.is c.loop-c.invariant.1 in
    let told = c.in_default.ensures in (
      sym (served_none a.first.now.linked a.second.now.linked a.depth a.w a.u turn.there at a.first.now.rows (sym told.row)
          told.apart.1 told.apart.0 refl),
      turn.there,
    )

pub unserved-returns-in_default-clause-apart : goal.unserved-returns-in_default-clause-apart
unserved-returns-in_default-clause-apart t c =
    let a = c.args in
    let turn = turned c.loop-c.c-iterator c.next.new.self c.loop-c.invariant.0 c.in-Some.ensures.steps in
    let at = subst (ServedAt _ _ _ _ _ _ _ _ _ _ _) turn.is c.loop-c.invariant.1 in
    let told = c.in_default.ensures in (
      served_found a.first.now.linked a.second.now.linked a.depth a.w a.u turn.there at a.first.now.rows (sym told.row)
          told.apart.1 told.apart.0,
      served_written a.first.now.linked a.second.now.linked a.depth a.w a.u turn.there at a.first.now.rows (sym told.row)
          told.apart.1 told.apart.0 refl,
    )

pub unserved-returns-in_default-clause-missed : goal.unserved-returns-in_default-clause-missed
unserved-returns-in_default-clause-missed t c =
    let a = c.args in
    let turn = turned c.loop-c.c-iterator c.next.new.self c.loop-c.invariant.0 c.in-Some.ensures.steps in
    let at = subst (ServedAt _ _ _ _ _ _ _ _ _ _ _) turn.is c.loop-c.invariant.1 in
    let told = c.in_default.ensures in
    served_stop a.first.now.linked a.second.now.linked a.depth a.w a.u turn.there at a.first.now.rows (sym told.row)
    told.apart.1 told.apart.0 refl c.told-missed c.requires.1 told.missed

pub unserved-loop-c-preserved : goal.unserved-loop-c-preserved
unserved-loop-c-preserved t c =
    let a = c.args in
    let turn = turned c.loop-c.c-iterator c.next.new.self c.loop-c.invariant.0 c.in-Some.ensures.steps in
    let at = subst (ServedAt _ _ _ _ _ _ _ _ _ _ _) turn.is c.loop-c.invariant.1 in
    let image = c.in-Some-lowest_image in
    let told = image.ensures in (
      turn.table,
      served_next a.first.now.linked a.second.now.linked a.depth a.w a.u turn.there at image.v (sym told.row.0)
          told.apart.1 told.apart.0 c.next.new.self.next c.told-found (λ e. omega (arith, told.row.1))
          told.found turn.next,
    )
