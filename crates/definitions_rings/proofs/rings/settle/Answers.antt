use native.Mathlib.Omega.{arith}
use Rattle.table.specs.NameValues.{set_of}
use Rattle.definition_parts.proofs.NameWalks.{walk_held}
use Rattle.definitions_rings.specs.Rings.{uses_at}
use Rattle.definitions_rings.proofs.Settlings.{settling_done, settling_next, settling_start}
use Rattle.definitions_rings.proofs.rings.settle.Goals as goal

pub loop-name-init : goal.loop-name-init
loop-name-init c =
    let a = c.args in
    rw (c.none-found.ensures, c.into_iter-name-iterator.ensures.into_iter_gives, c.over-name-items.ensures)
    (settling_start (uses_at a.uses) (set_of a.defined) (set_of a.done))

pub offset_bounds-uses-name : goal.offset_bounds-uses-name
offset_bounds-uses-name c = omega (arith, (walk_held _ _ _ _ c.loop-name.invariant.walk c.in-Some.ensures.steps).0)

pub bounds-uses-name : goal.bounds-uses-name
bounds-uses-name c = (walk_held _ _ _ _ c.loop-name.invariant.walk c.in-Some.ensures.steps).0

pub settle_name-found-requires : goal.settle_name-found-requires
settle_name-found-requires c = (walk_held _ _ _ _ c.loop-name.invariant.walk c.in-Some.ensures.steps).0

pub loop-name-preserved : goal.loop-name-preserved
loop-name-preserved c =
    let a = c.args in
    settling_next (uses_at a.uses) (set_of a.defined) (set_of a.done) _ _ _ _ _ c.in-Some.ensures.steps
    c.loop-name.invariant c.settle_name-found.ensures

pub returns : goal.returns
returns c =
    let a = c.args in
    settling_done (uses_at a.uses) (set_of a.defined) (set_of a.done) _ _ c.in-None.ensures.steps.0 c.loop-name.invariant
