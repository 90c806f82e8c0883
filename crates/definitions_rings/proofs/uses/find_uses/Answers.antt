-- A step of the walk gives the lowest name that is left, and leaves the others.
use native.Mathlib.Omega.{arith}
use mathlib.Core.Path.{refl}
use Rattle.table.specs.Layout.{name_count}
use Rattle.table.specs.NameValues.{set_of}
use Rattle.definition_parts.proofs.NameSteps.{names_none, step_low, step_lowest, step_struck, walk_held}
use Rattle.definition_parts.proofs.Parts.{tbox_has}
use Rattle.definitions_rings.proofs.UsesFound.{finding_done, finding_next, finding_start}
use Rattle.definitions_rings.proofs.uses.find_uses.Goals as goal

pub loop-name-init : goal.loop-name-init
loop-name-init c =
    let t = c.args.tbox.now in
    rw (c.into_iter-name-iterator.ensures.into_iter_gives, c.over-name-items.ensures)
    (λ name lowest. finding_start t.bytes.now t.starts.now (set_of t.defined) _ name refl lowest)

pub definition-requires : goal.definition-requires
definition-requires c =
    let step = c.in-Some.ensures.steps in
    let low = step_low _ _ _ step in
    (low, walk_held _ _ _ (c.loop-name.invariant _ (step_lowest _ _ _ step)).walk low)

pub used_names-requires : goal.used_names-requires
used_names-requires c =
    let step = c.in-Some.ensures.steps in
    rw c.definition.ensures
    (tbox_has c.args.tbox.now _
    (walk_held _ _ _ (c.loop-name.invariant _ (step_lowest _ _ _ step)).walk (step_low _ _ _ step)))

pub offset_bounds-uses-name : goal.offset_bounds-uses-name
offset_bounds-uses-name c = omega (arith, step_low _ _ _ c.in-Some.ensures.steps)

pub bounds-uses-name : goal.bounds-uses-name
bounds-uses-name c = step_low _ _ _ c.in-Some.ensures.steps

pub loop-name-preserved : goal.loop-name-preserved
loop-name-preserved c =
    let t = c.args.tbox.now in
    let step = c.in-Some.ensures.steps in
    λ to lowest.
    finding_next t.bytes.now t.starts.now (set_of t.defined) _ _ _ _ to _
    (c.loop-name.invariant _ (step_lowest _ _ _ step)) (step_low _ _ _ step)
    (rw (← c.definition.ensures) c.used_names.ensures) (step_struck _ _ _ step) lowest

pub returns : goal.returns
returns c =
    finding_done _ _ _ _ _ name_count (c.loop-name.invariant name_count (names_none _ c.in-None.ensures.steps.0))
    (omega arith)
