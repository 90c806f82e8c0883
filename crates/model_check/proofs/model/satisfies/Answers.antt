-- A label that is marked is satisfied by nothing; else the names that hold have all that are wanted, and none that is excluded.
use mathlib.Core.Path.{sym, ◌∙◌}
use Rattle.table.specs.NameValues.{set_of}
use Rattle.model_check.proofs.LabelTests.{satisfies_bottom, satisfies_held, satisfies_lacks}
use Rattle.model_check.proofs.model.satisfies.Goals as goal

pub returns-then-label-eq1 : goal.returns-then-label-eq1
returns-then-label-eq1 c t w stands =
    let a = c.args in
    sym (satisfies_bottom t w a.label a.e.now a.i stands c.if-label-eq1.true)

pub returns-then-subset : goal.returns-then-subset
returns-then-subset c t w stands =
    let a = c.args in
    let held = c.names-held in
    let within = c.subset in
    sym (satisfies_held t w a.label a.e.now a.i stands (set_of held.result) held.ensures within.result c.overlaps.result within.ensures c.if-subset.true c.overlaps.ensures c.if-label-eq1.false)

pub returns-else-subset : goal.returns-else-subset
returns-else-subset c t w stands =
    let a = c.args in
    let held = c.names-held in
    let within = c.subset in
    c.if-subset.false ∙ sym (satisfies_lacks t w a.label a.e.now a.i stands (set_of held.result) held.ensures within.result within.ensures c.if-subset.false)
