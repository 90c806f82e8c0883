-- A marked row is within none; of one that is not marked the wanted names decide.
use mathlib.Core.Path.{◌∙◌, sym}
use Rattle.table.specs.NameValues.{set_of}
use Rattle.refutation_writer.proofs.Refutings.{within_marked, within_names}
use Rattle.refutation_writer.proofs.refute.wanted_within.Goals as goal

pub returns-then-impossible-eq1 : goal.returns-then-impossible-eq1
returns-then-impossible-eq1 c =
    let a = c.args in
    let mark = c.impossible in
    sym (within_marked a.second.now a.w (set_of a.has) mark.result mark.ensures c.if-impossible-eq1.true)

pub returns : goal.returns
returns c =
    let a = c.args in
    let mark = c.impossible in
    let wants = c.wanted-wants in
    c.subset.ensures
    ∙ sym (within_names a.second.now a.w (set_of a.has) mark.result mark.ensures c.if-impossible-eq1.false (set_of wants.result) wants.ensures)
