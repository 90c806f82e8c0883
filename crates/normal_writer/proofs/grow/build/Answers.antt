-- The root is grown from nothing: no row and row 0 are {root}, whose merged tree is never dropped.
use mathlib.Core.Bool.{false}
use mathlib.Core.Path.{◌∙◌, ◌≡◌, ap, refl}
use Rattle.row_sets.specs.Rows.{also}
use Rattle.row_sets.specs.declared.linked.Table.{Table}
use Rattle.row_sets.proofs.LabelLaws.{valued_none, valued_with}
use Rattle.normal_writer.proofs.Roots.{grown_built}
use Rattle.table_rows.proofs.Stores.{blank}
use Rattle.normal_writer.proofs.grow.build.Goals as goal

pub new-requires-clause-empty : goal.new-requires-clause-empty
new-requires-clause-empty c = blank 512 512 refl

pub new-survey-requires : goal.new-survey-requires
new-survey-requires c = blank 256 256 refl

pub graft-requires-clause-valued : goal.graft-requires-clause-valued
graft-requires-clause-valued c =
    let t = c.new-survey.result.table in
    let none = c.none in
    (also 0 (λ j. false), valued_with t.bytes.now t.rows (λ j. false) none.result 0 c.add-root.result t.linked.checked.some (valued_none t.bytes.now t.rows none.result none.ensures.0 none.ensures.1.1) c.add-root.ensures)

pub returns : goal.returns
returns c =
    let a = c.args in
    let t = c.new-survey.result.table in
    let none = c.none in
    let root = valued_with t.bytes.now t.rows (λ j. false) none.result 0 c.add-root.result t.linked.checked.some (valued_none t.bytes.now t.rows none.result none.ensures.0 none.ensures.1.1) c.add-root.ensures in
    let same : t.bytes.now ≡ a.s.now = ap (λ (t : Table). t.bytes.now) c.new-survey.ensures ∙ c.new.ensures.bytes in
    rw (← same) (grown_built a.limits t.bytes.now t.rows _ c.graft.result a.out.now _ t.linked.checked.some c.new-2.ensures refl (c.graft.ensures (also 0 (λ j. false)) root))
