use mathlib.Core.Path.{◌∙◌, sym}
use native.Mathlib.Omega.{arith}
use Rattle.map_check.proofs.MapLaws.{asks, images_inside, map_rows}
use Rattle.picture.proofs.Exits.{exits}
use Rattle.picture.proofs.Orders.{to_no, to_yes, yes_on}
use Rattle.map_check.proofs.map.map_asked.Goals as goal

pub loop-i-init : goal.loop-i-init
loop-i-init c = λ k l. absurd (omega (arith, l))

pub row_asked-requires : goal.row_asked-requires
row_asked-requires c =
    let a = c.args in
    let l = c.loop-i in
    let inside = images_inside a.first.now a.second.now a.e.now a.n l.i
    c.requires.0.counted l.invariant in
    (c.requires.0, (c.requires.1.0, (c.requires.1.1, (c.loop-i-test.true, inside))))

pub loop-i-preserved : goal.loop-i-preserved
loop-i-preserved c =
    let a = c.args in
    let l = c.loop-i in
    let row = c.row_asked in
    let asked = asks a.first.now a.second.now a.e.now in
    yes_on asked l.i (sym row.ensures ∙ c.in_ok-row_asked.was) l.invariant

pub returns-in_err-row_asked : goal.returns-in_err-row_asked
returns-in_err-row_asked c =
    let a = c.args in
    let l = c.loop-i in
    let row = c.row_asked in
    exits c.from_residual.result _ c.from_residual.ensures.1
    ∙ sym
    (map_rows a.first.now a.second.now a.e.now a.m c.requires.1.0.counted
    ∙ to_no (asks a.first.now a.second.now a.e.now) a.m l.i _
    (omega arith) (sym row.ensures ∙ c.in_err-row_asked.was) l.invariant)

pub returns : goal.returns
returns c =
    let a = c.args in
    let l = c.loop-i in
    sym
    (map_rows a.first.now a.second.now a.e.now a.m c.requires.1.0.counted
    ∙ to_yes (asks a.first.now a.second.now a.e.now) a.m l.i (omega arith) l.invariant)
