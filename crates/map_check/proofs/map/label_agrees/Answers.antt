-- A marked image takes every row; else the row's label is to be within the image's.
use mathlib.Core.Path.{◌∙◌, sym}
use Rattle.map_check.proofs.MapLaws.{label_else, label_marked}
use Rattle.map_check.proofs.map.label_agrees.Goals as goal

pub returns-then-impossible-eq1 : goal.returns-then-impossible-eq1
returns-then-impossible-eq1 c =
    let a = c.args in
    sym (label_marked a.first.now a.second.now a.v a.i (sym c.impossible.ensures ∙ c.if-impossible-eq1.true))

pub returns : goal.returns
returns c =
    let a = c.args in
    let mark = c.impossible in
    label_else a.first.now a.second.now a.v a.i c.label_within.result (λ e. c.if-impossible-eq1.false (mark.ensures ∙ e))
    (c.label_within.ensures a.second.now a.i c.label_at.ensures)
