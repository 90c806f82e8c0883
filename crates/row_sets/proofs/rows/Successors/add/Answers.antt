-- Each row of the walk is added; it ends once all that hang from row c have been.
use mathlib.Core.Path.{◌∙◌, ap, subst, sym}
use Rattle.row_sets.proofs.Links.{Walked, walk_done, walk_next, walk_none}
use Rattle.row_sets.specs.declared.below.Below.{Below}
use Rattle.row_sets.proofs.rows.Successors.add.Goals as goal

pub loop-j-init : goal.loop-j-init
loop-j-init c =
    let a = c.args in
    let t = a.table.now in
    let is = c.into_iter-j-iterator.ensures.into_iter_gives in
    let b = c.below-j-items.ensures in
    (ap (λ (b : Below). b.table.now) is ∙ b.table, walk_none t.bytes.now t.rows a.c a.self t.links.now _ t.linked.linked c.requires (ap (λ (b : Below). b.next) is ∙ b.next))

pub loop-j-preserved : goal.loop-j-preserved
loop-j-preserved c =
    let a = c.args in
    let t = a.table.now in
    let l = c.loop-j in
    let (is, z, on, same, _) = c.in-Some.ensures.steps in
    let here = subst (λ j. Walked t.bytes.now t.rows a.c j a.self l.successors) (sym is) l.invariant.1 in
    let w = c.with-successors in
    (rw (same, l.invariant.0), walk_next t.bytes.now t.rows a.c a.self c.in-Some.j l.successors here t.links.now w.result _ z t.linked.linked (rw (← l.invariant.0) on) t.linked.checked.most w.ensures.set w.ensures.roles)

pub returns : goal.returns
returns c =
    let a = c.args in
    let t = a.table.now in
    let l = c.loop-j in
    walk_done t.bytes.now t.rows a.c a.self _ l.successors l.invariant.1 c.in-None.ensures.steps.0
