use native.Mathlib.Omega.{arith}
use mathlib.Core.Path.{◌∙◌, ◌≡◌, ap, sym}
use Rattle.table.specs.Layout.{name_count}
use Rattle.table.specs.NameValues.{set_of}
use Rattle.definitions_rings.specs.Rings.{settled_set, uses_at}
use Rattle.definitions_rings.proofs.SettledSets.{round_last, round_more, settled_none}
use Rattle.definitions_rings.proofs.rings.find_settled.Goals as goal

pub loop-round-init : goal.loop-round-init
loop-round-init c =
    let a = c.args in
    c.none-done.ensures ∙ sym (settled_none (uses_at a.uses) (set_of a.defined))

pub returns-then-subset : goal.returns-then-subset
returns-then-subset c =
    let a = c.args in
    round_last (uses_at a.uses) (set_of a.defined) _ _ _ name_count c.loop-round.invariant c.settle-next.ensures
    (sym c.subset.ensures ∙ c.if-subset.true) (omega arith)

pub loop-round-preserved : goal.loop-round-preserved
loop-round-preserved c =
    let a = c.args in
    round_more (uses_at a.uses) (set_of a.defined) _ _ _ c.loop-round.invariant c.settle-next.ensures

pub returns : goal.returns
returns c =
    let l = c.loop-round in
    let a = c.args in
    let all : l.round ≡ name_count = omega arith in
    l.invariant ∙ ap (settled_set (uses_at a.uses) (set_of a.defined)) all
