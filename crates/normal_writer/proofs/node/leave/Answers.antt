-- Each way out is one of the three ways in which a row is left.
use mathlib.Core.Path.{refl, sym, ◌∙◌}
use Rattle.normal_writer.proofs.Leavings.{left_inconsistent, left_dropped, left_whole}
use Rattle.normal_writer.proofs.node.leave.Goals as goal

pub returns-then-is_inconsistent : goal.returns-then-is_inconsistent
returns-then-is_inconsistent c =
    let a = c.args in
    let p = c.push in
    left_inconsistent a.branch a.edge a.label a.below _ a.out.now p.new.out _ _ (sym c.is_inconsistent.ensures ∙ c.if-is_inconsistent.true) refl p.ensures.0 c.spoils.ensures c.none.ensures c.none-then-is_inconsistent.ensures p.ensures.1

pub returns-then-is_dropped : goal.returns-then-is_dropped
returns-then-is_dropped c =
    let a = c.args in
    left_dropped a.branch a.edge a.label a.below _ a.out.now _ (sym c.is_inconsistent.ensures ∙ c.if-is_inconsistent.false) (sym c.is_dropped.ensures ∙ c.if-is_dropped.true) refl refl refl refl

pub returns : goal.returns
returns c =
    let a = c.args in
    left_whole a.branch a.edge a.label a.below _ a.out.now _ (sym c.is_inconsistent.ensures ∙ c.if-is_inconsistent.false) (sym c.is_dropped.ensures ∙ c.if-is_dropped.false) refl refl refl refl
