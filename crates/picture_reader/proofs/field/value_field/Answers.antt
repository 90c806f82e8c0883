-- Each return follows from the tests on the way to it; the depth is asked for once 11 was answered yes.
use borrow.Author.Tests.{le-leb, lt-leb}
use Rattle.picture.specs.Questions.{value_field}
use mathlib.Core.Path.{sym, ◌∙◌}
use Rattle.picture_reader.proofs.field.value_field.Goals as goal

pub returns-then-not-kind_ok : goal.returns-then-not-kind_ok
unfolding value_field
returns-then-not-kind_ok c = simp (sym c.kind_ok.ensures ∙ c.if-not-kind_ok.true)

pub returns-then-not-role_ok : goal.returns-then-not-role_ok
unfolding value_field
returns-then-not-role_ok c = simp (sym c.kind_ok.ensures ∙ c.if-not-kind_ok.false, sym c.role_ok.ensures ∙ c.if-not-role_ok.true)

pub returns-then-not-parent_ok : goal.returns-then-not-parent_ok
unfolding value_field
returns-then-not-parent_ok c = simp (sym c.kind_ok.ensures ∙ c.if-not-kind_ok.false, sym c.role_ok.ensures ∙ c.if-not-role_ok.false, sym c.parent_ok.ensures ∙ c.if-not-parent_ok.true)

pub depth_at-depth-requires : goal.depth_at-depth-requires
depth_at-depth-requires c =
    let pre = c.requires in
    (pre.1.0, (pre.1.1, sym c.parent_ok.ensures ∙ c.if-not-parent_ok.false))

pub returns-then-limits-depth : goal.returns-then-limits-depth
unfolding value_field
returns-then-limits-depth c = simp (sym c.kind_ok.ensures ∙ c.if-not-kind_ok.false, sym c.role_ok.ensures ∙ c.if-not-role_ok.false, sym c.parent_ok.ensures ∙ c.if-not-parent_ok.false, sym c.depth_at-depth.ensures, lt-leb _ _ c.if-limits-depth.true)

pub returns-then-not-impossible_ok : goal.returns-then-not-impossible_ok
unfolding value_field
returns-then-not-impossible_ok c = simp (sym c.kind_ok.ensures ∙ c.if-not-kind_ok.false, sym c.role_ok.ensures ∙ c.if-not-role_ok.false, sym c.parent_ok.ensures ∙ c.if-not-parent_ok.false, sym c.depth_at-depth.ensures, le-leb _ _ c.if-limits-depth.false, sym c.impossible_ok.ensures ∙ c.if-not-impossible_ok.true)

pub returns : goal.returns
unfolding value_field
returns c = simp (sym c.kind_ok.ensures ∙ c.if-not-kind_ok.false, sym c.role_ok.ensures ∙ c.if-not-role_ok.false, sym c.parent_ok.ensures ∙ c.if-not-parent_ok.false, sym c.depth_at-depth.ensures, le-leb _ _ c.if-limits-depth.false, sym c.impossible_ok.ensures ∙ c.if-not-impossible_ok.false)
