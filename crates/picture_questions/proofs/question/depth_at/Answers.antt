-- Row 0 has depth 0. The parent of any other row stands before it, so the table has the parent's depth.
use mathlib.Core.Path.{sym}
use Prim.Native.Nat.{◌<◌}
use native.Mathlib.Omega.{arith}
use Rattle.table.specs.Fields.{parent_of}
use Rattle.picture.proofs.Depths.{depth_root}
use Rattle.picture_questions.proofs.Depths.{depth_known}
use Rattle.picture.proofs.Questions.{parent_below}
use Rattle.picture_questions.proofs.question.depth_at.Goals as goal

pub returns-then-n-eq0 : goal.returns-then-n-eq0
returns-then-n-eq0 c = sym (rw c.if-n-eq0.true (depth_root (parent_of c.args.s.now)))

pub bounds-depths-parent : goal.bounds-depths-parent
bounds-depths-parent c =
    let a = c.args in
    omega (arith, c.parent-parent.ensures.0, parent_below a.n (parent_of a.s.now a.n) c.if-n-eq0.false c.requires.1.1, c)

pub returns : goal.returns
returns c =
    let pre = c.requires in
    let a = c.args in
    let below : parent_of a.s.now a.n < a.n = parent_below a.n (parent_of a.s.now a.n) c.if-n-eq0.false pre.1.1 in
    rw (c.from.ensures, c.parent-parent.ensures.0) (sym (depth_known a.s.now a.depths.now a.n pre.1.0 below))
