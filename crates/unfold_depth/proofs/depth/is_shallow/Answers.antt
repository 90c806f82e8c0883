use mathlib.Core.Path.{◌∙◌, refl, sym}
use native.Mathlib.Omega.{arith}
use borrow.Author.Tests.{le-leb, lt-leb}
use lib.ListN.{length-set}
use Rattle.table.proofs.Ranges.{each_done, each_fails, each_on}
use Rattle.table.specs.Fields.{parent_of}
use Rattle.picture.specs.Depth.{depth}
use Rattle.picture_questions.proofs.Depths.{known_next, known_root}
use Rattle.unfold_depth.proofs.ShallowRows.{shallow_at, shallow_hangs, shallow_root}
use Rattle.unfold_depth.proofs.depth.is_shallow.Goals as goal

pub loop-n-init : goal.loop-n-init
loop-n-init c =
    let a = c.args in
    record { size = refl; known = known_root a.table.now _ refl; rest = shallow_root a.table.now a.rows a.limit }

pub depth_at-depth-requires : goal.depth_at-depth-requires
depth_at-depth-requires c =
    let pre = c.requires in
    let l = c.loop-n in (
      (omega (arith, pre.few), omega (arith, pre.whole)),
      (l.invariant.known, shallow_hangs _ _ _ pre l.n (omega arith) (omega arith)),
    )

pub returns-then-limit-depth : goal.returns-then-limit-depth
returns-then-limit-depth c =
    let a = c.args in
    let l = c.loop-n in
    let t = a.table.now in
    sym (l.invariant.rest ∙ each_fails (shallow_at t a.limit) a.rows l.n (omega arith)
    (lt-leb (depth (parent_of t) l.n) a.limit (omega (arith, c.depth_at-depth.ensures, c.if-limit-depth.true))))

pub overflow_cast-depths : goal.overflow_cast-depths
overflow_cast-depths c = omega (arith, c.requires.low)

pub bounds-depths-n : goal.bounds-depths-n
bounds-depths-n c = omega (arith, c.requires.few)

pub loop-n-preserved : goal.loop-n-preserved
loop-n-preserved c =
    let a = c.args in
    let l = c.loop-n in
    let t = a.table.now in
    record {
      size = simp length-set l.invariant.size;
      known = known_next t l.depths l.n _ (omega (arith, l.invariant.size, c.requires.few)) l.invariant.known
          (shallow_hangs _ _ _ c.requires l.n (omega arith) (omega arith)) c.depth_at-depth.ensures;
      rest = l.invariant.rest ∙ each_on (shallow_at t a.limit) a.rows l.n (omega arith)
          (le-leb (depth (parent_of t) l.n) a.limit (omega (arith, c.depth_at-depth.ensures, c.if-limit-depth.false)));
    }

pub returns : goal.returns
returns c =
    let a = c.args in
    let l = c.loop-n in
    sym (l.invariant.rest ∙ each_done (shallow_at a.table.now a.limit) a.rows l.n (omega arith))
