use native.Mathlib.Omega.{arith}
use mathlib.Core.Path.{◌∙◌, ◌≡◌, subst}
use Rattle.unfold_rows.specs.Copies.{Added, copy_bytes}
use Rattle.unfold_rows.proofs.Copying.{added_none, added_own}
use Rattle.unfold_rows.proofs.copy.copy_rows.Goals as goal

pub loop-k-init : goal.loop-k-init
loop-k-init c = (c.new-table.ensures, added_none c.args.out.now c.args.s.now (λ p. p) 0 0)

pub parent-requires : goal.parent-requires
parent-requires c = let p = c.requires.0 in (omega (arith, p.most), omega (arith, p.whole))

pub copied-requires : goal.copied-requires
copied-requires c = let p = c.requires.0 in (omega (arith, p.most), omega (arith, p.whole))

pub push-table-requires : goal.push-table-requires
push-table-requires c =
    let pre = c.requires in
    let l = c.loop-k in
    (omega (arith, pre.0.most, l.invariant.0), omega (arith, pre.1, l.invariant.0, l.invariant.1.same_length))

pub loop-k-preserved : goal.loop-k-preserved
loop-k-preserved c =
    let l = c.loop-k in
    let push = c.push-table in (
      omega (arith, push.ensures.0, l.invariant.0),
      added_own c.args.out.now l.out _ c.args.s.now l.k l.table.rows c.parent.result _ l.invariant.1 l.invariant.0
          (omega (arith, c.requires.1)) c.parent.ensures.0 c.copied.ensures push.ensures.1,
    )

pub returns : goal.returns
returns c =
    let l = c.loop-k in
    let k : l.k ≡ c.args.rows = omega arith in (
      l.invariant.0 ∙ k,
      subst (λ n. Added c.args.out.now l.out (copy_bytes c.args.s.now (λ p. p) 0 n) 0 n) k l.invariant.1,
    )
