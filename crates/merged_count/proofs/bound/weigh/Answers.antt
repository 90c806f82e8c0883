-- A weight fits a byte since it is below the limit, so that no sum is large.
use Prim.Native.Nat.{◌-◌}
use native.Mathlib.Omega.{arith}
use mathlib.Core.Path.{refl}
use Rattle.table_rows.proofs.Stores.{blank}
use Rattle.merged_count.proofs.Bounds.{weighed_most}
use Rattle.merged_count.proofs.Weighings.{low_next, low_none, small, weigh_done, weigh_next, weigh_none}
use Rattle.merged_count.proofs.bound.weigh.Goals as goal

pub loop-j-init : goal.loop-j-init
loop-j-init c = (weigh_none _ _ _ _ _ (blank 256 256 refl), low_none _ (blank 256 256 refl))

pub overflow_cast-share : goal.overflow_cast-share
overflow_cast-share c = omega (arith, c.loop-j.invariant.1 (c.loop-j.j - 1))

pub overflow_mul-share : goal.overflow_mul-share
overflow_mul-share c = omega (arith, small _ _ (c.loop-j.invariant.1 (c.loop-j.j - 1)) c.times.ensures.1)

pub overflow_add-share : goal.overflow_add-share
overflow_add-share c = omega (arith, small _ _ (c.loop-j.invariant.1 (c.loop-j.j - 1)) c.times.ensures.1)

pub overflow_cast-sum : goal.overflow_cast-sum
overflow_cast-sum c = omega (arith, c.loop-j.invariant.1 c.above-parent.result)

pub overflow_add-sum : goal.overflow_add-sum
overflow_add-sum c = let l = c.loop-j in omega (arith, small _ _ (l.invariant.1 (l.j - 1)) c.times.ensures.1, l.invariant.1 c.above-parent.result)

pub loop-j-preserved : goal.loop-j-preserved
loop-j-preserved c =
    let a = c.args in
    let l = c.loop-j in
    let more = c.loop-j-test.true in
    let few = c.requires.checked.most in
    let most = l.invariant.0.most in (
      weigh_next a.s.now a.rows a.keys.now a.somes.now (l.j - 1) l.j c.above-parent.result _ c.times.result _ l.below
          c.requires.checked (omega (arith, more)) (λ z. omega (arith, more)) c.above-parent.ensures.0 c.above-parent.ensures.1
          refl c.times.ensures.0 refl l.invariant.0,
      low_next l.below c.above-parent.result _ (omega (arith, l.invariant.0.size, c.above-parent.ensures.1))
          (omega (arith, c.if-limit-sum.false, c.requires.low)) l.invariant.1,
    )

pub returns : goal.returns
returns c =
    λ within limits.
    let a = c.args in
    let filled = c.requires.filled in
    let l = c.loop-j in
    let weighed = weigh_done a.s.now a.rows a.keys.now a.somes.now l.j l.below c.loop-j-test.false l.invariant.0 in
    omega (arith, weighed_most limits a.s.now a.rows a.keys.now a.somes.now l.below c.requires.checked filled.keyed filled.tallied weighed)
