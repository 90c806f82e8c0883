use Prim.Native.Nat.{◌-◌}
use native.Mathlib.Omega.{arith}
use mathlib.Core.Path.{◌∙◌, ◌≡◌, ap, refl, subst}
use Rattle.ale.specs.PictureSignature.{picture_signature}
use Rattle.tbox.specs.Unfold.{parent_in}
use Rattle.picture.specs.Readable.{row_count}
use Rattle.unfold_rows.specs.Copies.{Added, copy_bytes}
use Rattle.unfold_rows.proofs.Copying.{added_hung, added_none}
use Rattle.unfold_rows.proofs.copy.hang.Goals as goal

pub overflow_add-limit : goal.overflow_add-limit
unfolding row_count
overflow_add-limit c = omega (arith, c.requires.small)

pub overflow_add-first : goal.overflow_add-first
unfolding row_count
overflow_add-first c =
    let p = c.requires in omega (arith, p.started, p.small, p.source.most)

pub overflow_add-result : goal.overflow_add-result
unfolding row_count
overflow_add-result c = omega (arith, c.requires.small)

pub returns-then-limit-first : goal.returns-then-limit-first
unfolding row_count
returns-then-limit-first c = record { same_length = refl; fitted = λ l. absurd (omega (arith, c.if-limit-first.true)); stopped = λ l. refl }

pub loop-k-init : goal.loop-k-init
unfolding row_count
loop-k-init c = (
  omega arith,
  added_none c.args.out.now c.args.s.now
      (parent_in picture_signature c.args.i c.args.table.rows) 1 c.args.table.rows,
)

pub parent-requires : goal.parent-requires
unfolding row_count
parent-requires c =
    let p = c.requires.source in
    (omega (arith, p.most), omega (arith, p.whole))

pub hung_from-above-requires : goal.hung_from-above-requires
unfolding row_count
hung_from-above-requires c =
    let l = c.loop-k in
    let t = c.loop-k-test.true in (
      omega (arith, c.parent.ensures.0, c.requires.source.parents l.k (omega arith) (omega arith), c.requires.source.most),
      omega (arith, c.requires.started, c.requires.small),
    )

pub copied-requires : goal.copied-requires
unfolding row_count
copied-requires c =
    let p = c.requires.source in
    (omega (arith, p.most), omega (arith, p.whole))

pub push-grown-requires : goal.push-grown-requires
unfolding row_count
push-grown-requires c =
    let p = c.requires in
    let l = c.loop-k in
    let fits = c.if-limit-first.false in
    (omega (arith, p.small, l.invariant.0), omega (arith, p.room, l.invariant.0, l.invariant.1.same_length))

pub loop-k-preserved : goal.loop-k-preserved
unfolding row_count
loop-k-preserved c =
    let l = c.loop-k in
    let fits = c.if-limit-first.false in
    let push = c.push-grown in
    let copied = c.copied in
    let above = c.hung_from-above in
    let parent = c.parent in (
      omega (arith, push.ensures.0, l.invariant.0),
      added_hung c.args.out.now l.out _ c.args.s.now c.args.i l.k
          c.args.table.rows l.grown.rows above.result _
          (omega arith) l.invariant.1 l.invariant.0 (omega (arith, c.requires.room, l.invariant.0))
          (above.ensures ∙ ap (parent_in picture_signature c.args.i c.args.table.rows)
          parent.ensures.0) copied.ensures push.ensures.1,
    )

pub returns : goal.returns
unfolding row_count
returns c =
    let l = c.loop-k in
    let e : l.k - 1 ≡ row_count c.args.s.now - 1 = omega (arith, c.requires.source.some) in
    record {
      same_length = l.invariant.1.same_length;
      fitted = λ h. (
        omega (arith, l.invariant.0, c.requires.source.some),
        subst (λ n. Added c.args.out.now l.out
            (copy_bytes c.args.s.now (parent_in picture_signature c.args.i c.args.table.rows) 1
            n)
            c.args.table.rows n) e l.invariant.1,
      );
      stopped = λ h. absurd (omega (arith, c.if-limit-first.false, c.requires.source.some));
    }
