use lib.ListN.{length}
use native.Mathlib.Omega.{arith}
use mathlib.Core.Path.{◌∙◌, ◌≡◌, refl, subst, sym}
use Rattle.table.specs.NameValues.{set_of}
use Rattle.unfold_rows.specs.Copies.{Source}
use Rattle.unfold_rows.proofs.Attaching.{readable_source}
use Rattle.unfold_rows.proofs.Unfolding.{grows_end, grows_next, grows_start, grows_stop}
use Rattle.unfold_rows.proofs.unfold.unfold.Goals as goal

pub copy_rows-table-requires : goal.copy_rows-table-requires
copy_rows-table-requires c =
    let pre = c.requires in (
      subst (λ n. Source c.args.picture.now n) (sym pre.counted)
          (readable_source pre.limits c.args.picture.now pre.readable pre.bounded),
      omega (arith, pre.within, pre.room),
    )

pub loop-i-init : goal.loop-i-init
loop-i-init c =
    let a = c.args in
    let pre = c.requires in
    let copy = c.copy_rows-table in (
      omega arith,
      refl,
      grows_start a.picture.now a.tbox.now.bytes.now a.tbox.now.starts.now (set_of a.tbox.now.defined) a.limit
          pre.limits pre.readable a.rows copy.result.rows a.out.now _ pre.counted copy.ensures.0
          copy.ensures.1 pre.within,
    )

pub returns-then-limit-table : goal.returns-then-limit-table
returns-then-limit-table c =
    let kept : length c.loop-i.out ≡ length c.args.out.now = c.loop-i.invariant.1 ∙ c.copy_rows-table.ensures.1.same_length in
    let l = c.loop-i in
    let a = c.args in
    grows_stop a.picture.now a.tbox.now.bytes.now a.tbox.now.starts.now (set_of a.tbox.now.defined) a.limit
    l.table.rows l.i a.out.now l.out l.invariant.2 (kept) l.invariant.0 c.if-limit-table.true

pub come_up-table-requires : goal.come_up-table-requires
come_up-table-requires c =
    let l = c.loop-i in
    let pre = c.requires in
    record {
      here = c.loop-i-test.true;
      within = omega (arith, c.if-limit-table.false);
      small = pre.small;
      room = omega (arith, pre.room, l.invariant.1);
    }

pub overflow_add-i : goal.overflow_add-i
overflow_add-i c = omega (arith, c.loop-i.invariant.0, c.requires.small)

pub loop-i-smaller : goal.loop-i-smaller
loop-i-smaller c = omega (arith, c.loop-i-test.true, c.if-limit-table.false)

pub loop-i-preserved : goal.loop-i-preserved
loop-i-preserved c =
    let few = c.if-limit-table.false in
    let l = c.loop-i in
    let a = c.args in
    let up = c.come_up-table in (
      omega (arith, c.loop-i-test.true, few),
      up.ensures.same_length ∙ l.invariant.1,
      grows_next a.picture.now a.tbox.now.bytes.now a.tbox.now.starts.now (set_of a.tbox.now.defined) a.limit
          l.table.rows up.result.rows l.i l.out _ l.invariant.2 (omega (arith, few)) up.ensures,
    )

pub returns : goal.returns
returns c =
    let kept : length c.loop-i.out ≡ length c.args.out.now = c.loop-i.invariant.1 ∙ c.copy_rows-table.ensures.1.same_length in
    let l = c.loop-i in
    let a = c.args in
    grows_end a.picture.now a.tbox.now.bytes.now a.tbox.now.starts.now (set_of a.tbox.now.defined) a.limit
    l.table.rows l.i a.out.now l.out l.invariant.2 (kept) l.invariant.0 (omega (arith, c.loop-i-test.false))
