-- The end field is written behind the rows, if they are within the limit.
use native.Mathlib.Omega.{arith}
use Rattle.table.specs.NameValues.{set_of}
use Rattle.unfold_rows.proofs.Filing.{filed, filed_large}
use Rattle.unfold_rows.proofs.file.unfold_file.Goals as goal

pub finish-requires : goal.finish-requires
finish-requires c =
    let rows = c.unfold-count in (
      omega (arith, c.if-count-limit.true, c.requires.0.small),
      omega (arith, c.if-count-limit.true, c.requires.1, rows.ensures.same_length),
    )

pub returns-then-count-limit : goal.returns-then-count-limit
returns-then-count-limit c =
    let a = c.args in
    let rows = c.unfold-count in
    filed a.picture.now a.tbox.now.bytes.now a.tbox.now.starts.now (set_of a.tbox.now.defined) a.limit rows.result
    a.out.now _ rows.ensures _
    (omega (arith, c.if-count-limit.true, c.requires.1, rows.ensures.same_length)) c.finish.ensures.1

pub returns-else-count-limit : goal.returns-else-count-limit
returns-else-count-limit c =
    let a = c.args in
    let rows = c.unfold-count in
    filed_large a.picture.now a.tbox.now.bytes.now a.tbox.now.starts.now (set_of a.tbox.now.defined) a.limit rows.result
    a.out.now _ rows.ensures (omega (arith, c.if-count-limit.false))
