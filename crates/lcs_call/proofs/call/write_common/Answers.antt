-- The rows that were built are over the limit exactly where those of the product are, and within it the table is the common picture.
use native.Mathlib.Omega.{arith}
use Rattle.lcs_call.proofs.Calls.{made_few, made_many}
use Rattle.lcs_call.proofs.call.write_common.Goals as goal

pub build-table-requires : goal.build-table-requires
build-table-requires c =
    let pre = c.requires in
    (pre.0, (pre.1.0, (pre.1.1.0, (pre.1.1.1.0, omega (arith, pre.1.1.1.0.0)))))

pub returns-then-limits-table : goal.returns-then-limits-table
returns-then-limits-table c =
    let a = c.args in
    let build = c.build-table in
    rw c.refuse.ensures (made_many a.limits a.first.now a.second.now build.result _ _ build.ensures a.res.now c.if-limits-table.true)

pub returns : goal.returns
returns c =
    let a = c.args in
    let build = c.build-table in
    let write = c.write_table in
    made_few a.limits a.first.now a.second.now build.result _ _ build.ensures write.result a.res.now _ c.if-limits-table.false write.ensures.0 write.ensures.1
