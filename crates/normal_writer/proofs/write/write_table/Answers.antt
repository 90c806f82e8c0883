-- The rows are put from the first byte on, and the end field right after them.
use mathlib.Core.Path.{sym}
use native.Mathlib.Omega.{arith}
use lib.Seq.{length-take-le}
use Rattle.normal_writer.proofs.Tablings.{table_put}
use Rattle.normal_writer.proofs.write.write_table.Goals as goal

pub slice_bounds-copy_in-end : goal.slice_bounds-copy_in-end
slice_bounds-copy_in-end c =
    let a = c.args in
    sym (length-take-le c.place.result a.scratch.now (omega (arith, c.place.ensures)))

pub copy_in-requires : goal.copy_in-requires
copy_in-requires c =
    let a = c.args in
    omega (arith, c.place.ensures, length-take-le c.place.result a.scratch.now (omega (arith, c.place.ensures)))

pub returns : goal.returns
returns c =
    let a = c.args in
    let p = c.place in
    let copied = c.copy_in in
    let finished = c.finish in (
      finished.ensures.0,
      table_put a.table.rows p.result a.scratch.now a.out.now copied.new.dst finished.new.out p.ensures
          c.requires.made c.requires.space copied.ensures finished.ensures.1,
    )
