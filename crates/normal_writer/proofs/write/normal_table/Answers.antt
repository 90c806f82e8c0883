-- What is built is the normal table where 14 is answered yes; the end field makes it a file.
use native.Mathlib.Omega.{arith}
use Rattle.row_sets.proofs.Checks.{readable_rows}
use Rattle.normal_writer.proofs.Tablings.{tabled_none, tabled_rows}
use Rattle.normal_writer.proofs.write.normal_table.Goals as goal

pub build-built-requires : goal.build-built-requires
build-built-requires c = (
  readable_rows c.args.limits c.args.picture.now c.requires.bounded c.requires.readable,
  (c.requires.bounded, omega (arith, c.requires.space)),
)

pub returns-then-limits-built : goal.returns-then-limits-built
returns-then-limits-built c =
    let built = c.build-built in
    tabled_none c.args.limits c.args.picture.now c.args.out.now built.result built.new.out built.ensures c.if-limits-built.true

pub returns : goal.returns
returns c =
    let if1 = c.if-limits-built in
    let built = c.build-built in
    let done = c.finish in
    tabled_rows c.args.limits c.args.picture.now c.args.out.now built.result built.new.out done.new.out built.ensures if1.false
    (omega (arith, built.ensures.same, built.ensures.fewer, if1.false, c.requires.space)) done.ensures.1
