use native.Mathlib.Omega.{arith}
use mathlib.Core.Path.{◌≡◌, subst, sym}
use Rattle.picture.specs.Readable.{Readable}
use Rattle.fields.specs.Form.{listed}
use Rattle.definitions_asked.specs.Lots.{count_of, picture_of}
use Rattle.definitions_asked.specs.Measures.{Measured}
use Rattle.definitions_asked.proofs.PictureLots.{most_in}
use Rattle.definitions_asked.proofs.Sizes.{measured_as, measured_next, measured_none}
use Rattle.definitions_asked.proofs.measure.measure_lot.Goals as goal

pub loop-k-init : goal.loop-k-init
loop-k-init c = (omega arith, measured_none c.args.limits c.args.tbox.now.bytes.now c.args.before)

pub overflow_cast-k : goal.overflow_cast-k
overflow_cast-k c =
    omega (arith, c.loop-k-test.true, c.count-k-end.ensures, most_in c.args.lot.now c.requires.read.there)

pub picture-requires : goal.picture-requires
picture-requires c = (c.requires.read.there, omega (arith, c.loop-k-test.true, c.count-k-end.ensures))

pub measure-progress-requires : goal.measure-progress-requires
measure-progress-requires c =
    record {
      known = c.requires.known;
      readable = subst (Readable c.args.limits) (sym c.picture.ensures)
          (c.requires.read.readable c.loop-k.k (omega (arith, c.loop-k-test.true, c.count-k-end.ensures)));
    }

pub loop-k-preserved : goal.loop-k-preserved
loop-k-preserved c =
    let a = c.args in
    let at = picture_of a.lot.now in (
      omega (arith, c.loop-k-test.true),
      measured_next a.limits a.tbox.now.bytes.now at c.loop-k.k a.before c.loop-k.progress
          c.measure-progress.result c.loop-k.invariant.1
          (measured_as a.limits a.tbox.now.bytes.now (at c.loop-k.k) c.input-input.result
          c.picture.result.now c.loop-k.progress c.measure-progress.result
          c.input-input.ensures c.picture.ensures c.measure-progress.ensures),
    )

pub returns : goal.returns
returns c =
    let a = c.args in
    let all : c.loop-k.k ≡ count_of a.lot.now = omega (arith, c.loop-k-test.false, c.loop-k.invariant.0, c.count-k-end.ensures) in
    subst (λ n. Measured a.limits a.tbox.now.bytes.now (listed (picture_of a.lot.now) n 0) a.before
    c.loop-k.progress) all c.loop-k.invariant.1
