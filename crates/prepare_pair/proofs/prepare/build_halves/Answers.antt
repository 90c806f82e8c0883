-- Each half is as long as the longest picture, so what the writer leaves in it is the normal file and zeros, and the
-- upper one begins where the lower one ends.
use Prim.Native.Nat.{◌+◌}
use mathlib.Core.Path.{◌∙◌, refl, sym}
use native.Mathlib.Omega.{arith}
use lib.Seq.{length-take-le}
use Rattle.workspace.proofs.Halves.{length_upper}
use Rattle.prepare_pair.proofs.TabledPairs.{half_long, halves_built}
use Rattle.prepare_pair.proofs.prepare.build_halves.Goals as goal

pub slice_bounds-build_half-end-2 : goal.slice_bounds-build_half-end-2
slice_bounds-build_half-end-2 c =
    let a = c.args in
    let half = c.half_size-half in
    sym (length-take-le half.result a.work.now (omega (arith, half.ensures)))

pub build_half-n-requires : goal.build_half-n-requires
build_half-n-requires c =
    let half = c.half_size-half in
    record {
      bounded = c.requires.bounded;
      readable = c.requires.accepted.first_readable;
      few = c.requires.accepted.first_few;
      long = length-take-le half.result c.args.work.now (omega (arith, half.ensures)) ∙ half.ensures;
    }

pub build_half-m-requires : goal.build_half-m-requires
build_half-m-requires c =
    let a = c.args in
    let half = c.half_size-half in
    let lower = c.build_half-n in
    record {
      bounded = c.requires.bounded;
      readable = c.requires.accepted.second_readable;
      few = c.requires.accepted.second_few;
      long = length_upper half.result a.work.now lower.new.half (half.result + half.result)
          (half_long a.limits a.first.now _ c.requires.accepted.first_few lower.ensures.1
          ∙ sym half.ensures) refl (omega (arith, half.ensures, c.requires.space))
          ∙ half.ensures;
    }

pub returns : goal.returns
returns c =
    let a = c.args in
    let half = c.half_size-half in
    let lower = c.build_half-n in
    let upper = c.build_half-m in (
      rw (lower.ensures.0, upper.ensures.0),
      halves_built a.limits a.first.now a.second.now a.work.now lower.new.half
          upper.new.half half.result (half.result + half.result) c.requires.accepted.first_few
          c.requires.accepted.second_few half.ensures refl lower.ensures.1 upper.ensures.1,
    )
