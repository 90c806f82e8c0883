-- Each half is as long as the longest picture, so what the writer leaves in it is the normal file of the unfolded
-- picture and zeros, and the upper one begins where the lower one ends.
-- the way back from the length of a half to the entry
use Prim.Native.Nat.{◌+◌}
use mathlib.Core.Path.{◌∙◌, refl, sym}
use native.Mathlib.Omega.{arith}
use lib.Seq.{length-take-le}
use borrow.Author.Rules.{rules}
use Rattle.workspace.proofs.Halves.{length_upper}
use Rattle.prepare_pair.proofs.TabledPairs.{half_long, halves_built}
use Rattle.prepare_pair.proofs.unfolded.build_unfolded.Goals as goal

pub half_size-half-requires : goal.half_size-half-requires
half_size-half-requires c = c.requires.pair.first_ready.ready.bounded

pub overflow_add-end : goal.overflow_add-end
overflow_add-end c = omega (arith, c.half_size-half.ensures, c.requires.pair.space)

pub slice_bounds-unfolded_half-end-2 : goal.slice_bounds-unfolded_half-end-2
slice_bounds-unfolded_half-end-2 c =
    let half = c.half_size-half in
    sym (length-take-le half.result c.args.work.now (omega (arith, half.ensures, c.requires.pair.space)))

pub unfolded_half-n-requires : goal.unfolded_half-n-requires
unfolded_half-n-requires c =
    let half = c.half_size-half in
    record {
      ready = c.requires.pair.first_ready;
      few = c.requires.first_few;
      long = length-take-le half.result c.args.work.now (omega (arith, half.ensures, c.requires.pair.space))
          ∙ half.ensures;
    }

pub unfolded_half-m-requires : goal.unfolded_half-m-requires
unfolded_half-m-requires c =
    let lower = c.unfolded_half-n in
    let a = c.args in
    let half = c.half_size-half in
    record {
      ready = search rules;
      few = search rules;
      long = length_upper half.result a.work.now lower.new.half (half.result + half.result)
          (half_long a.limits _ _ c.requires.first_few lower.ensures.1 ∙ sym half.ensures) refl
          (omega (arith, half.ensures, c.requires.pair.space))
          ∙ half.ensures;
    }

pub returns : goal.returns
returns c =
    let upper = c.unfolded_half-m in
    let lower = c.unfolded_half-n in
    let a = c.args in
    let half = c.half_size-half in (
      rw (lower.ensures.0, upper.ensures.0),
      halves_built a.limits _ _ a.work.now lower.new.half upper.new.half
          half.result (half.result + half.result) c.requires.first_few c.requires.second_few
          half.ensures refl lower.ensures.1 upper.ensures.1,
    )
