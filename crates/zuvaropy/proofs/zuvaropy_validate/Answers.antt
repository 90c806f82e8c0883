-- The word of the answer; a row count fits its part of the word, since it is within the limits.
use mathlib.Core.Path.{◌∙◌, sym}
use Prim.Native.Nat.{◌≤◌}
use native.Mathlib.Omega.{arith}
use Rattle.table.specs.Bounds.{max_rows}
use Rattle.picture.proofs.Readables.{answer_most}
use Rattle.interface.specs.Calls.{validate_word}
use Rattle.zuvaropy.proofs.zuvaropy_validate.Goals as goal

pub read_word-requires : goal.read_word-requires
read_word-requires c =
    λ n e.
    let limits = c.bench in
    let h : n ≤ max_rows = rw limits.ensures.0 at (answer_most limits.result c.args.picture.now _ n (sym c.read.ensures ∙ e)) in
    omega arith

pub returns : goal.returns
unfolding validate_word
returns c = rw (sym c.bench.ensures.0, sym c.read.ensures) c.read_word.ensures
