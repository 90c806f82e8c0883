-- The word of the answer; a length fits its part of the word, since a normal table is within the limits.
use mathlib.Core.Path.{◌∙◌, sym}
use Rattle.interface.specs.Calls.{normalize_word}
use Rattle.interface.proofs.Values.{normal_small}
use Rattle.zuvaropy.proofs.zuvaropy_normalize.Goals as goal

pub normalized_word-requires : goal.normalized_word-requires
normalized_word-requires c =
    let limits = c.bench in
    let normalize = c.normalize in
    λ n e. normal_small limits.result limits.ensures.1 _ _ _ n (sym normalize.ensures.0 ∙ e)

pub returns : goal.returns
unfolding normalize_word
returns c =
    let limits = c.bench in
    let normalize = c.normalize in
    record {
      word_is = rw (sym limits.ensures.0, sym normalize.ensures.0) c.normalized_word.ensures;
      buffer_is = rw (sym limits.ensures.0) normalize.ensures.1;
    }
