-- The word of the answer; the word of cards is its value.
use mathlib.Core.Path.{sym}
use Rattle.interface.specs.Calls.{most_specific_word}
use Rattle.zuvaropy.proofs.zuvaropy_most_specific.Goals as goal

pub returns : goal.returns
unfolding most_specific_word
returns c =
    let limits = c.bench in
    let found = c.most_specific in
    record {
      word_is = rw (sym limits.ensures.0, sym found.ensures.0) c.selected_word.ensures;
      buffer_is = rw limits.ensures.0 at found.ensures.1;
    }
