-- The word of the answer.
use mathlib.Core.Path.{sym}
use Rattle.interface.specs.Calls.{verify_word}
use Rattle.zuvaropy.proofs.zuvaropy_verify.Goals as goal

pub returns : goal.returns
unfolding verify_word
returns c =
    let limits = c.bench in
    let verify = c.verify in
    record {
      word_is = rw (sym limits.ensures.0, sym verify.ensures.0) c.verified_word.ensures;
      buffer_is = rw limits.ensures.0 at verify.ensures.1;
    }
