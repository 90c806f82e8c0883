-- The word of the answer; the length of the common picture fits its part of the word.
use mathlib.Core.Path.{◌∙◌, sym}
use lib.ListN.{length}
use Rattle.interface.specs.Calls.{lcs_word}
use Rattle.interface.proofs.Values.{common_small}
use Rattle.zuvaropy.proofs.zuvaropy_lcs.Goals as goal

pub common_word-requires : goal.common_word-requires
common_word-requires c =
    let a = c.args in
    let limits = c.bench in
    let lcs = c.lcs in
    λ n e.
    common_small limits.result limits.ensures.1 a.definitions.now a.first.now a.second.now
    (length a.work.now) (length a.res.now)
    n (sym lcs.ensures.0 ∙ e)

pub returns : goal.returns
unfolding lcs_word
returns c =
    let limits = c.bench in
    let lcs = c.lcs in
    record {
      word_is = rw (sym limits.ensures.0, sym lcs.ensures.0) c.common_word.ensures;
      work_is = rw limits.ensures.0 at lcs.ensures.1.0;
      result_is = rw limits.ensures.0 at lcs.ensures.1.1;
    }
