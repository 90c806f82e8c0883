-- The word of the answer; the length of the evidence fits its part of the word.
use mathlib.Core.Path.{◌∙◌, sym}
use lib.ListN.{length}
use Rattle.interface.specs.Calls.{subsumes_word}
use Rattle.interface.proofs.Values.{verdict_small}
use Rattle.zuvaropy.proofs.zuvaropy_subsumes.Goals as goal

pub verdict_word-requires : goal.verdict_word-requires
verdict_word-requires c =
    let a = c.args in
    let limits = c.bench in
    let subsumes = c.subsumes in
    let given = sym subsumes.ensures.0 in
    let small = verdict_small limits.result limits.ensures.1 a.definitions.now a.first.now
    a.second.now (length a.work.now) (length a.res.now) in
    λ n. (λ e. (small n).0 (given ∙ e), λ e. (small n).1 (given ∙ e))

pub returns : goal.returns
unfolding subsumes_word
returns c =
    let limits = c.bench in
    let subsumes = c.subsumes in
    record {
      word_is = rw (sym limits.ensures.0, sym subsumes.ensures.0) c.verdict_word.ensures;
      work_is = rw limits.ensures.0 at subsumes.ensures.1.0;
      result_is = rw limits.ensures.0 at subsumes.ensures.1.1;
    }
