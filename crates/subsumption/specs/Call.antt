-- 01, "Verdict with evidence, and its length (buffer 46,595)": the answer, and what the two buffers hold then.
--   subsumes_asked     1; first; second; 14 of each
--   verdict_answer     yes or no, with the length of the evidence
--   subsumes_answer    that, after these
--   subsumes_work      the work space: both tables where all is answered yes; else nothing written
--   subsumes_result    the result buffer: the evidence from its first byte on, then; else nothing written
use Rattle.std.specs.Prelude.{ℕ, length, List, Ok, Result}
use Rattle.table.specs.Pick.{pick}
use Rattle.table.specs.Put.{put}
use Rattle.table.specs.declared.layout.Limits.{Limits}
use Rattle.picture.specs.Asked.{kept, on_asked, Asked}
use Rattle.workspace.specs.Lent.{lent_asked, pair_work, roomy}
use Rattle.subsumption.specs.declared.verdict.Verdict.TheVariants.{No, Yes}
use Rattle.subsumption.specs.declared.verdict.Verdict.{Verdict}
use Rattle.picture.specs.declared.answer.Refusal.{Refusal}
use Rattle.subsumption.specs.Verdict.{evidence_of, evidence_size, verdict_of}

abbrev pub subsumes_asked : Limits → List ℕ → List ℕ → ℕ → ℕ → Asked
subsumes_asked limits first second work result =
    lent_asked limits (roomy limits (evidence_size limits) work result) first second

unfoldable pub verdict_answer : Limits → List ℕ → List ℕ → Verdict
verdict_answer limits first second =
    pick (verdict_of limits first second) (Yes (length (evidence_of limits first second))) (No (length (evidence_of limits first second)))

unfoldable pub subsumes_answer : Limits → List ℕ → List ℕ → ℕ → ℕ → Result Verdict Refusal
subsumes_answer limits first second work result =
    on_asked (subsumes_asked limits first second work result) (Ok (verdict_answer limits first second))

abbrev pub subsumes_work : Limits → List ℕ → List ℕ → List ℕ → ℕ → List ℕ
subsumes_work limits first second work result =
    pair_work limits (roomy limits (evidence_size limits) (length work) result) first second work

abbrev pub subsumes_result : Limits → List ℕ → List ℕ → ℕ → List ℕ → List ℕ
subsumes_result limits first second work result =
    kept (subsumes_asked limits first second work (length result)) (put result 0 (evidence_of limits first second)) result
