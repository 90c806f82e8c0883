-- The answers of the calls under a definitions book, and what the buffers hold then: what is asked before the first 14,
-- and then the call without a book (normal, subsumption, lcs, evidence: specs/Call) on the unfolded pictures. A no
-- before the first 14 writes nothing.
--   normalize_before, pair_before, verify_before                  1, and what is asked before the first 14
--   normalize_under, normalize_result_under                       the normal table
--   subsumes_under, subsumes_work_under, subsumes_result_under      the verdict with evidence
--   lcs_under, lcs_work_under, lcs_result_under                     the common picture
--   verify_under, verify_work_under                               the check of evidence
use Rattle.std.specs.Prelude.{ℕ, leb, length, List, Result}
use Rattle.table.specs.Bounds.{picture_size}
use Rattle.table.specs.declared.layout.Limits.{Limits}
use Rattle.picture.specs.Asked.{kept, on_asked, Asked}
use Rattle.normal.specs.Call.{normalize_answer, normalize_result}
use Rattle.workspace.specs.Lent.{roomy}
use Rattle.workspace.specs.Prepare.{work_size}
use Rattle.evidence.specs.Call.{verify_answer, verify_work}
use Rattle.subsumption.specs.Call.{subsumes_answer, subsumes_result, subsumes_work}
use Rattle.subsumption.specs.Verdict.{evidence_size}
use Rattle.lcs.specs.Call.{lcs_answer, lcs_result, lcs_work}
use Rattle.definitions.specs.Unfolded.{unfolded_file}
use Rattle.subsumption.specs.declared.verdict.Verdict.{Verdict}
use Rattle.evidence.specs.declared.check.Taken.{Taken}
use Rattle.picture.specs.declared.answer.Refusal.{Refusal}
use Rattle.under.specs.Given.{lent_under, one, pair}

module _ (limits : Limits) (tbox : List ℕ) where
  abbrev unfolded : List ℕ → List ℕ
  unfolded picture = unfolded_file limits tbox picture

  module _ (picture : List ℕ) where
    -- 1, with the length of the result buffer, and what is asked before the first 14
    abbrev pub normalize_before : ℕ → Asked
    normalize_before room = lent_under limits (leb (picture_size limits) room) tbox (one picture)

    unfoldable pub normalize_under : ℕ → Result ℕ Refusal
    normalize_under room =
        on_asked (normalize_before room) (normalize_answer limits (unfolded picture) room)

    unfoldable pub normalize_result_under : List ℕ → List ℕ
    normalize_result_under out = kept (normalize_before (length out)) (normalize_result limits (unfolded picture) out) out

  module _ (first second : List ℕ) where
    -- 1, with the length named of the result buffer and the lengths of both, and what is asked before the first 14
    abbrev pub pair_before : ℕ → ℕ → ℕ → Asked
    pair_before size work result = lent_under limits (roomy limits size work result) tbox (pair first second)

    unfoldable pub subsumes_under : ℕ → ℕ → Result Verdict Refusal
    subsumes_under work result =
        on_asked (pair_before (evidence_size limits) work result)
        (subsumes_answer limits (unfolded first) (unfolded second) work result)

    unfoldable pub subsumes_work_under : List ℕ → ℕ → List ℕ
    subsumes_work_under work result =
        kept (pair_before (evidence_size limits) (length work) result)
        (subsumes_work limits (unfolded first) (unfolded second) work result) work

    unfoldable pub subsumes_result_under : ℕ → List ℕ → List ℕ
    subsumes_result_under work result =
        kept (pair_before (evidence_size limits) work (length result))
        (subsumes_result limits (unfolded first) (unfolded second) work result) result

    unfoldable pub lcs_under : ℕ → ℕ → Result ℕ Refusal
    lcs_under work result =
        on_asked (pair_before (picture_size limits) work result)
        (lcs_answer limits (unfolded first) (unfolded second) work result)

    unfoldable pub lcs_work_under : List ℕ → ℕ → List ℕ
    lcs_work_under work result =
        kept (pair_before (picture_size limits) (length work) result)
        (lcs_work limits (unfolded first) (unfolded second) work result) work

    unfoldable pub lcs_result_under : ℕ → List ℕ → List ℕ
    lcs_result_under work result =
        kept (pair_before (picture_size limits) work (length result))
        (lcs_result limits (unfolded first) (unfolded second) work result) result

    -- a check is lent a work space alone
    abbrev pub verify_before : ℕ → Asked
    verify_before room = lent_under limits (leb (work_size limits) room) tbox (pair first second)

    unfoldable pub verify_under : List ℕ → ℕ → Result Taken Refusal
    verify_under evidence room =
        on_asked (verify_before room)
        (verify_answer limits (unfolded first) (unfolded second) evidence room)

    unfoldable pub verify_work_under : List ℕ → List ℕ
    verify_work_under work =
        kept (verify_before (length work)) (verify_work limits (unfolded first) (unfolded second) work) work
