-- The calls under a definitions book: what each asks in all, and that where all before the first 14 is answered yes it
-- is the call without a book, on the unfolded pictures.
--   no_before                      a no before the first 14 is the answer, whatever call it is, and every buffer is as
--                                  it was
--   same_answer, same_buffer       both, where what is asked before the first 14 is answered yes, and 1 is asked again
--   normalize_all, pair_all, verify_lent_all, lcs_all, verify_all    what is asked in all: of one picture; of two to 14, with
--                                  a result buffer and for a check; with 15; with 16 to 23
--   normalize_all_is, normalize_result_all                    all that, then the length; the normal table
--   subsumes_all_is, subsumes_work_all, subsumes_result_all   .. the verdict; both tables; the evidence
--   lcs_all_is, lcs_work_all, lcs_result_all                  .. the length; both tables, before 15; the common picture
--   verify_all_is, verify_work_all                            .. the kind; both tables, before 16 to 23
--   normalize_same, normalize_result_same                  the call without a book, on the unfolded picture
--   subsumes_same, subsumes_work_same, subsumes_result_same, lcs_same, lcs_work_same, lcs_result_same, verify_same,
--   verify_work_same                                       of the two
use Prim.Native.Nat.{ℕ}
use lib.Dec.{leb}
use lib.ListN.{length}
use mathlib.Core.Bool.{Bool, false, true}
use mathlib.Core.List.{List}
use mathlib.Core.Path.{◌∙◌, ◌≡◌, ap}
use Rattle.std.proofs.Common.{Err, Ok, Result}
use Rattle.table.proofs.Bools.{by_test}
use Rattle.table.specs.Bounds.{picture_size}
use Rattle.table.specs.Put.{put}
use Rattle.table.specs.declared.layout.Limits.{Limits}
use Rattle.picture.proofs.Keeping.{kept_no, kept_then}
use Rattle.picture.proofs.Orders.{on_no, on_then, then_assoc}
use Rattle.picture.specs.Asked.{and_then, kept, on_asked, Asked, yes}
use Rattle.picture.specs.Refusal.{short_buffer}
use Rattle.picture.specs.declared.answer.Refusal.{Refusal}
use Rattle.meaning.specs.NormalTable.{normal_file}
use Rattle.normal.specs.Call.{normalize_answer, normalize_result, one_asked}
use Rattle.workspace.proofs.Pairs.{lent_short}
use Rattle.workspace.specs.Lent.{lent_asked, roomy}
use Rattle.workspace.specs.Prepare.{halves_put, work_size}
use Rattle.evidence.specs.Call.{evidence_asked, evidence_kind, verify_answer, verify_asked, verify_lent, verify_work}
use Rattle.subsumption.specs.Call.{subsumes_answer, subsumes_asked, subsumes_result, subsumes_work, verdict_answer}
use Rattle.subsumption.specs.Verdict.{evidence_of, evidence_size}
use Rattle.lcs.specs.Call.{large_asked, lcs_answer, lcs_asked, lcs_lent, lcs_result, lcs_work}
use Rattle.lcs.specs.Product.{lcs_file}
use Rattle.definitions.specs.Asked.{Picture}
use Rattle.definitions.specs.Unfolded.{unfolded_file}
use Rattle.under.specs.Calls.{lcs_result_under, lcs_under, lcs_work_under, normalize_before, normalize_result_under, normalize_under, pair_before, subsumes_result_under, subsumes_under, subsumes_work_under, verify_before, verify_under, verify_work_under}
use Rattle.under.specs.Given.{lent_under, one, pair, under_asked}
use Rattle.under.proofs.Givens as givens

-- ---- any call

pub no_before : {A : Type 0} (answer : Result A Refusal) (new old : List ℕ) (before : Asked) (r : Refusal) →
    before ≡ Err r → (on_asked before answer ≡ Err r) × (kept before new old ≡ old)
no_before answer new old before r e = (on_no answer before r e, kept_no new old before r e)

-- b is what the call without a book asks, so 1 is its first question
module _ (limits : Limits) (enough : Bool) (tbox : List ℕ) (given : List Picture)
    (ok : under_asked limits tbox given ≡ yes) (b : Asked) (short : enough ≡ false → b ≡ Err short_buffer) where
  before_yes : enough ≡ true → lent_under limits enough tbox given ≡ yes
  before_yes e = (givens.lent_yes limits tbox given enough).1 (e, (givens.under_yes limits tbox given).0 ok)

  pub same_answer : {A : Type 0} (answer : Result A Refusal) →
      on_asked (lent_under limits enough tbox given) (on_asked b answer) ≡ on_asked b answer
  same_answer answer =
      by_test enough (λ e. rw (before_yes e)) (λ e. rw (givens.lent_short limits tbox given enough e, short e))

  pub same_buffer : (new old : List ℕ) →
      kept (lent_under limits enough tbox given) (kept b new old) old ≡ kept b new old
  same_buffer new old =
      by_test enough (λ e. rw (before_yes e)) (λ e. rw (givens.lent_short limits tbox given enough e, short e))

module _ (limits : Limits) (tbox : List ℕ) where
  -- ---- one picture

  module _ (picture : List ℕ) where
    abbrev s : List ℕ
    s = unfolded_file limits tbox picture

    abbrev pub normalize_all : ℕ → Asked
    normalize_all room = and_then (normalize_before limits tbox picture room) (one_asked limits s room)

    pub normalize_all_is : (room : ℕ) → normalize_under limits tbox picture room
        ≡ on_asked (normalize_all room) (Ok (length (normal_file limits s)))
    unfolding normalize_under normalize_answer
    normalize_all_is room =
        on_then (normalize_before limits tbox picture room) (one_asked limits s room) _

    pub normalize_result_all : (out : List ℕ) → normalize_result_under limits tbox picture out
        ≡ kept (normalize_all (length out)) (put out 0 (normal_file limits s)) out
    unfolding normalize_result_under normalize_result
    normalize_result_all out =
        kept_then (normalize_before limits tbox picture (length out)) (one_asked limits s (length out))
        (put out 0 (normal_file limits s)) out

    module _ (ok : under_asked limits tbox (one picture) ≡ yes) where
      one_short : (room : ℕ) → leb (picture_size limits) room ≡ false → one_asked limits s room ≡ Err short_buffer
      unfolding one_asked
      one_short room e = rw e

      pub normalize_same : (room : ℕ) → normalize_under limits tbox picture room ≡ normalize_answer limits s room
      unfolding normalize_under normalize_answer
      normalize_same room =
          same_answer limits (leb (picture_size limits) room) tbox (one picture) ok (one_asked limits s room)
          (one_short room) _

      pub normalize_result_same : (out : List ℕ) →
          normalize_result_under limits tbox picture out ≡ normalize_result limits s out
      unfolding normalize_result_under normalize_result
      normalize_result_same out =
          same_buffer limits (leb (picture_size limits) (length out)) tbox (one picture) ok
          (one_asked limits s (length out))
          (one_short (length out)) _ out

  -- ---- two pictures

  module _ (first second : List ℕ) where
    abbrev p : List ℕ
    p = unfolded_file limits tbox first

    abbrev q : List ℕ
    q = unfolded_file limits tbox second

    -- 1 to 14, with the length named of the result buffer; of a check; those and 15; those and 16 to 23
    abbrev pub pair_all : ℕ → ℕ → ℕ → Asked
    pair_all size work result =
        and_then (pair_before limits tbox first second size work result)
        (lent_asked limits (roomy limits size work result) p q)

    abbrev pub verify_lent_all : ℕ → Asked
    verify_lent_all room = and_then (verify_before limits tbox first second room) (verify_lent limits p q room)

    abbrev pub lcs_all : ℕ → ℕ → Asked
    lcs_all work result = and_then (pair_all (picture_size limits) work result) (large_asked limits p q)

    abbrev pub verify_all : List ℕ → ℕ → Asked
    verify_all evidence room = and_then (verify_lent_all room) (evidence_asked limits p q evidence)

    pub subsumes_all_is : (work result : ℕ) → subsumes_under limits tbox first second work result
        ≡ on_asked (pair_all (evidence_size limits) work result) (Ok (verdict_answer limits p q))
    unfolding subsumes_under subsumes_answer
    subsumes_all_is work result =
        on_then (pair_before limits tbox first second (evidence_size limits) work result)
        (subsumes_asked limits p q work result) (Ok (verdict_answer limits p q))

    pub subsumes_work_all : (work : List ℕ) (result : ℕ) → subsumes_work_under limits tbox first second work result
        ≡ kept (pair_all (evidence_size limits) (length work) result) (halves_put limits p q work) work
    unfolding subsumes_work_under
    subsumes_work_all work result =
        kept_then (pair_before limits tbox first second (evidence_size limits) (length work) result)
        (subsumes_asked limits p q (length work) result) (halves_put limits p q work) work

    pub subsumes_result_all : (work : ℕ) (result : List ℕ) → subsumes_result_under limits tbox first second work result
        ≡ kept (pair_all (evidence_size limits) work (length result)) (put result 0 (evidence_of limits p q)) result
    unfolding subsumes_result_under
    subsumes_result_all work result =
        kept_then (pair_before limits tbox first second (evidence_size limits) work (length result))
        (subsumes_asked limits p q work (length result)) (put result 0 (evidence_of limits p q)) result

    pub lcs_all_is : (work result : ℕ) → lcs_under limits tbox first second work result
        ≡ on_asked (lcs_all work result) (Ok (length (lcs_file limits p q)))
    unfolding lcs_under lcs_answer
    lcs_all_is work result =
        let before = pair_before limits tbox first second (picture_size limits) work result in
        let file = lcs_file limits p q in
        on_then before (lcs_asked limits p q work result) (Ok (length file))
        ∙ ap (λ (a : Asked). on_asked a (Ok (length file)))
        (then_assoc before (lcs_lent limits p q work result) (large_asked limits p q))

    pub lcs_work_all : (work : List ℕ) (result : ℕ) → lcs_work_under limits tbox first second work result
        ≡ kept (pair_all (picture_size limits) (length work) result) (halves_put limits p q work) work
    unfolding lcs_work_under
    lcs_work_all work result =
        kept_then (pair_before limits tbox first second (picture_size limits) (length work) result)
        (lcs_lent limits p q (length work) result) (halves_put limits p q work) work

    pub lcs_result_all : (work : ℕ) (result : List ℕ) → lcs_result_under limits tbox first second work result
        ≡ kept (lcs_all work (length result)) (put result 0 (lcs_file limits p q)) result
    unfolding lcs_result_under
    lcs_result_all work result =
        let before = pair_before limits tbox first second (picture_size limits) work (length result) in
        let written = put result 0 (lcs_file limits p q) in
        kept_then before (lcs_asked limits p q work (length result)) written result
        ∙ ap (λ (a : Asked). kept a written result)
        (then_assoc before (lcs_lent limits p q work (length result)) (large_asked limits p q))

    pub verify_all_is : (evidence : List ℕ) (room : ℕ) → verify_under limits tbox first second evidence room
        ≡ on_asked (verify_all evidence room) (Ok (evidence_kind limits q evidence))
    unfolding verify_under verify_answer
    verify_all_is evidence room =
        let before = verify_before limits tbox first second room in
        let kind = Ok (evidence_kind limits q evidence) in
        on_then before (verify_asked limits p q evidence room) kind
        ∙ ap (λ (a : Asked). on_asked a kind)
        (then_assoc before (verify_lent limits p q room) (evidence_asked limits p q evidence))

    pub verify_work_all : (work : List ℕ) → verify_work_under limits tbox first second work
        ≡ kept (verify_lent_all (length work)) (halves_put limits p q work) work
    unfolding verify_work_under
    verify_work_all work =
        kept_then (verify_before limits tbox first second (length work)) (verify_lent limits p q (length work))
        (halves_put limits p q work) work

    -- ---- where all before the first 14 is answered yes

    module _ (ok : under_asked limits tbox (pair first second) ≡ yes) where
      module _ (enough : Bool) where
        pair_short : enough ≡ false → lent_asked limits enough p q ≡ Err short_buffer
        pair_short = lent_short limits p q enough

        after_short : (after : Asked) → enough ≡ false → and_then (lent_asked limits enough p q) after ≡ Err short_buffer
        after_short after e = ap (λ a. and_then a after) (pair_short e)

        -- a buffer that is written once 1 to 14 are answered yes
        pair_buffer : (new old : List ℕ) →
            kept (lent_under limits enough tbox (pair first second)) (kept (lent_asked limits enough p q) new old) old
            ≡ kept (lent_asked limits enough p q) new old
        pair_buffer = same_buffer limits enough tbox (pair first second) ok (lent_asked limits enough p q) pair_short

      pub subsumes_same : (work result : ℕ) →
          subsumes_under limits tbox first second work result ≡ subsumes_answer limits p q work result
      unfolding subsumes_under subsumes_answer
      subsumes_same work result =
          let enough = roomy limits (evidence_size limits) work result in
          same_answer limits enough tbox (pair first second) ok (lent_asked limits enough p q) (pair_short enough)
          (Ok (verdict_answer limits p q))

      pub subsumes_work_same : (work : List ℕ) (result : ℕ) →
          subsumes_work_under limits tbox first second work result ≡ subsumes_work limits p q work result
      unfolding subsumes_work_under
      subsumes_work_same work result =
          pair_buffer (roomy limits (evidence_size limits) (length work) result) (halves_put limits p q work) work

      pub subsumes_result_same : (work : ℕ) (result : List ℕ) →
          subsumes_result_under limits tbox first second work result ≡ subsumes_result limits p q work result
      unfolding subsumes_result_under
      subsumes_result_same work result =
          pair_buffer (roomy limits (evidence_size limits) work (length result)) (put result 0 (evidence_of limits p q))
          result

      pub lcs_same : (work result : ℕ) →
          lcs_under limits tbox first second work result ≡ lcs_answer limits p q work result
      unfolding lcs_under lcs_answer
      lcs_same work result =
          let enough = roomy limits (picture_size limits) work result in
          same_answer limits enough tbox (pair first second) ok (lcs_asked limits p q work result)
          (after_short enough (large_asked limits p q)) (Ok (length (lcs_file limits p q)))

      pub lcs_work_same : (work : List ℕ) (result : ℕ) →
          lcs_work_under limits tbox first second work result ≡ lcs_work limits p q work result
      unfolding lcs_work_under
      lcs_work_same work result =
          pair_buffer (roomy limits (picture_size limits) (length work) result) (halves_put limits p q work) work

      pub lcs_result_same : (work : ℕ) (result : List ℕ) →
          lcs_result_under limits tbox first second work result ≡ lcs_result limits p q work result
      unfolding lcs_result_under
      lcs_result_same work result =
          let enough = roomy limits (picture_size limits) work (length result) in
          same_buffer limits enough tbox (pair first second) ok (lcs_asked limits p q work (length result))
          (after_short enough (large_asked limits p q)) (put result 0 (lcs_file limits p q)) result

      pub verify_same : (evidence : List ℕ) (room : ℕ) →
          verify_under limits tbox first second evidence room ≡ verify_answer limits p q evidence room
      unfolding verify_under verify_answer
      verify_same evidence room =
          let enough = leb (work_size limits) room in
          same_answer limits enough tbox (pair first second) ok (verify_asked limits p q evidence room)
          (after_short enough (evidence_asked limits p q evidence)) (Ok (evidence_kind limits q evidence))

      pub verify_work_same : (work : List ℕ) →
          verify_work_under limits tbox first second work ≡ verify_work limits p q work
      unfolding verify_work_under
      verify_work_same work = pair_buffer (leb (work_size limits) (length work)) (halves_put limits p q work) work
