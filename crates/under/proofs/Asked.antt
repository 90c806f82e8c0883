-- The answers of the calls under a definitions book and what the buffers hold then, by what is asked in all.
--   normalize_asked, normalize_result_asked                       the normal table
--   subsumes_asked_is, subsumes_work_asked, subsumes_result_asked    the verdict with evidence
--   lcs_asked_is, lcs_work_asked, lcs_result_asked                   the common picture
--   verify_asked_is, verify_work_asked                               the check of evidence
--   most_specific_asked_is, most_specific_work_asked                 the nearest cards
use Prim.Native.Nat.{ℕ}
use lib.Dec.{leb}
use lib.ListN.{length}
use mathlib.Core.List.{List}
use mathlib.Core.Path.{◌∙◌, ◌≡◌, ap}
use Rattle.std.proofs.Common.{Ok, Result}
use Rattle.table.specs.Bounds.{Bounded, picture_size}
use Rattle.table.specs.Put.{put, zeros}
use Rattle.table.specs.declared.layout.Limits.{Limits}
use Rattle.picture.specs.Asked.{and_then, kept, on_asked, Asked}
use Rattle.picture.specs.declared.answer.Refusal.{Refusal}
use Rattle.meaning.specs.NormalTable.{normal_file}
use Rattle.workspace.specs.Lent.{roomy}
use Rattle.workspace.specs.Prepare.{halves_put, work_size}
use Rattle.evidence.specs.Call.{evidence_asked, evidence_kind}
use Rattle.subsumption.specs.Call.{verdict_answer}
use Rattle.subsumption.specs.Verdict.{evidence_of, evidence_size}
use Rattle.lcs.specs.Call.{large_asked}
use Rattle.lcs.specs.Product.{lcs_file}
use Rattle.book.specs.Selection.{most_specific_cards}
use Rattle.definitions.specs.Unfolded.{unfolded_file}
use Rattle.under.specs.Asked.{lcs_asked_under, most_specific_asked_under, one_asked_under, pair_asked_under}
use Rattle.under.specs.Asked.{subsumes_asked_under, verify_asked_under}
use Rattle.under.specs.Book.{most_specific_under, most_specific_work_under, unfolded_book}
use Rattle.under.specs.Calls.{lcs_result_under, lcs_under, lcs_work_under, normalize_result_under, normalize_under}
use Rattle.under.specs.Calls.{subsumes_result_under, subsumes_under, subsumes_work_under, verify_under, verify_work_under}
use Rattle.under.proofs.Books.{book_order, most_specific_all, most_specific_work_all}
use Rattle.under.proofs.Calls.{lcs_all_is, lcs_result_all, lcs_work_all, normalize_all_is, normalize_result_all}
use Rattle.under.proofs.Calls.{subsumes_all_is, subsumes_result_all, subsumes_work_all, verify_all_is, verify_work_all}
use Rattle.under.proofs.Orders.{one_order, pair_order}

-- an answer, and a buffer, where the questions are the same
on_same : {A : Type 0} (answer : Result A Refusal) (a b : Asked) → a ≡ b → on_asked a answer ≡ on_asked b answer
on_same answer a b e = ap (λ (x : Asked). on_asked x answer) e

kept_same : (new old : List ℕ) (a b : Asked) → a ≡ b → kept a new old ≡ kept b new old
kept_same new old a b e = ap (λ (x : Asked). kept x new old) e

module _ (limits : Limits) (bounded : Bounded limits) (tbox : List ℕ) where
  abbrev unfolded : List ℕ → List ℕ
  unfolded picture = unfolded_file limits tbox picture

  module _ (picture : List ℕ) where
    pub normalize_asked : (room : ℕ) → normalize_under limits tbox picture room
        ≡ on_asked (one_asked_under limits tbox picture room)
        (Ok (length (normal_file limits (unfolded picture))))
    normalize_asked room =
        normalize_all_is limits tbox picture room
        ∙ on_same _ _ _ (one_order limits bounded tbox picture room)

    pub normalize_result_asked : (out : List ℕ) → normalize_result_under limits tbox picture out
        ≡ kept (one_asked_under limits tbox picture (length out)) (put out 0 (normal_file limits (unfolded picture))) out
    normalize_result_asked out =
        normalize_result_all limits tbox picture out
        ∙ kept_same _ out _ _ (one_order limits bounded tbox picture (length out))

  module _ (first second : List ℕ) where
    abbrev p : List ℕ
    p = unfolded first

    abbrev q : List ℕ
    q = unfolded second

    pub subsumes_asked_is : (work result : ℕ) → subsumes_under limits tbox first second work result
        ≡ on_asked (subsumes_asked_under limits tbox first second work result) (Ok (verdict_answer limits p q))
    subsumes_asked_is work result =
        subsumes_all_is limits tbox first second work result
        ∙ on_same _ _ _
        (pair_order limits bounded tbox first second (roomy limits (evidence_size limits) work result))

    pub subsumes_work_asked : (work : List ℕ) (result : ℕ) → subsumes_work_under limits tbox first second work result
        ≡ kept (subsumes_asked_under limits tbox first second (length work) result) (halves_put limits p q work) work
    subsumes_work_asked work result =
        subsumes_work_all limits tbox first second work result
        ∙ kept_same _ work _ _
        (pair_order limits bounded tbox first second (roomy limits (evidence_size limits) (length work) result))

    pub subsumes_result_asked : (work : ℕ) (result : List ℕ) → subsumes_result_under limits tbox first second work result
        ≡ kept (subsumes_asked_under limits tbox first second work (length result)) (put result 0 (evidence_of limits p q))
        result
    subsumes_result_asked work result =
        subsumes_result_all limits tbox first second work result
        ∙ kept_same _ result _ _
        (pair_order limits bounded tbox first second (roomy limits (evidence_size limits) work (length result)))

    pub lcs_asked_is : (work result : ℕ) → lcs_under limits tbox first second work result
        ≡ on_asked (lcs_asked_under limits tbox first second work result)
        (Ok (length (lcs_file limits p q)))
    lcs_asked_is work result =
        lcs_all_is limits tbox first second work result
        ∙ on_same _ _ _ (ap (λ (a : Asked). and_then a (large_asked limits p q))
        (pair_order limits bounded tbox first second (roomy limits (picture_size limits) work result)))

    pub lcs_work_asked : (work : List ℕ) (result : ℕ) → lcs_work_under limits tbox first second work result
        ≡ kept (pair_asked_under limits tbox (roomy limits (picture_size limits) (length work) result) first second)
        (halves_put limits p q work) work
    lcs_work_asked work result =
        lcs_work_all limits tbox first second work result
        ∙ kept_same _ work _ _
        (pair_order limits bounded tbox first second (roomy limits (picture_size limits) (length work) result))

    pub lcs_result_asked : (work : ℕ) (result : List ℕ) → lcs_result_under limits tbox first second work result
        ≡ kept (lcs_asked_under limits tbox first second work (length result)) (put result 0 (lcs_file limits p q)) result
    lcs_result_asked work result =
        lcs_result_all limits tbox first second work result
        ∙ kept_same _ result _ _ (ap (λ (a : Asked). and_then a (large_asked limits p q))
        (pair_order limits bounded tbox first second (roomy limits (picture_size limits) work (length result))))

    pub verify_asked_is : (evidence : List ℕ) (room : ℕ) → verify_under limits tbox first second evidence room
        ≡ on_asked (verify_asked_under limits tbox first second evidence room)
        (Ok (evidence_kind limits q evidence))
    verify_asked_is evidence room =
        verify_all_is limits tbox first second evidence room
        ∙ on_same _ _ _ (ap (λ (a : Asked). and_then a (evidence_asked limits p q evidence))
        (pair_order limits bounded tbox first second (leb (work_size limits) room)))

    pub verify_work_asked : (work : List ℕ) → verify_work_under limits tbox first second work
        ≡ kept (pair_asked_under limits tbox (leb (work_size limits) (length work)) first second)
        (halves_put limits p q work) work
    verify_work_asked work =
        verify_work_all limits tbox first second work
        ∙ kept_same _ work _ _ (pair_order limits bounded tbox first second (leb (work_size limits) (length work)))

  module _ (case book : List ℕ) where
    pub most_specific_asked_is : (room : ℕ) → most_specific_under limits tbox case book room
        ≡ on_asked (most_specific_asked_under limits tbox case book room)
        (Ok (most_specific_cards limits (unfolded case) (unfolded_book limits tbox book)))
    most_specific_asked_is room =
        most_specific_all limits bounded tbox case book room
        ∙ on_same _ _ _ (book_order limits bounded tbox case book room)

    pub most_specific_work_asked : (work : List ℕ) → most_specific_work_under limits tbox case book work
        ≡ kept (most_specific_asked_under limits tbox case book (length work)) (put work 0 (zeros (work_size limits))) work
    most_specific_work_asked work =
        most_specific_work_all limits bounded tbox case book work
        ∙ kept_same _ work _ _ (book_order limits bounded tbox case book (length work))
