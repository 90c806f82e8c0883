-- A definitions book without definitions: every call under it is the call without one, on the pictures as they are,
-- whatever bytes they are. The end field alone is such a book (definitions, proofs/Empty: `end-count`, `end-form`).
--   in_front                 questions that are asked again
--   under_read               of given pictures nothing but 2 to 13 is asked
--   empty_normalize, empty_normalize_result                   the normal table
--   empty_subsumes, empty_subsumes_work, empty_subsumes_result   the verdict
--   empty_lcs, empty_lcs_work, empty_lcs_result               the common picture
--   empty_verify, empty_verify_work                           the check
--   same_asked, same_cards   books of the same cards are asked and answered the same
--   empty_most_specific, empty_most_specific_work             the nearest cards
use Prim.Native.Nat.{◌<◌, ℕ}
use lib.Dec.{leb}
use lib.ListN.{length}
use mathlib.Core.Bool.{Bool, ◌&&◌, not, true}
use mathlib.Core.List.{List}
use mathlib.Core.Path.{◌∙◌, ◌≡◌, ap, refl, sym}
use native.Mathlib.Omega.{arith}
use Rattle.std.proofs.Common.{Err, Ok}
use Rattle.table.proofs.Ranges.{some_same}
use Rattle.table.proofs.SetsBelow.{set_below_same}
use Rattle.table.specs.Bounds.{Bounded, picture_size}
use Rattle.table.specs.NameSet.{set_below}
use Rattle.table.specs.Put.{put, zeros}
use Rattle.table.specs.declared.layout.Limits.{Limits}
use Rattle.order.specs.Preorder.{minimal, is_passed_over, strict}
use Rattle.picture.proofs.Orders.{from_same, from_yes, read_decides}
use Rattle.picture.specs.Asked.{and_then, asked_from, kept, on_asked, read_asked, room_asked, Asked, yes}
use Rattle.picture.specs.Readable.{Readable}
use Rattle.picture.specs.declared.answer.Input.TheVariants.{Card, First, Second}
use Rattle.normal.specs.Call.{merged_asked, normalize_answer, normalize_result, one_asked}
use Rattle.workspace.specs.Lent.{lent_asked, roomy}
use Rattle.workspace.specs.Prepare.{halves_put, pair_asked, work_size}
use Rattle.evidence.specs.Call.{evidence_asked, verify_answer, verify_work}
use Rattle.subsumption.specs.Call.{subsumes_answer, subsumes_result, subsumes_work}
use Rattle.subsumption.specs.Verdict.{evidence_of, evidence_size}
use Rattle.lcs.specs.Call.{large_asked, lcs_answer, lcs_result, lcs_work}
use Rattle.book.specs.Call.{book_asked, card_merged, card_read, form_asked, most_specific_answer, most_specific_asked, most_specific_work}
use Rattle.book.specs.Form.{book_form, card, card_count}
use Rattle.book.specs.Selection.{card_covers, case_covered, most_specific, most_specific_cards}
use Rattle.definitions.proofs.Empty.{empty_asked, empty_unfolded}
use Rattle.definitions.specs.Asked.{Picture, asked_of, definitions_asked, read_of}
use Rattle.definitions.specs.Form.{definition_count, definitions_form}
use Rattle.definitions.specs.Unfolded.{unfolded_file}
use Rattle.under.specs.Book.{book_before, case_and_cards, most_specific_under, most_specific_work_under, unfolded_book}
use Rattle.under.specs.Calls.{lcs_result_under, lcs_under, lcs_work_under, normalize_result_under, normalize_under, subsumes_result_under, subsumes_under, subsumes_work_under, verify_under, verify_work_under}
use Rattle.under.specs.Given.{lent_under, one, pair, under_asked}
use Rattle.under.proofs.Books.{before_decides, cards_all, unfolded_card, unfolded_count_is, unfolded_form}
use Rattle.under.proofs.Calls as calls
use Rattle.under.proofs.Givens.{reads_decides}

-- ---- questions that are asked again

pub in_front : (x y z : Asked) → (x ≡ yes → and_then y z ≡ z) → and_then (and_then x y) (and_then x z) ≡ and_then x z
in_front (Ok _) y z h = h refl
in_front (Err r) y z h = refl

module _ (limits : Limits) (tbox : List ℕ) (empty : definition_count tbox ≡ 0)
    (form : definitions_form tbox ≡ true) where
  pub under_read : (given : List Picture) → under_asked limits tbox given ≡ asked_of (read_of limits) given
  unfolding under_asked
  under_read given =
      by (asked_of (read_of limits) given)
      (λ e. empty_asked tbox empty form limits given ((reads_decides limits given).yes.0 e))
    where
      by : (a : Asked) → (a ≡ yes → definitions_asked limits tbox given ≡ yes) →
          and_then a (definitions_asked limits tbox given) ≡ a
      by (Ok _) h = h refl
      by (Err r) h = refl

  abbrev itself : (s : List ℕ) → unfolded_file limits tbox s ≡ s
  itself s = empty_unfolded tbox empty limits s

  -- ---- one picture

  module _ (picture : List ℕ) where
    one_again : (room : ℕ) → calls.normalize_all limits tbox picture room ≡ one_asked limits picture room
    unfolding lent_under asked_of one_asked
    one_again room =
        let enough = room_asked (leb (picture_size limits) room) in
        let read = read_asked limits First picture in
        let merged = merged_asked limits First picture in
        rw (itself picture, under_read (one picture))
        (in_front enough (and_then read yes) (and_then read merged) (λ e. in_front read yes merged (λ f. refl)))

    pub empty_normalize : (room : ℕ) → normalize_under limits tbox picture room ≡ normalize_answer limits picture room
    unfolding normalize_answer
    empty_normalize room = calls.normalize_all_is limits tbox picture room ∙ rw (one_again room, itself picture)

    pub empty_normalize_result : (out : List ℕ) →
        normalize_result_under limits tbox picture out ≡ normalize_result limits picture out
    unfolding normalize_result
    empty_normalize_result out =
        calls.normalize_result_all limits tbox picture out ∙ rw (one_again (length out), itself picture)

  -- ---- two pictures

  module _ (first second : List ℕ) where
    pair_again : (enough : Bool) →
        and_then (lent_under limits enough tbox (pair first second)) (lent_asked limits enough first second)
        ≡ lent_asked limits enough first second
    unfolding lent_under lent_asked pair_asked asked_of
    pair_again enough =
        let read = read_asked limits First first in
        let next = read_asked limits Second second in
        let merged = and_then (merged_asked limits First first) (merged_asked limits Second second) in
        rw (under_read (pair first second))
        (in_front (room_asked enough) (and_then read (and_then next yes)) (and_then read (and_then next merged))
        (λ e. in_front read (and_then next yes) (and_then next merged) (λ f. in_front next yes merged (λ g. refl))))

    then_again : (enough : Bool) (after : Asked) →
        and_then (and_then (lent_under limits enough tbox (pair first second)) (lent_asked limits enough first second))
        after
        ≡ and_then (lent_asked limits enough first second) after
    then_again enough after = ap (λ (a : Asked). and_then a after) (pair_again enough)

    -- a buffer that is written once 1 to 14 are answered yes
    pair_buffer : (enough : Bool) (new : List ℕ → List ℕ → List ℕ) (old : List ℕ) →
        kept (and_then (lent_under limits enough tbox (pair first second))
        (lent_asked limits enough (unfolded_file limits tbox first) (unfolded_file limits tbox second)))
        (new (unfolded_file limits tbox first) (unfolded_file limits tbox second)) old
        ≡ kept (lent_asked limits enough first second) (new first second) old
    pair_buffer enough new old = rw (itself first, itself second, pair_again enough)

    pub empty_subsumes : (work result : ℕ) →
        subsumes_under limits tbox first second work result ≡ subsumes_answer limits first second work result
    unfolding subsumes_answer
    empty_subsumes work result =
        calls.subsumes_all_is limits tbox first second work result
        ∙ rw (itself first, itself second, pair_again (roomy limits (evidence_size limits) work result))

    pub empty_subsumes_work : (work : List ℕ) (result : ℕ) →
        subsumes_work_under limits tbox first second work result ≡ subsumes_work limits first second work result
    empty_subsumes_work work result =
        calls.subsumes_work_all limits tbox first second work result
        ∙ pair_buffer (roomy limits (evidence_size limits) (length work) result) (λ p q. halves_put limits p q work) work

    pub empty_subsumes_result : (work : ℕ) (result : List ℕ) →
        subsumes_result_under limits tbox first second work result ≡ subsumes_result limits first second work result
    empty_subsumes_result work result =
        calls.subsumes_result_all limits tbox first second work result
        ∙ pair_buffer (roomy limits (evidence_size limits) work (length result))
        (λ p q. put result 0 (evidence_of limits p q)) result

    pub empty_lcs : (work result : ℕ) →
        lcs_under limits tbox first second work result ≡ lcs_answer limits first second work result
    unfolding lcs_answer
    empty_lcs work result =
        calls.lcs_all_is limits tbox first second work result
        ∙ rw (
          itself first,
          itself second,
          then_again (roomy limits (picture_size limits) work result) (large_asked limits first second),
        )

    pub empty_lcs_work : (work : List ℕ) (result : ℕ) →
        lcs_work_under limits tbox first second work result ≡ lcs_work limits first second work result
    empty_lcs_work work result =
        calls.lcs_work_all limits tbox first second work result
        ∙ pair_buffer (roomy limits (picture_size limits) (length work) result) (λ p q. halves_put limits p q work) work

    pub empty_lcs_result : (work : ℕ) (result : List ℕ) →
        lcs_result_under limits tbox first second work result ≡ lcs_result limits first second work result
    empty_lcs_result work result =
        calls.lcs_result_all limits tbox first second work result
        ∙ rw (
          itself first,
          itself second,
          then_again (roomy limits (picture_size limits) work (length result)) (large_asked limits first second),
        )

    pub empty_verify : (evidence : List ℕ) (room : ℕ) →
        verify_under limits tbox first second evidence room ≡ verify_answer limits first second evidence room
    unfolding verify_answer
    empty_verify evidence room =
        calls.verify_all_is limits tbox first second evidence room
        ∙ rw (
          itself first,
          itself second,
          then_again (leb (work_size limits) room) (evidence_asked limits first second evidence),
        )

    pub empty_verify_work : (work : List ℕ) →
        verify_work_under limits tbox first second work ≡ verify_work limits first second work
    empty_verify_work work =
        calls.verify_work_all limits tbox first second work
        ∙ pair_buffer (leb (work_size limits) (length work)) (λ p q. halves_put limits p q work) work

-- ---- books of the same cards

module _ (limits : Limits) (case a b : List ℕ) (form : book_form a ≡ book_form b) (count : card_count a ≡ card_count b)
    (cards : (k : ℕ) → k < card_count b → card a k ≡ card b k) where
  pub same_asked : book_asked limits case a ≡ book_asked limits case b
  unfolding book_asked
  same_asked =
      let reads = from_same (card_read limits a) (card_read limits b) (card_count b) 0
      (λ k l m. ap (read_asked limits (Card k)) (cards k (omega arith))) in
      let merges = from_same (card_merged limits a) (card_merged limits b) (card_count b) 0
      (λ k l m. ap (merged_asked limits (Card k)) (cards k (omega arith))) in
      rw (form, count, reads, merges)

  pub same_cards : most_specific_cards limits case a ≡ most_specific_cards limits case b
  unfolding most_specific_cards most_specific minimal is_passed_over
  same_cards =
      ap (λ (n : ℕ). set_below (minimal (card_covers limits a) n (case_covered limits case a)) n) count
      ∙ (set_below_same (minimal (card_covers limits a) (card_count b) (case_covered limits case a))
      (minimal (card_covers limits b) (card_count b) (case_covered limits case b)) (card_count b)
      (λ k l.
      kept_same (case_covered limits case a k) (case_covered limits case b k) _ _ (rw (cards k l))
      (some_same (λ j. case_covered limits case a j && strict (card_covers limits a) k j)
      (λ j. case_covered limits case b j && strict (card_covers limits b) k j) (card_count b) 0
      (λ j m n. rw (cards k l, cards j (omega arith))))))
    where
      kept_same : (x y p q : Bool) → x ≡ y → p ≡ q → (x && not p) ≡ (y && not q)
      kept_same x y p q e f = rw (e, f)

-- ---- a case and a book

module _ (limits : Limits) (bounded : Bounded limits) (tbox : List ℕ) (empty : definition_count tbox ≡ 0)
    (form : definitions_form tbox ≡ true) (case book : List ℕ) where
  abbrev again : List ℕ
  again = unfolded_book limits tbox book

  -- what is asked before the first 14 is asked again
  book_again : (room : ℕ) →
      and_then (book_before limits tbox case book room) (most_specific_asked limits case book room)
      ≡ most_specific_asked limits case book room
  unfolding book_before book_asked
  book_again room =
      let enough = room_asked (leb (work_size limits) room) in
      let read = read_asked limits First case in
      let reads = asked_from (card_read limits book) (card_count book) 0 in
      let defs = definitions_asked limits tbox (case_and_cards case book) in
      let merged = and_then (merged_asked limits First case) (asked_from (card_merged limits book) (card_count book) 0) in
      in_front enough (and_then read (and_then (form_asked book) (and_then reads defs)))
      (and_then read (and_then (form_asked book) (and_then reads merged)))
      (λ e. in_front read (and_then (form_asked book) (and_then reads defs))
      (and_then (form_asked book) (and_then reads merged))
      (λ f. in_front (form_asked book) (and_then reads defs) (and_then reads merged)
      (λ g. in_front reads defs merged (λ h. ap (λ (a : Asked). and_then a merged) (nothing f h)))))
    where
      nothing : read_asked limits First case ≡ yes → asked_from (card_read limits book) (card_count book) 0 ≡ yes →
          definitions_asked limits tbox (case_and_cards case book) ≡ yes
      nothing f h =
          let cards = (from_yes (card_read limits book) (λ k. Readable limits (card book k))
          (λ k. (read_decides limits (Card k) (card book k)).yes) (card_count book) 0).0 h in
          empty_asked tbox empty form limits (case_and_cards case book) (
            (read_decides limits First case).yes.0 f,
            (cards_all (λ p. Readable limits p.file) book (card_count book) 0).1 cards,
          )

  -- all of it answered yes: the book of the unfolded cards has the same cards
  same_when : (room : ℕ) → book_before limits tbox case book room ≡ yes →
      (most_specific_asked limits (unfolded_file limits tbox case) again room ≡ most_specific_asked limits case book room)
      × (most_specific_cards limits (unfolded_file limits tbox case) again ≡ most_specific_cards limits case book)
  same_when room e =
      let (long, ok) = (before_decides limits tbox case book room).yes.0 e in
      let formed = unfolded_form limits bounded tbox case book ok ∙ sym ok.form in
      let count = unfolded_count_is limits bounded tbox case book ok in
      let each : (k : ℕ) → k < card_count book → card again k ≡ card book k =
      λ k l. unfolded_card limits bounded tbox case book ok k l ∙ empty_unfolded tbox empty limits (card book k) in
      rw (empty_unfolded tbox empty limits case) (
        ap (and_then (room_asked (leb (work_size limits) room))) (same_asked limits case again book formed count each),
        same_cards limits case again book formed count each,
      )

  pub empty_most_specific : (room : ℕ) →
      most_specific_under limits tbox case book room ≡ most_specific_answer limits case book room
  unfolding most_specific_under most_specific_answer
  empty_most_specific room = by (book_before limits tbox case book room) refl
    where
      by : (a : Asked) → book_before limits tbox case book room ≡ a →
          on_asked a (most_specific_answer limits (unfolded_file limits tbox case) again room)
          ≡ most_specific_answer limits case book room
      by (Ok _) e = let (asks, cards) = same_when room e in rw (asks, cards)
      by (Err r) e =
          let z : Err r ≡ most_specific_asked limits case book room =
          sym (ap (λ (a : Asked). and_then a (most_specific_asked limits case book room)) e) ∙ book_again room in
          ap (λ (a : Asked). on_asked a (Ok (most_specific_cards limits case book))) z

  pub empty_most_specific_work : (work : List ℕ) →
      most_specific_work_under limits tbox case book work ≡ most_specific_work limits case book work
  unfolding most_specific_work_under
  empty_most_specific_work work = by (book_before limits tbox case book (length work)) refl
    where
      by : (a : Asked) → book_before limits tbox case book (length work) ≡ a →
          kept a (most_specific_work limits (unfolded_file limits tbox case) again work) work
          ≡ most_specific_work limits case book work
      by (Ok _) e = let (asks, cards) = same_when (length work) e in rw asks
      by (Err r) e =
          let z : Err r ≡ most_specific_asked limits case book (length work) =
          sym (ap (λ (a : Asked). and_then a (most_specific_asked limits case book (length work))) e)
          ∙ book_again (length work) in
          ap (λ (a : Asked). kept a (put work 0 (zeros (work_size limits))) work) z
