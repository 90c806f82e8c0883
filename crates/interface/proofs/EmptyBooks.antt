-- With the end field alone as the definitions book, every call is that without one (specs/Conditions: `EmptyWords`).
--   end_covers                      covering under it is covering
--   Below, word_below               a refusal's number is below 25, and so the question of the word of every call of
--                                   which each refusal's is
--   lent_below .. cards_below       so each refusal's is, by what is asked
--   empty_words                     all of it
use Prim.Native.Nat.{◌<◌, ℕ}
use lib.Dec.{leb}
use lib.ListN.{length}
use mathlib.Core.Bool.{Bool}
use mathlib.Core.List.{List, [], ◌∷◌}
use mathlib.Core.Logic.{◌↔◌, ⊎_elim}
use mathlib.Core.Path.{◌≡◌, ap, refl}
use native.Mathlib.Omega.{arith}
use Rattle.std.proofs.Common.{Err, Ok}
use Rattle.table.specs.Bounds.{Bounded, picture_size}
use Rattle.table.specs.Fields.{end_bytes}
use Rattle.table.specs.declared.layout.Limits.{Limits}
use Rattle.picture.proofs.Orders.{EveryRefusal, and_refuses, asked_refuses, from_refuses, from_yes, read_decides}
use Rattle.picture.proofs.Orders.{read_refuses, refuses_no}
use Rattle.picture.proofs.Readables.{failed_number}
use Rattle.picture.specs.Asked.{and_then, asked_from, read_asked, room_asked, Asked, yes}
use Rattle.picture.specs.Readable.{Readable}
use Rattle.picture.specs.Refusal.{short_buffer}
use Rattle.picture.specs.declared.answer.Input.{Input}
use Rattle.picture.specs.declared.answer.Input.TheVariants.{Card, First, Second}
use Rattle.picture.specs.declared.answer.Refusal.{Refusal}
use Rattle.meaning.specs.Covering.{Covers}
use Rattle.normal.proofs.Answers.{merged_refuses}
use Rattle.normal.specs.Call.{merged_asked}
use Rattle.workspace.specs.Lent.{roomy}
use Rattle.workspace.specs.Prepare.{work_size}
use Rattle.evidence.proofs.Refusals.{evidence_refuses}
use Rattle.evidence.specs.Call.{evidence_asked}
use Rattle.subsumption.specs.Verdict.{evidence_size}
use Rattle.lcs.specs.Call.{large_asked, too_large}
use Rattle.lcs.specs.Product.{lcs_count}
use Rattle.book.specs.Call.{card_read, form_asked, no_book}
use Rattle.book.specs.Form.{book_form, card, card_count}
use Rattle.definitions.proofs.Empty.{empty_asked, end_count, end_form}
use Rattle.definitions.proofs.Questions.{of_refuses}
use Rattle.definitions.specs.Asked.{Picture, asked_of, definitions_asked, read_of}
use Rattle.definitions.specs.Covering.{CoversUnder}
use Rattle.definitions.specs.Refusals.{AllOf}
use Rattle.definitions.specs.Unfolded.{unfolded_file}
use Rattle.under.proofs.Books.{cards_all}
use Rattle.under.proofs.Empty.{empty_lcs, empty_lcs_result, empty_lcs_work, empty_most_specific}
use Rattle.under.proofs.Empty.{empty_most_specific_work, empty_normalize, empty_normalize_result, empty_subsumes}
use Rattle.under.proofs.Empty.{empty_subsumes_result, empty_subsumes_work, empty_verify, empty_verify_work, under_read}
use Rattle.under.specs.Asked.{card_few, most_specific_asked_under, pair_asked_under}
use Rattle.under.specs.Book.{book_before, case_and_cards}
use Rattle.under.specs.Given.{lent_under, one, pair}
use Rattle.interface.specs.Answers.{Answers, Buffers, Call}
use Rattle.interface.specs.Calls.{lcs_word, most_specific_word, normalize_word, subsumes_word, verify_word}
use Rattle.interface.specs.Conditions.{EmptyWords}
use Rattle.interface.specs.Word.{common_word, normalized_word, outcome, question, selected_word, value}
use Rattle.interface.specs.Word.{value_range, value_word, verdict_word, verified_word}
use Rattle.interface.proofs.Answers.{cards_shape, lcs_shape, normalize_shape, subsumes_shape, verify_shape}
use Rattle.interface.proofs.Shapes.{shape_answers}

-- no interpretation is left out
end_covers : (limits : Limits) (first second : List ℕ) →
    CoversUnder limits end_bytes second first ↔ Covers limits second first
end_covers limits first second = (
  λ c I x l b. c I (λ k m. absurd (omega (arith, end_count))) x l b,
  λ c I respects x l b. c I x l b,
)

abbrev Below : Refusal → Type 0
Below r = r.number < 25

-- an answer's question is 0, a refusal's its number
value_question : (o v : ℕ) → v < value_range → question (value_word o v) ≡ 0
value_question o v small = omega arith

word_below : (c : Call) (lent left : Buffers) (word : ℕ) → Answers c lent left word →
    EveryRefusal Below (c.asks lent) → question word < 25
word_below c lent left word answers below =
    ⊎_elim (λ given. rw given.word_is (omega (arith, value_question (outcome word) (value word) (omega arith))))
    (λ refused.
    let small = refuses_no Below (c.asks lent) below refused.by refused.first_no in
    omega (arith, refused.question_is))
    answers

module _ (limits : Limits) where
  read_below : (input : Input) (s : List ℕ) → EveryRefusal Below (read_asked limits input s)
  read_below input s =
      read_refuses Below limits input s (λ q n f. omega (arith, (failed_number limits s q n f).most))

  few_below : (input : Input) (s : List ℕ) → EveryRefusal Below (merged_asked limits input s)
  few_below input s = merged_refuses limits input s Below (omega arith)

  room_below : (enough : Bool) → EveryRefusal Below (room_asked enough)
  room_below enough = asked_refuses Below enough short_buffer (omega arith)

  -- what is asked before the first 14 is 1, and 2 to 13 of the given pictures
  lent_below : (enough : Bool) (given : List Picture) → EveryRefusal Below (lent_under limits enough end_bytes given)
  unfolding lent_under
  lent_below enough given =
      rw (under_read limits end_bytes end_count end_form given)
      (and_refuses Below (room_asked enough) (asked_of (read_of limits) given) (room_below enough)
      (of_refuses (read_of limits) Below given (each given)))
    where
      each : (ps : List Picture) → AllOf (λ p. EveryRefusal Below (read_of limits p)) ps
      each [] = tt
      each (p ∷ ps) = (read_below p.input p.file, each ps)

  pair_below : (enough : Bool) (first second : List ℕ) →
      EveryRefusal Below (pair_asked_under limits end_bytes enough first second)
  pair_below enough first second =
      let p = unfolded_file limits end_bytes first in
      let q = unfolded_file limits end_bytes second in
      and_refuses Below (lent_under limits enough end_bytes (pair first second))
      (and_then (merged_asked limits First p) (merged_asked limits Second q)) (lent_below enough (pair first second))
      (and_refuses Below (merged_asked limits First p) (merged_asked limits Second q) (few_below First p)
      (few_below Second q))

  -- a question after those that are answered yes
  when_below : (a b : Asked) → EveryRefusal Below a → (a ≡ yes → EveryRefusal Below b) →
      EveryRefusal Below (and_then a b)
  when_below (Ok _) b h after = after refl
  when_below (Err r) b h after = h

  book_below : (case book : List ℕ) (room : ℕ) → EveryRefusal Below (book_before limits end_bytes case book room)
  unfolding book_before
  book_below case book room =
      when_below (room_asked (leb (work_size limits) room)) _ (room_below (leb (work_size limits) room))
      (λ long. when_below (read_asked limits First case) _ (read_below First case)
      (λ read. when_below (form_asked book) _ (asked_refuses Below (book_form book) no_book (omega arith))
      (λ form. when_below (asked_from (card_read limits book) (card_count book) 0) _
      (from_refuses Below (card_read limits book) (card_count book) 0 (λ k a b. read_below (Card k) (card book k)))
      (λ reads. rw (nothing read reads) tt))))
    where
      nothing : read_asked limits First case ≡ yes → asked_from (card_read limits book) (card_count book) 0 ≡ yes →
          definitions_asked limits end_bytes (case_and_cards case book) ≡ yes
      nothing read reads =
          empty_asked end_bytes end_count end_form limits (case_and_cards case book) (
            (read_decides limits First case).yes.0 read,
            (cards_all (λ p. Readable limits p.file) book (card_count book) 0).1
                ((from_yes (card_read limits book) (λ k. Readable limits (card book k))
                (λ k. (read_decides limits (Card k) (card book k)).yes) (card_count book) 0).0 reads),
          )

  cards_below : (case book : List ℕ) (room : ℕ) →
      EveryRefusal Below (most_specific_asked_under limits end_bytes case book room)
  cards_below case book room =
      let s = unfolded_file limits end_bytes case in
      and_refuses Below (book_before limits end_bytes case book room)
      (and_then (merged_asked limits First s) (asked_from (card_few limits end_bytes book) (card_count book) 0))
      (book_below case book room)
      (and_refuses Below (merged_asked limits First s) (asked_from (card_few limits end_bytes book) (card_count book) 0)
      (few_below First s)
      (from_refuses Below (card_few limits end_bytes book) (card_count book) 0
      (λ k a l. few_below (Card k) (unfolded_file limits end_bytes (card book k)))))

pub empty_words : (limits : Limits) → Bounded limits → EmptyWords limits
unfolding normalize_word subsumes_word lcs_word verify_word most_specific_word
empty_words limits bounded = record {
  normalize = λ picture room. ap normalized_word (empty_normalize limits end_bytes end_count end_form picture room);
  normalize_result_is = empty_normalize_result limits end_bytes end_count end_form;
  subsumes = λ first second work result.
      ap verdict_word (empty_subsumes limits end_bytes end_count end_form first second work result);
  subsumes_work_is = empty_subsumes_work limits end_bytes end_count end_form;
  subsumes_result_is = empty_subsumes_result limits end_bytes end_count end_form;
  lcs = λ first second work result.
      ap common_word (empty_lcs limits end_bytes end_count end_form first second work result);
  lcs_work_is = empty_lcs_work limits end_bytes end_count end_form;
  lcs_result_is = empty_lcs_result limits end_bytes end_count end_form;
  verify = λ first second evidence room.
      ap verified_word (empty_verify limits end_bytes end_count end_form first second evidence room);
  verify_work_is = empty_verify_work limits end_bytes end_count end_form;
  most_specific_is = λ case book room.
      ap selected_word (empty_most_specific limits bounded end_bytes end_count end_form case book room);
  most_specific_work_is = empty_most_specific_work limits bounded end_bytes end_count end_form;
  covers = end_covers limits;
  none_normalize = λ picture result.
      let s = unfolded_file limits end_bytes picture in
      let enough = leb (picture_size limits) (length result) in
      word_below _ _ _ _
      (shape_answers _ _ _ _ _
      (normalize_shape limits bounded end_bytes picture result _ _ (record { word_is = refl; buffer_is = refl })))
      (and_refuses Below (lent_under limits enough end_bytes (one picture)) (merged_asked limits First s)
      (lent_below limits enough (one picture)) (few_below limits First s));
  none_subsumes = λ first second work result.
      word_below _ _ _ _
      (shape_answers _ _ _ _ _
      (subsumes_shape limits bounded end_bytes first second work result _ _ _
      (record { word_is = refl; work_is = refl; result_is = refl })))
      (pair_below limits (roomy limits (evidence_size limits) (length work) (length result)) first second);
  none_lcs = λ first second work result.
      let p = unfolded_file limits end_bytes first in
      let q = unfolded_file limits end_bytes second in
      let enough = roomy limits (picture_size limits) (length work) (length result) in
      word_below _ _ _ _
      (shape_answers _ _ _ _ _
      (lcs_shape limits bounded end_bytes first second work result _ _ _
      (record { word_is = refl; work_is = refl; result_is = refl })))
      (and_refuses Below (pair_asked_under limits end_bytes enough first second) (large_asked limits p q)
      (pair_below limits enough first second)
      (asked_refuses Below (leb (lcs_count limits p q) limits.rows) too_large (omega arith)));
  none_verify = λ first second evidence work.
      let p = unfolded_file limits end_bytes first in
      let q = unfolded_file limits end_bytes second in
      let enough = leb (work_size limits) (length work) in
      word_below _ _ _ _
      (shape_answers _ _ _ _ _
      (verify_shape limits bounded end_bytes first second evidence work _ _
      (record { word_is = refl; buffer_is = refl })))
      (and_refuses Below (pair_asked_under limits end_bytes enough first second) (evidence_asked limits p q evidence)
      (pair_below limits enough first second)
      (evidence_refuses Below (λ n a b. omega arith) limits p q evidence));
  none_most_specific = λ case book work.
      word_below _ _ _ _
      (shape_answers _ _ _ _ _
      (cards_shape limits bounded end_bytes case book work _ _ (record { word_is = refl; buffer_is = refl })))
      (cards_below limits case book (length work));
}
