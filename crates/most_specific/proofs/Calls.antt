-- Laws of the call as the code makes it, by its tests.
--   selected_word_is                                           the covering cards without those that are passed over are
--                                                           the most specific
--   covering_inside                                         a covering card is a card of the book
--   cleared_part                                            the work space, cleared
--   stopped, done, left_as                                  what is answered and left by what the questions answer
--   merged_refused, merged_passed, merged_accepted          14 of the case and of the cards
--   definitions_refused, definitions_passed, definitions_prepared    what is asked of the definitions book
--   form_refused, cards_refused, cards_room, cards_passed        24, and 2 to 13 of the cards
--   short_call, case_refused, case_readable, case_passed         1, and 2 to 13 of the case
use Prim.Native.Nat.{◌<◌, ◌≤◌, ℕ}
use borrow.Author.Tests.{le-leb, lt-leb, lt-ltb, ltb-true}
use lib.Dec.{ltb}
use lib.ListN.{drop, length}
use mathlib.Core.Bool.{Bool, ◌&&◌, and_assoc, false, not, true}
use mathlib.Core.List.{List, ◌++◌, ◌∷◌}
use mathlib.Core.Path.{◌∙◌, ◌≡◌, ap, refl, subst, sym}
use native.Mathlib.Omega.{arith}
use Rattle.std.proofs.Common.{Err, Ok, Result}
use Rattle.std.specs.Borrow.{Bor}
use Rattle.picture.specs.Refusal.{short_buffer}
use Rattle.picture.proofs.Orders.{and_yes, read_decides, refused_no, rows_yes, yes_to}
use Rattle.picture.proofs.ReadInTurn.{read_each}
use Rattle.picture.specs.Asked.{and_then, asked_from, Asked, yes}
use Rattle.picture.specs.Read.{answer_of}
use Rattle.picture.specs.Readable.{Readable}
use Rattle.picture.specs.declared.answer.Input.TheVariants.{Card, First}
use Rattle.picture.specs.declared.answer.Refusal.{Refusal}
use Rattle.table.proofs.Bools.{both}
use Rattle.table.proofs.Puts.{length_zeros, put_start}
use Rattle.table.proofs.Ranges.{some_same}
use Rattle.table.specs.Bounds.{Bounded}
use Rattle.table.specs.NameSet.{has, set_below}
use Rattle.table.specs.Put.{put, zeros}
use Rattle.table.specs.declared.layout.Limits.{Limits}
use Rattle.workspace.specs.Prepare.{work_size}
use Rattle.normal.proofs.Answers.{merged_decides}
use Rattle.normal.specs.Call.{merged_asked}
use Rattle.fields.specs.Form.{listed}
use Rattle.book.specs.Call.{card_read, no_book}
use Rattle.book.specs.Form.{book_form, card, card_count, card_tag}
use Rattle.order.specs.Preorder.{minimal, is_passed_over, strict}
use Rattle.book.specs.Selection.{card_covers, case_covered, most_specific, most_specific_cards}
use Rattle.definitions.proofs.Questions.{definitions_decides}
use Rattle.definitions.specs.Asked.{definitions_asked}
use Rattle.definitions.specs.Unfolded.{Unfolds, unfolded_file}
use Rattle.under.proofs.Asked.{most_specific_asked_is, most_specific_work_asked}
use Rattle.under.proofs.Books.{cards_all}
use Rattle.under.specs.Asked.{card_few, most_specific_asked_under}
use Rattle.under.specs.Book.{AcceptableBookUnder, PreparedBook, book_before, case_and_cards, most_specific_under}
use Rattle.under.specs.Book.{most_specific_work_under}
use Rattle.definitions_asked.specs.Given.{given_of}
use Rattle.definitions_asked.specs.declared.lots.Lot.TheVariants.{Cards}
use Rattle.book_tables.specs.Tables.{AllRead}
use Rattle.definition_parts.specs.declared.opened.Tbox.{Tbox}
use Rattle.most_specific.specs.Asking.{BookRoom, CardsRoom, Left, after_cards, after_case, after_definitions}
use Rattle.most_specific.specs.Asking.{word_under}
use Rattle.field_places.specs.Places.{Placed}
use Rattle.field_places.specs.declared.places.Fields.{Fields}
use Rattle.table.proofs.SetsBelow.{has_set_below, word_is}

-- ---- what is selected

pub cleared_part : (d : List ℕ) (size n : ℕ) → n ≡ size → zeros size ++ drop n d ≡ put d 0 (zeros size)
cleared_part d size n e =
    ap (λ (k : ℕ). zeros size ++ drop k d) (e ∙ sym (length_zeros size)) ∙ sym (put_start d (zeros size))

module _ (limits : Limits) (case book : List ℕ) (count covering : ℕ) (counted : count ≡ card_count book)
    (is : covering ≡ set_below (case_covered limits case book) count) where
  covering_has : (k : ℕ) → has covering k ≡ (ltb k count && case_covered limits case book k)
  covering_has k = ap (λ (w : ℕ). has w k) is ∙ has_set_below (case_covered limits case book) count k

  pub covering_inside : (k : ℕ) → has covering k ≡ true → k < card_count book
  covering_inside k h =
      let l = ltb-true k count (both (ltb k count) (case_covered limits case book k) (sym (covering_has k) ∙ h)).0 in
      omega (arith, l, counted)

  abbrev passed : (ℕ → Bool) → ℕ → Bool
  passed = is_passed_over (card_covers limits book) (card_count book)

  same_passed : (k : ℕ) → passed (has covering) k ≡ passed (case_covered limits case book) k
  unfolding is_passed_over
  same_passed k =
      some_same (λ j. has covering j && strict (card_covers limits book) k j)
      (λ j. case_covered limits case book j && strict (card_covers limits book) k j) (card_count book) 0
      (λ j a b. ap (λ (t : Bool). t && strict (card_covers limits book) k j)
      (covering_has j ∙ ap (λ (t : Bool). t && case_covered limits case book j)
      (lt-ltb j count (omega (arith, counted)))))

  pub selected_word_is : (r : ℕ) → ((k : ℕ) → has r k ≡ (has covering k && not (passed (has covering) k))) →
      r ≡ most_specific_cards limits case book
  unfolding most_specific_cards most_specific minimal
  selected_word_is r bits =
      word_is (most_specific limits case book) r (card_count book)
      (λ k.
      bits k
      ∙ ap (λ (t : Bool). has covering k && not t) (same_passed k)
      ∙ ap (λ (t : Bool). t && not (passed (case_covered limits case book) k)) (covering_has k)
      ∙ and_assoc (ltb k count) (case_covered limits case book k) (not (passed (case_covered limits case book) k))
      ∙ ap (λ (n : ℕ). ltb k n && most_specific limits case book k) counted)

-- ---- what is answered, and what is left in the work space, by what the questions answer

module _ (limits : Limits) (word : ℕ) (work : List ℕ) where
  pub stopped : (a : Asked) (r : Refusal) → a ≡ Err r → Left limits word work a (Err r) work
  stopped a r e = (rw e, rw e)

  pub done : (a : Asked) → a ≡ yes → (n : ℕ) (end : List ℕ) → n ≡ word → end ≡ put work 0 (zeros (work_size limits)) →
      Left limits word work a (Ok n) end
  done a e n end is cleared = (rw e (ap Ok is), rw e cleared)

  pub left_as : (a b : Asked) → a ≡ b → (r : Result ℕ Refusal) (end : List ℕ) → Left limits word work b r end →
      Left limits word work a r end
  left_as a b e r end = subst (λ q. Left limits word work q r end) (sym e)

-- ---- 14 of the case and of the cards

module _ (limits : Limits) (opened : Tbox) (case book : List ℕ) (cards : Fields)
    (so : AllRead limits opened case book cards) where
  abbrev tbox : List ℕ
  tbox = opened.bytes.now

  abbrev merged : Asked
  merged =
      and_then (merged_asked limits First (unfolded_file limits tbox case))
      (asked_from (card_few limits tbox book) cards.count 0)

  merged_is : after_definitions limits tbox case book ≡ merged
  merged_is =
      sym (ap (λ (n : ℕ). and_then (merged_asked limits First (unfolded_file limits tbox case))
      (asked_from (card_few limits tbox book) n 0)) so.places_are.counted)

  module _ (a : Asked) (is : a ≡ merged) where
    pub merged_refused : (r : Refusal) → a ≡ Err r → after_definitions limits tbox case book ≡ Err r
    merged_refused r e = merged_is ∙ sym is ∙ e

    module _ (e : a ≡ yes) where
      pub merged_passed : after_definitions limits tbox case book ≡ yes
      merged_passed = merged_is ∙ sym is ∙ e

      pub merged_accepted : AcceptableBookUnder limits tbox case book
      merged_accepted =
          let (here, rest) = (and_yes (merged_asked limits First (unfolded_file limits tbox case))
          (asked_from (card_few limits tbox book) cards.count 0)).0 (sym is ∙ e) in
          record {
            prepared = so.prepared;
            case_few = (merged_decides limits First (unfolded_file limits tbox case)).yes.0 here;
            cards_few = λ k l.
                (merged_decides limits (Card k) (unfolded_file limits tbox (card book k))).yes.0
                (yes_to (card_few limits tbox book) cards.count rest k
                (omega (arith, l, so.places_are.counted)));
          }

-- ---- what is asked of the definitions book

module _ (limits : Limits) (tbox case : List ℕ) (book : Bor (List ℕ)) (cards : Fields) (work : List ℕ)
    (so : CardsRoom limits case book.now cards work) where
  abbrev asks-given : Asked
  asks-given = definitions_asked limits tbox (given_of case (Cards book cards))

  asks_both : definitions_asked limits tbox (case_and_cards case book.now) ≡ asks-given
  asks_both =
      sym (ap (λ (n : ℕ). definitions_asked limits tbox
      (record { input = First; file = case } ∷ listed (λ k. record { input = Card k; file = card book.now k }) n 0))
      so.places_are.counted)

  pub definitions_refused : (r : Refusal) → asks-given ≡ Err r → after_cards limits tbox case book.now ≡ Err r
  definitions_refused r e = rw (asks_both, e)

  module _ (e : asks-given ≡ yes) where
    pub definitions_passed : after_cards limits tbox case book.now ≡ after_definitions limits tbox case book.now
    definitions_passed = rw (asks_both, e)

    pub definitions_prepared : PreparedBook limits tbox case book.now
    definitions_prepared =
        let (ok, (first, others)) =
        (definitions_decides limits tbox (case_and_cards case book.now)).yes.0 (asks_both ∙ e) in
        record {
          definable = ok;
          case_readable = so.book_room.readable;
          form = so.form;
          cards_readable = λ k l. so.cards_readable k (omega (arith, l, so.places_are.counted));
          case_unfolds = first;
          cards_unfold = λ k l.
              (cards_all (λ p. Unfolds limits tbox p.file) book.now (card_count book.now) 0).0 others k (omega arith)
              (omega arith);
        }

-- ---- 24, and 2 to 13 of the cards

module _ (limits : Limits) (tbox case book : List ℕ) where
  pub form_refused : book_form book ≡ false → after_case limits tbox case book ≡ Err no_book
  form_refused bad = rw bad

  module _ (good : book_form book ≡ true) (cards : Fields) (placed : Placed card_tag book cards)
      (a : Asked) (is : a ≡ asked_from (card_read limits book) cards.count 0) where
    cards_are : asked_from (card_read limits book) (card_count book) 0 ≡ a
    cards_are = ap (λ (n : ℕ). asked_from (card_read limits book) n 0) (sym placed.counted) ∙ sym is

    pub cards_refused : (r : Refusal) → a ≡ Err r → after_case limits tbox case book ≡ Err r
    cards_refused r e = rw (good, cards_are, e)

    pub cards_passed : a ≡ yes → after_case limits tbox case book ≡ after_cards limits tbox case book
    cards_passed e = rw (good, cards_are, e)

    pub cards_room : {work : List ℕ} → BookRoom limits case work → a ≡ yes → CardsRoom limits case book cards work
    cards_room room e =
        record {
          book_room = room;
          form = good;
          places_are = placed;
          cards_readable = read_each limits Card (card book) cards.count (sym is ∙ e);
        }

-- ---- the call by its tests

module _ (limits : Limits) (bounded : Bounded limits) (tbox case book work : List ℕ) where
  abbrev asks : Asked
  asks = most_specific_asked_under limits tbox case book (length work)

  abbrev Gives : Result ℕ Refusal → List ℕ → Type 0
  Gives r end =
      (r ≡ most_specific_under limits tbox case book (length work))
      × (end ≡ most_specific_work_under limits tbox case book work)

  gives : (a : Asked) → asks ≡ a → (r : Result ℕ Refusal) (end : List ℕ) →
      Left limits (word_under limits tbox case book) work a r end → Gives r end
  gives a e r end left =
      let (says, leaves) = left_as limits (word_under limits tbox case book) work asks a e r end left in (
        says ∙ sym (most_specific_asked_is limits bounded tbox case book (length work)),
        leaves ∙ sym (most_specific_work_asked limits bounded tbox case book work),
      )

  refused : (r : Refusal) → asks ≡ Err r → Gives (Err r) work
  refused r e =
      gives asks refl (Err r) work (stopped limits (word_under limits tbox case book) work asks r e)

  pub short_call : length work < work_size limits → Gives (Err short_buffer) work
  unfolding book_before
  short_call short = refused short_buffer (rw (lt-leb (work_size limits) (length work) short))

  module _ (long : work_size limits ≤ length work) (a : Result ℕ Refusal) (is : a ≡ answer_of limits First case) where
    pub case_refused : (r : Refusal) → a ≡ Err r → Gives (Err r) work
    unfolding book_before
    case_refused r e =
        refused r (rw (le-leb (work_size limits) (length work) long, refused_no limits First case r (sym is ∙ e)))

    pub case_readable : (n : ℕ) → a ≡ Ok n → Readable limits case
    case_readable n e = (read_decides limits First case).yes.0 (rows_yes limits First case n (sym is ∙ e))

    pub case_passed : (n : ℕ) → a ≡ Ok n → (r : Result ℕ Refusal) (end : List ℕ) →
        Left limits (word_under limits tbox case book) work (after_case limits tbox case book) r end → Gives r end
    unfolding book_before
    case_passed n e =
        gives (after_case limits tbox case book)
        (rw (le-leb (work_size limits) (length work) long, rows_yes limits First case n (sym is ∙ e)))
