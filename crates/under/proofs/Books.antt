-- The nearest cards under a definitions book: the book of the unfolded cards has as many cards, each unfolded, so its
-- nearest cards for the unfolded case are the nearest under the definitions book.
--   cards_all                    what is true of every card given, by its number
--   CaseNo, BeforeNo             the first no before 14: of the case, 24, of a card, of the definitions book; with 1
--   before_decides, before_refuses   all that is yes exactly with room and of a prepared book; what every refusal has
--   unfolded_form, unfolded_count_is, unfolded_card   the book of the unfolded cards
--   book_unfolded                it and the unfolded case are acceptable without a definitions book
--   case_covered_is, card_covered   covering under the definitions book is covering of the unfolded ones
--   most_specific_under_is          so a card is nearest under it exactly if it is nearest there
--   book_all, most_specific_all, most_specific_work_all   what is asked in all; then the word; the work space
--   book_order                   after what is asked before the first 14 comes 14 alone, of the unfolded case and cards
--   BookNo, book_decides, book_refuses   so all is yes exactly with room and of an acceptable book; the first no; what
--                                every refusal has
--   most_specific_same, most_specific_work_same    where a book is prepared, the call is that without a definitions
--                                book, for the unfolded case and the book of the unfolded cards
--   nearest_under                the word's bits are the nearest cards under the definitions book;
--   some_under                   it is not 0 exactly if some card covers the case;
--   below_each_under             each covering card covers a nearest one;
--   together_under               cards that cover each other are nearest together or not at all
use Prim.Native.Nat.{◌+◌, ◌<◌, ◌≤◌, suc, zero, ℕ}
use borrow.Author.Tests.{le-leb, leb-true}
use lib.Dec.{leb}
use lib.ListN.{get_or, length}
use mathlib.Core.Bool.{false, true}
use mathlib.Core.List.{List, []}
use mathlib.Core.Logic.{◌↔◌, ◌⊎◌, ⊎_elim}
use mathlib.Core.Path.{◌∙◌, ◌≡◌, ap, subst, sym}
use native.Mathlib.Nat.{eq-or-lt_of_le, zero-add}
use native.Mathlib.Omega.{arith}
use Rattle.std.proofs.Common.{Err, Ok}
use Rattle.table.proofs.Bools.{by_test}
use Rattle.table.specs.Bounds.{Bounded}
use Rattle.table.specs.NameSet.{has}
use Rattle.table.specs.Put.{put, zeros}
use Rattle.table.specs.declared.layout.Limits.{Limits}
use Rattle.picture.proofs.Keeping.{kept_then}
use Rattle.picture.proofs.Orders.{AllFrom, Decides, EveryRefusal, FirstFrom, Unreadable, and_decides, and_refuses}
use Rattle.picture.proofs.Orders.{asked_decides, asked_refuses, from_decides, from_refuses, from_same, from_yes}
use Rattle.picture.proofs.Orders.{on_then, read_decides, read_refuses, said_so, test_decides, then_same}
use Rattle.picture.proofs.Readables.{readable_size}
use Rattle.picture.specs.Asked.{and_then, asked_from, kept, on_asked, read_asked, room_asked, Asked, yes}
use Rattle.picture.specs.Readable.{FailsAt, Readable}
use Rattle.picture.specs.Refusal.{refusal_at, short_buffer, too_many}
use Rattle.picture.specs.declared.answer.Input.TheVariants.{Card, First}
use Rattle.picture.specs.declared.answer.Refusal.{Refusal}
use Rattle.meaning.specs.Covering.{Covers}
use Rattle.meaning.specs.NormalTable.{merged_count}
use Rattle.normal.proofs.Answers.{TooMany, merged_decides, merged_refuses}
use Rattle.normal.specs.Call.{merged_asked}
use Rattle.workspace.specs.Prepare.{work_size}
use Rattle.fields.specs.Form.{listed}
use Rattle.fields.proofs.Forms.{count_most}
use Rattle.fields.proofs.Listings.{length_listed, listed_at}
use Rattle.book.proofs.Selections.{below_each, most_specific_exactly, some_exactly, together}
use Rattle.book.proofs.WrittenBooks.{book_written}
use Rattle.book.specs.Call.{AcceptableBook, book_asked, card_merged, card_read, form_asked, most_specific_answer, most_specific_asked, most_specific_work, no_book}
use Rattle.book.specs.Form.{book_form, card, card_count, card_tag, most_length}
use Rattle.book.specs.Selection.{MostSpecific, most_specific_cards}
use Rattle.definitions.proofs.Coverings.{under_unfolded}
use Rattle.definitions.proofs.Unfolds.{unfolded_readable}
use Rattle.definitions.specs.Asked.{Picture, definitions_asked}
use Rattle.definitions.specs.Covering.{CoversUnder}
use Rattle.definitions.specs.Unfolded.{Unfolds, unfolded_file}
use Rattle.definitions.proofs.Questions.{OfDefinitions, definitions_decides, definitions_refuses}
use Rattle.definitions.specs.Refusals.{AllOf, DefinitionsNo}
use Rattle.under.specs.Asked.{card_few}
use Rattle.under.specs.Book.{AcceptableBookUnder, MostSpecificUnder, PreparedBook, book_before, case_and_cards}
use Rattle.under.specs.Book.{most_specific_under, most_specific_work_under, unfolded_book}

-- ---- what is asked

abbrev picture_of : List ℕ → ℕ → Picture
picture_of book k = record { input = Card k; file = card book k }

pub cards_all : (P : Picture → Type 0) (book : List ℕ) (more k : ℕ) →
    AllOf P (listed (picture_of book) more k) ↔ ((j : ℕ) → k ≤ j → j < k + more → P (picture_of book j))
cards_all P book zero k = (λ all j a b. absurd (omega arith), λ each. tt)
cards_all P book (suc more) k =
    let (to, from) = cards_all P book more (k + 1) in (
      λ (here, rest) j a b. ⊎_elim (λ (e : k ≡ j). subst (λ i. P (picture_of book i)) e here)
          (λ (l : k < j). to rest j (omega arith) (omega arith)) (eq-or-lt_of_le a),
      λ each. (each k (omega arith) (omega arith), from (λ j a b. each j (omega arith) (omega arith))),
    )

module _ (limits : Limits) (tbox case book : List ℕ) where
  abbrev Reads : ℕ → Type 0
  Reads k = Readable limits (card book k)

  abbrev given : Asked
  given = definitions_asked limits tbox (case_and_cards case book)

  abbrev reads : Asked
  reads = asked_from (card_read limits book) (card_count book) 0

  abbrev after_room : Asked
  after_room = and_then (read_asked limits First case) (and_then (form_asked book) (and_then reads given))

  -- the first no, question by question: 2 to 13 of the cards and what comes after; 24; the case
  abbrev CardsNo : Refusal → Type 0
  CardsNo r =
      FirstFrom Reads (λ k. Unreadable limits (Card k) (card book k)) (card_count book) 0 r
      ⊎ (AllFrom Reads (card_count book) 0 × DefinitionsNo limits tbox (case_and_cards case book) r)

  abbrev FormNo : Refusal → Type 0
  FormNo r = ((book_form book ≡ false) × (r ≡ no_book)) ⊎ ((book_form book ≡ true) × CardsNo r)

  abbrev pub CaseNo : Refusal → Type 0
  CaseNo r = Unreadable limits First case r ⊎ (Readable limits case × FormNo r)

  after_decides : Decides after_room (PreparedBook limits tbox case book) CaseNo
  after_decides =
      let unfolds = cards_all (λ p. Unfolds limits tbox p.file) book (card_count book) 0 in
      said_so after_room
      (and_decides (read_asked limits First case) (and_then (form_asked book) (and_then reads given))
      (read_decides limits First case)
      (λ c. and_decides (form_asked book) (and_then reads given) (asked_decides (book_form book) no_book)
      (λ f. and_decides reads given
      (from_decides (card_read limits book) Reads (λ k. Unreadable limits (Card k) (card book k)) (card_count book) 0
      (λ k a b. read_decides limits (Card k) (card book k)))
      (λ all. definitions_decides limits tbox (case_and_cards case book))))) (
        λ (c, (f, (all, (ok, (u, v))))). record {
          definable = ok;
          case_readable = c;
          form = f;
          cards_readable = λ k l. all k (omega arith) (omega arith);
          case_unfolds = u;
          cards_unfold = λ k l. unfolds.0 v k (omega arith) (omega arith);
        },
        λ ok. (
          ok.case_readable,
          (
            ok.form,
            (
              λ k a l. ok.cards_readable k (omega arith),
              (ok.definable, (ok.case_unfolds, unfolds.1 (λ k a l. ok.cards_unfold k (omega arith)))),
            ),
          ),
        ),
      )
      (λ r. (λ h. h, λ h. h))

  abbrev pub BeforeNo : ℕ → Refusal → Type 0
  BeforeNo room r = ((room < work_size limits) × (r ≡ short_buffer)) ⊎ ((work_size limits ≤ room) × CaseNo r)

  pub before_decides : (room : ℕ) → Decides (book_before limits tbox case book room)
      ((work_size limits ≤ room) × PreparedBook limits tbox case book) (BeforeNo room)
  unfolding book_before
  before_decides room =
      and_decides (room_asked (leb (work_size limits) room)) after_room
      (test_decides (work_size limits) room short_buffer) (λ long. after_decides)

  before_short : (room : ℕ) → leb (work_size limits) room ≡ false →
      book_before limits tbox case book room ≡ Err short_buffer
  unfolding book_before
  before_short room e = rw e

  -- 1; 2 to 13 of the case and of the cards, and where; 24; 25 to 30, and 2 to 13 of the definitions
  pub before_refuses : (P : Refusal → Type 0) → P short_buffer →
      ((q n : ℕ) → FailsAt limits case q n → P (refusal_at q First n)) → P no_book →
      ((k : ℕ) → k < card_count book → (q n : ℕ) → FailsAt limits (card book k) q n → P (refusal_at q (Card k) n)) →
      OfDefinitions limits tbox (case_and_cards case book) P →
      (room : ℕ) → EveryRefusal P (book_before limits tbox case book room)
  unfolding book_before
  before_refuses P short of-case none of-card of-book room =
      and_refuses P (room_asked (leb (work_size limits) room)) after_room
      (asked_refuses P (leb (work_size limits) room) short_buffer short)
      (and_refuses P (read_asked limits First case) (and_then (form_asked book) (and_then reads given))
      (read_refuses P limits First case of-case)
      (and_refuses P (form_asked book) (and_then reads given) (asked_refuses P (book_form book) no_book none)
      (and_refuses P reads given
      (from_refuses P (card_read limits book) (card_count book) 0
      (λ k a b. read_refuses P limits (Card k) (card book k) (of-card k (omega arith))))
      (definitions_refuses limits tbox (case_and_cards case book) P of-book))))

-- ---- the book of the unfolded cards

module _ (limits : Limits) (bounded : Bounded limits) (tbox case book : List ℕ)
    (ok : PreparedBook limits tbox case book) where
  abbrev unfolded_case : List ℕ
  unfolded_case = unfolded_file limits tbox case

  abbrev unfolded : ℕ → List ℕ
  unfolded k = unfolded_file limits tbox (card book k)

  abbrev again : List ℕ
  again = unfolded_book limits tbox book

  abbrev cards : List (List ℕ)
  cards = listed unfolded (card_count book) 0

  card_is : (k : ℕ) → k < card_count book → get_or cards k [] ≡ unfolded k
  card_is k l = listed_at unfolded [] (card_count book) 0 k l ∙ ap unfolded (zero-add k)

  card_readable : (k : ℕ) → k < card_count book → Readable limits (unfolded k)
  card_readable k l =
      unfolded_readable limits bounded tbox ok.definable (card book k) (ok.cards_readable k l)
      (ok.cards_unfold k l)

  written : (book_form again ≡ true) × (card_count again ≡ length cards)
      × ((k : ℕ) → k < length cards → card again k ≡ get_or cards k [])
  unfolding unfolded_book
  written =
      let n = length_listed unfolded (card_count book) 0 in
      book_written cards (omega (arith, n, count_most card_tag book))
      (λ k l.
      let b : k < card_count book = omega (arith, n) in
      subst (λ s. length s ≤ most_length) (sym (card_is k b))
      (omega (arith, readable_size limits (unfolded k) (card_readable k b), bounded.0)))

  pub unfolded_form : book_form again ≡ true
  unfolded_form = written.0

  pub unfolded_count_is : card_count again ≡ card_count book
  unfolded_count_is = written.1 ∙ length_listed unfolded (card_count book) 0

  pub unfolded_card : (k : ℕ) → k < card_count book → card again k ≡ unfolded k
  unfolded_card k l = written.2 k (omega (arith, length_listed unfolded (card_count book) 0)) ∙ card_is k l

  below : (k : ℕ) → k < card_count again → k < card_count book
  below k l = omega (arith, unfolded_count_is)

  above : (k : ℕ) → k < card_count book → k < card_count again
  above k l = omega (arith, unfolded_count_is)

  again_readable : (k : ℕ) → k < card_count again → Readable limits (card again k)
  again_readable k l =
      subst (λ s. Readable limits s) (sym (unfolded_card k (below k l))) (card_readable k (below k l))

  pub book_unfolded : merged_count limits unfolded_case ≤ limits.rows →
      ((k : ℕ) → k < card_count book → merged_count limits (unfolded k) ≤ limits.rows) →
      AcceptableBook limits unfolded_case again
  book_unfolded few each = record {
    case_readable =
        unfolded_readable limits bounded tbox ok.definable case ok.case_readable ok.case_unfolds;
    form = unfolded_form;
    cards_readable = again_readable;
    case_few = few;
    cards_few = λ k l.
        subst (λ s. merged_count limits s ≤ limits.rows) (sym (unfolded_card k (below k l))) (each k (below k l));
  }

  -- ---- covering

  pub case_covered_is : (k : ℕ) → k < card_count book →
      CoversUnder limits tbox (card book k) case ↔ Covers limits (card again k) unfolded_case
  case_covered_is k l =
      subst (λ s. CoversUnder limits tbox (card book k) case ↔ Covers limits s unfolded_case) (sym (unfolded_card k l))
      (under_unfolded limits bounded tbox ok.definable case (card book k) ok.case_readable
      (ok.cards_readable k l) ok.case_unfolds (ok.cards_unfold k l))

  pub card_covered : (k j : ℕ) → k < card_count book → j < card_count book →
      CoversUnder limits tbox (card book k) (card book j) ↔ Covers limits (card again k) (card again j)
  card_covered k j l m =
      subst (λ s. CoversUnder limits tbox (card book k) (card book j) ↔ Covers limits s (card again j))
      (sym (unfolded_card k l))
      (subst (λ s. CoversUnder limits tbox (card book k) (card book j) ↔ Covers limits (unfolded k) s)
      (sym (unfolded_card j m))
      (under_unfolded limits bounded tbox ok.definable (card book j) (card book k) (ok.cards_readable j m)
      (ok.cards_readable k l) (ok.cards_unfold j m) (ok.cards_unfold k l)))

  pub most_specific_under_is : (n : ℕ) →
      MostSpecificUnder limits tbox case book n ↔ MostSpecific limits unfolded_case again n
  most_specific_under_is n = (
    λ s. record {
      in_book = above n s.in_book;
      covers_case = (case_covered_is n s.in_book).0 s.covers_case;
      not_passed_over = λ p.
          let m = p.another in
          let l = below m p.other_in_book in
          s.not_passed_over (record {
            another = m;
            other_in_book = l;
            other_covers = (case_covered_is m l).1 p.other_covers;
            covered = (card_covered n m s.in_book l).1 p.covered;
            not_in_return = λ c. p.not_in_return ((card_covered m n l s.in_book).0 c);
          });
    },
    λ s.
        let b = below n s.in_book in
        record {
          in_book = b;
          covers_case = (case_covered_is n b).1 s.covers_case;
          not_passed_over = λ p.
              let m = p.another in
              let l = p.other_in_book in
              s.not_passed_over (record {
                another = m;
                other_in_book = above m l;
                other_covers = (case_covered_is m l).0 p.other_covers;
                covered = (card_covered n m b l).0 p.covered;
                not_in_return = λ c. p.not_in_return ((card_covered m n l b).1 c);
              });
        },
  )

-- ---- the call

module _ (limits : Limits) (bounded : Bounded limits) (tbox case book : List ℕ) where
  abbrev c : List ℕ
  c = unfolded_file limits tbox case

  abbrev b : List ℕ
  b = unfolded_book limits tbox book

  abbrev pub book_all : ℕ → Asked
  book_all room = and_then (book_before limits tbox case book room) (most_specific_asked limits c b room)

  pub most_specific_all : (room : ℕ) → most_specific_under limits tbox case book room
      ≡ on_asked (book_all room) (Ok (most_specific_cards limits c b))
  unfolding most_specific_under most_specific_answer
  most_specific_all room =
      on_then (book_before limits tbox case book room) (most_specific_asked limits c b room)
      (Ok (most_specific_cards limits c b))

  pub most_specific_work_all : (work : List ℕ) → most_specific_work_under limits tbox case book work
      ≡ kept (book_all (length work)) (put work 0 (zeros (work_size limits))) work
  unfolding most_specific_work_under
  most_specific_work_all work =
      kept_then (book_before limits tbox case book (length work)) (most_specific_asked limits c b (length work))
      (put work 0 (zeros (work_size limits))) work

  abbrev merged : Asked
  merged = and_then (merged_asked limits First c) (asked_from (card_few limits tbox book) (card_count book) 0)

  -- the unfolded case and cards are readable, and the book of the cards has the form: what is left is 14
  opened : (room : ℕ) → work_size limits ≤ room → PreparedBook limits tbox case book →
      most_specific_asked limits c b room ≡ merged
  unfolding book_asked
  opened room long ok =
      let read = (read_decides limits First c).yes.1
      (unfolded_readable limits bounded tbox ok.definable case ok.case_readable ok.case_unfolds) in
      let reads = (from_yes (card_read limits b) (λ k. Readable limits (card b k))
      (λ k. (read_decides limits (Card k) (card b k)).yes) (card_count b) 0).1
      (λ k a l. again_readable limits bounded tbox case book ok k (omega arith)) in
      let cards = ap (λ (n : ℕ). asked_from (card_merged limits b) n 0) (unfolded_count_is limits bounded tbox case book ok)
      ∙ from_same (card_merged limits b) (card_few limits tbox book) (card_count book) 0
      (λ k a l. ap (merged_asked limits (Card k)) (unfolded_card limits bounded tbox case book ok k (omega arith))) in
      rw (le-leb (work_size limits) room long, read, unfolded_form limits bounded tbox case book ok, reads)
      (ap (and_then (merged_asked limits First c)) cards)

  pub book_order : (room : ℕ) → book_all room ≡ and_then (book_before limits tbox case book room) merged
  book_order room =
      then_same (book_before limits tbox case book room) (most_specific_asked limits c b room) merged
      (λ e. let (long, ok) = (before_decides limits tbox case book room).yes.0 e in opened room long ok)

  abbrev Few : ℕ → Type 0
  Few k = merged_count limits (unfolded_file limits tbox (card book k)) ≤ limits.rows

  abbrev pub BookNo : ℕ → Refusal → Type 0
  BookNo room r =
      BeforeNo limits tbox case book room r
      ⊎ (((work_size limits ≤ room) × PreparedBook limits tbox case book)
      × (TooMany limits First c r
      ⊎ ((merged_count limits c ≤ limits.rows)
      × FirstFrom Few (λ k. TooMany limits (Card k) (unfolded_file limits tbox (card book k))) (card_count book) 0 r)))

  pub book_decides : (room : ℕ) → Decides (book_all room)
      ((work_size limits ≤ room) × AcceptableBookUnder limits tbox case book) (BookNo room)
  book_decides room =
      subst (λ a. Decides a ((work_size limits ≤ room) × AcceptableBookUnder limits tbox case book) (BookNo room))
      (sym (book_order room))
      (said_so (and_then (book_before limits tbox case book room) merged)
      (and_decides (book_before limits tbox case book room) merged (before_decides limits tbox case book room)
      (λ ok. and_decides (merged_asked limits First c) (asked_from (card_few limits tbox book) (card_count book) 0)
      (merged_decides limits First c)
      (λ few. from_decides (card_few limits tbox book) Few
      (λ k. TooMany limits (Card k) (unfolded_file limits tbox (card book k))) (card_count book) 0
      (λ k a l. merged_decides limits (Card k) (unfolded_file limits tbox (card book k)))))) (
        λ ((long, ok), (few, each)). (
          long,
          record { prepared = ok; case_few = few; cards_few = λ k l. each k (omega arith) (omega arith) },
        ),
        λ (long, a).
            ((long, a.prepared), (a.case_few, λ k m l. a.cards_few k (omega arith))),
      )
      (λ r. (λ h. h, λ h. h)))

  pub book_refuses : (P : Refusal → Type 0) (room : ℕ) → EveryRefusal P (book_before limits tbox case book room) →
      P (too_many First) → ((k : ℕ) → k < card_count book → P (too_many (Card k))) → EveryRefusal P (book_all room)
  book_refuses P room early many each =
      subst (EveryRefusal P) (sym (book_order room))
      (and_refuses P (book_before limits tbox case book room) merged early
      (and_refuses P (merged_asked limits First c) (asked_from (card_few limits tbox book) (card_count book) 0)
      (merged_refuses limits First c P many)
      (from_refuses P (card_few limits tbox book) (card_count book) 0
      (λ k a l. merged_refuses limits (Card k) (unfolded_file limits tbox (card book k)) P (each k (omega arith))))))

  module _ (ok : PreparedBook limits tbox case book) where
    -- 1 is asked again
    base_short : (room : ℕ) → leb (work_size limits) room ≡ false → most_specific_asked limits c b room ≡ Err short_buffer
    base_short room e = rw e

    yes_long : (room : ℕ) → leb (work_size limits) room ≡ true → book_before limits tbox case book room ≡ yes
    yes_long room e = (before_decides limits tbox case book room).yes.1 (leb-true (work_size limits) room e, ok)

    pub most_specific_same : (room : ℕ) →
        most_specific_under limits tbox case book room ≡ most_specific_answer limits c b room
    unfolding most_specific_under most_specific_answer
    most_specific_same room =
        by_test (leb (work_size limits) room) (λ e. rw (yes_long room e))
        (λ e. rw (before_short limits tbox case book room e, base_short room e))

    pub most_specific_work_same : (work : List ℕ) →
        most_specific_work_under limits tbox case book work ≡ most_specific_work limits c b work
    unfolding most_specific_work_under
    most_specific_work_same work =
        by_test (leb (work_size limits) (length work)) (λ e. rw (yes_long (length work) e))
        (λ e. rw (before_short limits tbox case book (length work) e, base_short (length work) e))

  -- ---- the word

  module _ (a : AcceptableBookUnder limits tbox case book) where
    abbrev ok : PreparedBook limits tbox case book
    ok = a.prepared

    base : AcceptableBook limits c b
    base = book_unfolded limits bounded tbox case book ok a.case_few a.cards_few

    pub nearest_under : (n : ℕ) →
        (has (most_specific_cards limits c b) n ≡ true) ↔ MostSpecificUnder limits tbox case book n
    nearest_under n =
        let (to, from) = most_specific_under_is limits bounded tbox case book ok n in
        let (there, back) = most_specific_exactly limits c b base n in
        (λ h. from (there h), λ s. back (to s))

    pub some_under : (most_specific_cards limits c b ≡ 0 → ⊥)
        ↔ ((k : ℕ) × (k < card_count book) × CoversUnder limits tbox (card book k) case)
    some_under =
        let (there, back) = some_exactly limits c b base in (
          λ u.
              let (k, l, h) = there u in
              let m = below limits bounded tbox case book ok k l in
              (k, m, (case_covered_is limits bounded tbox case book ok k m).1 h),
          λ (k, l, h).
              back (
                k,
                above limits bounded tbox case book ok k l,
                (case_covered_is limits bounded tbox case book ok k l).0 h,
              ),
        )

    pub below_each_under : (k : ℕ) → k < card_count book → CoversUnder limits tbox (card book k) case →
        (n : ℕ) × MostSpecificUnder limits tbox case book n × CoversUnder limits tbox (card book k) (card book n)
    below_each_under k l h =
        let (n, most, over) = below_each limits c b base k (above limits bounded tbox case book ok k l)
        ((case_covered_is limits bounded tbox case book ok k l).0 h) in
        let near = (most_specific_under_is limits bounded tbox case book ok n).1 most in
        (n, near, (card_covered limits bounded tbox case book ok k n l near.in_book).1 over)

    pub together_under : (m n : ℕ) → m < card_count book → n < card_count book →
        CoversUnder limits tbox (card book m) (card book n) → CoversUnder limits tbox (card book n) (card book m) →
        MostSpecificUnder limits tbox case book m → MostSpecificUnder limits tbox case book n
    together_under m n k l up down s =
        let covered = card_covered limits bounded tbox case book ok in
        (most_specific_under_is limits bounded tbox case book ok n).1
        (together limits c b m n (above limits bounded tbox case book ok n l) ((covered m n k l).0 up)
        ((covered n m l k).0 down) ((most_specific_under_is limits bounded tbox case book ok m).0 s))
