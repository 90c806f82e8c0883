-- 01, "Order: 1; first (or case); second, or 24 and the cards in turn; 14 for each in that order; then 15 or 16 to 23", of a
-- case and a book: the answer, and what the work space holds then.
--   AcceptableBook         2 to 13, 24 and 14 are answered yes for the case, the book and every card
--   no_book, form_asked      24; it names the book
--   card_read, card_merged   2 to 13 and 14 of card k
--   book_asked              the case; 24; the cards in turn; 14 of the case, then of the cards
--   most_specific_asked      1, and those
--   most_specific_answer     the word of the most specific cards, after these
--   most_specific_work       the work space: zero up to the length named where all is answered yes; else nothing written
use Rattle.std.specs.Prelude.{ℕ, ◌<◌, ◌≤◌, leb, length, true, List, ◌≡◌, Ok, Result}
use Rattle.table.specs.Put.{put, zeros}
use Rattle.table.specs.declared.layout.Limits.{Limits}
use Rattle.picture.specs.Asked.{and_then, asked, asked_from, kept, on_asked, read_asked, room_asked, Asked}
use Rattle.picture.specs.Readable.{Readable}
use Rattle.picture.specs.Refusal.{refusal}
use Rattle.picture.specs.declared.answer.Input.TheVariants.{Book, Card, First}
use Rattle.picture.specs.declared.answer.Refusal.{Refusal}
use Rattle.meaning.specs.NormalTable.{merged_count}
use Rattle.normal.specs.Call.{merged_asked}
use Rattle.workspace.specs.Prepare.{work_size}
use Rattle.book.specs.Form.{book_form, card, card_count}
use Rattle.book.specs.Selection.{most_specific_cards}

pub record AcceptableBook (limits : Limits) (case book : List ℕ) : Type 0 where
  pub case_readable : Readable limits case
  pub form : book_form book ≡ true
  pub cards_readable : (k : ℕ) → k < card_count book → Readable limits (card book k)
  pub case_few : merged_count limits case ≤ limits.rows
  pub cards_few : (k : ℕ) → k < card_count book → merged_count limits (card book k) ≤ limits.rows

abbrev pub no_book : Refusal
no_book = refusal 24 Book

abbrev pub form_asked : List ℕ → Asked
form_asked book = asked (book_form book) no_book

abbrev pub card_read : Limits → List ℕ → ℕ → Asked
card_read limits book k = read_asked limits (Card k) (card book k)

abbrev pub card_merged : Limits → List ℕ → ℕ → Asked
card_merged limits book k = merged_asked limits (Card k) (card book k)

unfoldable pub book_asked : Limits → List ℕ → List ℕ → Asked
book_asked limits case book =
    and_then (read_asked limits First case)
    (and_then (form_asked book)
    (and_then (asked_from (card_read limits book) (card_count book) 0)
    (and_then (merged_asked limits First case)
    (asked_from (card_merged limits book) (card_count book) 0))))

abbrev pub most_specific_asked : Limits → List ℕ → List ℕ → ℕ → Asked
most_specific_asked limits case book room = and_then (room_asked (leb (work_size limits) room)) (book_asked limits case book)

unfoldable pub most_specific_answer : Limits → List ℕ → List ℕ → ℕ → Result ℕ Refusal
most_specific_answer limits case book room =
    on_asked (most_specific_asked limits case book room) (Ok (most_specific_cards limits case book))

abbrev pub most_specific_work : Limits → List ℕ → List ℕ → List ℕ → List ℕ
most_specific_work limits case book work =
    kept (most_specific_asked limits case book (length work)) (put work 0 (zeros (work_size limits))) work
