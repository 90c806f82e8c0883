-- The questions that are left at each step of the call. Nobody has to believe these.
--   after_definitions   those after the definitions book's: 14 of the unfolded case and cards
--   after_cards         those after 2 to 13 of the cards
--   after_case          those after 2 to 13 of the case
--   BookRoom           what asking about the book needs
--   CardsRoom          what asking about the definitions book needs: the cards have passed 2 to 13
--   word_under          the word of the most specific cards, all of them unfolded
--   selected_on         a word of cards where all is answered yes, else the refusal
--   Left               what is answered, and what is left in the work space, by what the questions answer
use Rattle.std.specs.Prelude.{ℕ, ◌<◌, ◌≤◌, length, true, List, ◌≡◌, Ok, Result}
use Rattle.table.specs.declared.layout.Limits.{Limits}
use Rattle.table.specs.Bounds.{Bounded}
use Rattle.table.specs.Put.{put, zeros}
use Rattle.picture.specs.Asked.{and_then, asked_from, kept, on_asked, Asked}
use Rattle.picture.specs.Readable.{Readable}
use Rattle.workspace.specs.Prepare.{work_size}
use Rattle.picture.specs.declared.answer.Input.TheVariants.{First}
use Rattle.normal.specs.Call.{merged_asked}
use Rattle.book.specs.Call.{card_read, form_asked}
use Rattle.book.specs.Form.{book_form, card, card_count, card_tag}
use Rattle.book.specs.Selection.{most_specific_cards}
use Rattle.field_places.specs.Places.{Placed}
use Rattle.field_places.specs.declared.places.Fields.{Fields}
use Rattle.definitions.specs.Asked.{definitions_asked}
use Rattle.definitions.specs.Unfolded.{unfolded_file}
use Rattle.under.specs.Asked.{card_few}
use Rattle.picture.specs.declared.answer.Refusal.{Refusal}
use Rattle.under.specs.Book.{case_and_cards, unfolded_book}

module _ (limits : Limits) (tbox case book : List ℕ) where
  abbrev pub after_definitions : Asked
  after_definitions =
      and_then (merged_asked limits First (unfolded_file limits tbox case))
      (asked_from (card_few limits tbox book) (card_count book) 0)

  abbrev pub after_cards : Asked
  after_cards = and_then (definitions_asked limits tbox (case_and_cards case book)) after_definitions

  -- in the order of `mostSpecificAskedUnder`: all before the first 14, and then that
  abbrev pub after_case : Asked
  after_case =
      and_then (and_then (form_asked book)
      (and_then (asked_from (card_read limits book) (card_count book) 0)
      (definitions_asked limits tbox (case_and_cards case book))))
      after_definitions

  abbrev pub word_under : ℕ
  word_under = most_specific_cards limits (unfolded_file limits tbox case) (unfolded_book limits tbox book)

pub record BookRoom (limits : Limits) (case work : List ℕ) : Type 0 where
  pub bounded : Bounded limits
  pub readable : Readable limits case
  pub room : work_size limits ≤ length work

pub record CardsRoom (limits : Limits) (case book : List ℕ) (cards : Fields) (work : List ℕ) : Type 0 where
  pub book_room : BookRoom limits case work
  pub form : book_form book ≡ true
  pub places_are : Placed card_tag book cards
  pub cards_readable : (k : ℕ) → k < cards.count → Readable limits (card book k)

abbrev pub selected_on : Asked → ℕ → Result ℕ Refusal
selected_on a word = on_asked a (Ok word)

abbrev pub Left : Limits → ℕ → List ℕ → Asked → Result ℕ Refusal → List ℕ → Type 0
Left limits word work a r end =
    (r ≡ selected_on a word) × (end ≡ kept a (put work 0 (zeros (work_size limits))) work)
