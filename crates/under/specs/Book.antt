-- 02, U3, the nearest cards under a definitions book.
--   case_and_cards                   the case and the cards as they are asked
--   book_before                     2 to 13 of the case, 24, 2 to 13 of the cards, then the questions of the definitions
--                                  book
--   PreparedBook                   that is answered yes
--   AcceptableBookUnder            and so is 14, of the unfolded case and cards
--   unfolded_book                   the book of the unfolded cards, in the same order: a list to speak of, never made
--   MostSpecificUnder              card n is nearest, with covering under definitions
--   most_specific_under, most_specific_work_under   the answer and the work space: those of the call without a definitions
--                                  book, for the unfolded case and the unfolded cards
use Rattle.std.specs.Prelude.{ℕ, ◌<◌, ◌≤◌, leb, length, true, List, ◌∷◌, ◌≡◌, Result}
use Rattle.table.specs.declared.layout.Limits.{Limits}
use Rattle.picture.specs.Asked.{and_then, asked_from, kept, on_asked, read_asked, room_asked, Asked}
use Rattle.picture.specs.Readable.{Readable}
use Rattle.picture.specs.declared.answer.Input.TheVariants.{Card, First}
use Rattle.meaning.specs.NormalTable.{merged_count}
use Rattle.workspace.specs.Prepare.{work_size}
use Rattle.fields.specs.Form.{listed}
use Rattle.book.specs.Call.{card_read, form_asked, most_specific_answer, most_specific_work}
use Rattle.book.specs.Form.{book_bytes, book_form, card, card_count}
use Rattle.book.specs.Selection.{MostSpecificBy}
use Rattle.definitions.specs.Asked.{Picture, definitions_asked}
use Rattle.definitions.specs.Covering.{CoversUnder}
use Rattle.picture.specs.declared.answer.Refusal.{Refusal}
use Rattle.definitions.specs.Unfolded.{Definable, Unfolds, unfolded_file}

abbrev pub case_and_cards : List ℕ → List ℕ → List Picture
case_and_cards case book =
    record { input = First; file = case }
    ∷ listed (λ k. record { input = Card k; file = card book k }) (card_count book) 0

unfoldable pub book_before : Limits → List ℕ → List ℕ → List ℕ → ℕ → Asked
book_before limits tbox case book room =
    and_then (room_asked (leb (work_size limits) room))
    (and_then (read_asked limits First case)
    (and_then (form_asked book)
    (and_then (asked_from (card_read limits book) (card_count book) 0)
    (definitions_asked limits tbox (case_and_cards case book)))))

pub record PreparedBook (limits : Limits) (tbox case book : List ℕ) : Type 0 where
  pub definable : Definable limits tbox
  pub case_readable : Readable limits case
  pub form : book_form book ≡ true
  pub cards_readable : (k : ℕ) → k < card_count book → Readable limits (card book k)
  pub case_unfolds : Unfolds limits tbox case
  pub cards_unfold : (k : ℕ) → k < card_count book → Unfolds limits tbox (card book k)

pub record AcceptableBookUnder (limits : Limits) (tbox case book : List ℕ) : Type 0 where
  pub prepared : PreparedBook limits tbox case book
  pub case_few : merged_count limits (unfolded_file limits tbox case) ≤ limits.rows
  pub cards_few : (k : ℕ) → k < card_count book →
      merged_count limits (unfolded_file limits tbox (card book k)) ≤ limits.rows

unfoldable pub unfolded_book : Limits → List ℕ → List ℕ → List ℕ
unfolded_book limits tbox book = book_bytes (listed (λ k. unfolded_file limits tbox (card book k)) (card_count book) 0)

abbrev pub MostSpecificUnder : Limits → List ℕ → List ℕ → List ℕ → ℕ → Type 0
MostSpecificUnder limits tbox case book =
    MostSpecificBy (card_count book) (λ k. CoversUnder limits tbox (card book k) case)
    (λ k j. CoversUnder limits tbox (card book k) (card book j))

unfoldable pub most_specific_under : Limits → List ℕ → List ℕ → List ℕ → ℕ → Result ℕ Refusal
most_specific_under limits tbox case book room =
    on_asked (book_before limits tbox case book room)
    (most_specific_answer limits (unfolded_file limits tbox case) (unfolded_book limits tbox book) room)

unfoldable pub most_specific_work_under : Limits → List ℕ → List ℕ → List ℕ → List ℕ → List ℕ
most_specific_work_under limits tbox case book work =
    kept (book_before limits tbox case book (length work))
    (most_specific_work limits (unfolded_file limits tbox case) (unfolded_book limits tbox book) work) work
