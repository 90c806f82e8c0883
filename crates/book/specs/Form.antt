-- 01, "A card book: 0 to 32 fields tag 51, each a whole picture file, then the end field", and question 24, which asks
-- about heads, lengths and the number of fields only.
--   card_tag, most_cards     the tag of a card; how many a book may have
--   most_length, Short      the largest number of two bytes; each card's length is such a number
--   book_bytes              the book that is written from given cards
--   card, card_count        the value of field k; how many whole fields with the tag of a card stand at the start of the
--                          book, up to the most that it may have
--   cards_of                the cards of a book
--   book_form               24: the end field stands after them, and the file stops there
use Rattle.std.specs.Prelude.{ℕ, ◌<◌, ◌≤◌, get_or, length, Bool, List, [], ◌++◌, ◌∷◌}
use Rattle.table.specs.Fields.{end_bytes}
use Rattle.table.specs.Layout.{number_size}
use Rattle.table.specs.Number.{be_bytes}
use Rattle.fields.specs.Form.{field_count, field_value, fields_form, listed, most_fields}

abbrev pub card_tag : ℕ
card_tag = 0x51

abbrev pub most_cards : ℕ
most_cards = most_fields

-- ---- as it is written

abbrev pub most_length : ℕ
most_length = 65535

abbrev pub Short : List (List ℕ) → Type 0
Short cards = (j : ℕ) → j < length cards → length (get_or cards j []) ≤ most_length

abbrev pub book_bytes : List (List ℕ) → List ℕ
book_bytes [] = end_bytes
book_bytes (c ∷ cards) = card_tag ∷ (be_bytes number_size (length c) ++ (c ++ book_bytes cards))

-- ---- as it is read (proofs/WrittenBooks: `form-exactly`, `book-written`)

abbrev pub card : List ℕ → ℕ → List ℕ
card book k = field_value book k

abbrev pub card_count : List ℕ → ℕ
card_count book = field_count card_tag book

abbrev pub cards_of : List ℕ → List (List ℕ)
cards_of book = listed (card book) (card_count book) 0

abbrev pub book_form : List ℕ → Bool
book_form book = fields_form card_tag book
