-- What the sixth call refuses, in the statements about it.
--   FirstNo   a question that is answered no, those before it being answered yes, what it names and, of 2 to 13, where
use Rattle.std.specs.Prelude.{◌<◌, ◌≤◌, ℕ, false, true, List, ◌≡◌}
use Rattle.table.specs.declared.layout.Limits.{Limits}
use Rattle.picture.specs.Refusal.{refusal_at, too_many}
use Rattle.picture.specs.Readable.{FailsAt, Readable}
use Rattle.picture.specs.declared.answer.Input.TheVariants.{Card, First}
use Rattle.picture.specs.declared.answer.Refusal.{Refusal}
use Rattle.meaning.specs.NormalTable.{merged_count}
use Rattle.book.specs.Call.{no_book}
use Rattle.book.specs.Form.{book_form, card, card_count}

pub data FirstNo (limits : Limits) (case book : List ℕ) : Refusal → Type 0 where
  -- 2 to 13 of the case
  case_unreadable : (q n : ℕ) → FailsAt limits case q n → FirstNo limits case book (refusal_at q First n)
  -- 24
  no_form : Readable limits case → book_form book ≡ false → FirstNo limits case book no_book
  -- 2 to 13 of card k
  card_unreadable : Readable limits case → book_form book ≡ true →
      (k q n : ℕ) → k < card_count book → ((j : ℕ) → j < k → Readable limits (card book j)) →
      FailsAt limits (card book k) q n → FirstNo limits case book (refusal_at q (Card k) n)
  -- 14 of the case
  case_many : Readable limits case → book_form book ≡ true → ((j : ℕ) → j < card_count book → Readable limits (card book j)) →
      limits.rows < merged_count limits case → FirstNo limits case book (too_many First)
  -- 14 of card k
  card_many : Readable limits case → book_form book ≡ true → ((j : ℕ) → j < card_count book → Readable limits (card book j)) →
      merged_count limits case ≤ limits.rows →
      (k : ℕ) → k < card_count book → ((j : ℕ) → j < k → merged_count limits (card book j) ≤ limits.rows) →
      limits.rows < merged_count limits (card book k) → FirstNo limits case book (too_many (Card k))
