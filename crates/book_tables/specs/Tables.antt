-- What the parts of the call need and do. Nobody has to believe these.
--   CardsRead     the definitions and the cards are found, and each card has passed what is asked before the first 14
--   AllRead       and so has the case
--   BookTaken     the cards of a book have passed 2 to 14
--   TakenUnder    those of a book have, under a definitions book, with some case
--   covers_table   card k covers what a normal table is of
use Rattle.std.specs.Prelude.{◌<◌, ◌≤◌, ℕ, Bool, List}
use Rattle.table.specs.NameValues.{set_of}
use Rattle.table.specs.declared.layout.Limits.{Limits}
use Rattle.picture.specs.Readable.{Readable}
use Rattle.meaning.specs.NormalTable.{merged_count, normal_file}
use Rattle.homomorphism_search.specs.Search.{row_maps}
use Rattle.book.specs.Form.{card, card_count, card_tag}
use Rattle.definition_parts.specs.declared.opened.Tbox.{Tbox}
use Rattle.field_places.specs.Places.{Placed}
use Rattle.field_places.specs.declared.places.Fields.{Fields}
use Rattle.under.specs.Book.{AcceptableBookUnder, PreparedBook}
use Rattle.unfold_tables.specs.Ready.{Ready, Unfolding}

pub record CardsRead (limits : Limits) (tbox : Tbox) (book : List ℕ) (cards : Fields) : Type 0 where
  pub places_are : Placed card_tag book cards
  pub each : (k : ℕ) → k < cards.count →
      Unfolding limits tbox.bytes.now tbox.starts.now (set_of tbox.defined) (card book k)

pub record AllRead (limits : Limits) (tbox : Tbox) (case book : List ℕ) (cards : Fields) : Type 0 where
  pub ready : Ready limits tbox.bytes.now tbox.starts.now (set_of tbox.defined)
  pub places_are : Placed card_tag book cards
  pub prepared : PreparedBook limits tbox.bytes.now case book

pub record BookTaken (limits : Limits) (book : List ℕ) : Type 0 where
  pub readable : (k : ℕ) → k < card_count book → Readable limits (card book k)
  pub few : (k : ℕ) → k < card_count book → merged_count limits (card book k) ≤ limits.rows

pub record TakenUnder (limits : Limits) (tbox book : List ℕ) : Type 0 where
  pub case : List ℕ
  pub accepted : AcceptableBookUnder limits tbox case book

abbrev pub covers_table : Limits → List ℕ → List ℕ → ℕ → Bool
covers_table limits t book k = row_maps t (normal_file limits (card book k)) limits.depth 0 0
