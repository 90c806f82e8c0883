-- The tables of covering cards that are kept, and the test of the cards that finds them. Nobody has to believe these.
--   TableAt          the normal table of a picture, of so many rows, at the start of a part
--   CachedAt         one that is kept, at a span, before another
--   Cached           each card with a span has its table there, before where all end
--   with_span        the spans with that of card k
--   Findable         what finding the subsumers needs: 14 is answered yes for all, and the work space is there
--   CardsTestable    what testing all cards needs
--   SubsumersBelow   the cards below k are tested, the word has those that cover the case, and tables are kept where the
--                    spans say
use Rattle.std.specs.Prelude.{ℕ, ◌+◌, ◌≤◌, drop, get_or, length, set, take, List, ◌≡◌, None, Option, Some}
use Rattle.table.specs.Bounds.{picture_size}
use Rattle.table.specs.Layout.{end_size, «place»}
use Rattle.table.specs.declared.layout.Limits.{Limits}
use Rattle.meaning.specs.NormalTable.{merged_count, normal_file}
use Rattle.normal_writer.specs.Tables.{table_rows}
use Rattle.workspace.specs.Prepare.{work_size}
use Rattle.book.specs.Form.{card, card_tag}
use Rattle.table.specs.NameSet.{set_below}
use Rattle.table.specs.NameValues.{set_of}
use Rattle.definition_parts.specs.declared.opened.Tbox.{Tbox}
use Rattle.field_places.specs.Places.{Placed}
use Rattle.field_places.specs.declared.places.Fields.{Fields}
use Rattle.under.specs.Book.{AcceptableBookUnder, unfolded_book}
use Rattle.unfold_tables.specs.Ready.{Ready}
use Rattle.book_tables.specs.Tables.{TakenUnder, covers_table}
use Rattle.book_tables.specs.declared.cache.Cache.{Cache}
use Rattle.book_tables.specs.declared.cache.Span.{Span}

pub record TableAt (limits : Limits) (s part : List ℕ) (rows : ℕ) : Type 0 where
  pub few : merged_count limits s ≤ limits.rows
  pub rows_are : rows ≡ table_rows limits s
  pub is : take (place rows end_size) part ≡ normal_file limits s

pub record CachedAt (limits : Limits) (s tables : List ℕ) (span : Span) (end : ℕ) : Type 0 where
  pub ends : span.start + place span.rows end_size ≤ end
  pub table : TableAt limits s (drop span.start tables) span.rows

pub record Cached (limits : Limits) (book : List ℕ) (cache : Cache) : Type 0 where
  pub inside : cache.end ≤ length cache.tables.now
  pub each : (j : ℕ) (span : Span) → get_or cache.spans j None ≡ Some span →
      CachedAt limits (card book j) cache.tables.now span cache.end

abbrev pub with_span : List (Option Span) → ℕ → ℕ → ℕ → List (Option Span)
with_span spans k start rows = set spans k (Some (record { start = start; rows = rows }))

pub record Findable (limits : Limits) (tbox : Tbox) (case book : List ℕ) (cards : Fields) (work : List ℕ) : Type 0 where
  pub ready : Ready limits tbox.bytes.now tbox.starts.now (set_of tbox.defined)
  pub placed : Placed card_tag book cards
  pub accepted : AcceptableBookUnder limits tbox.bytes.now case book
  pub long : length work ≡ work_size limits

pub record CardsTestable (limits : Limits) (tbox : Tbox) (book : List ℕ) (cards : Fields) (rest : List ℕ) (cache : Cache)
    : Type 0 where
  pub ready : Ready limits tbox.bytes.now tbox.starts.now (set_of tbox.defined)
  pub placed : Placed card_tag book cards
  pub taken : TakenUnder limits tbox.bytes.now book
  pub room : picture_size limits ≤ length rest
  pub cached : Cached limits (unfolded_book limits tbox.bytes.now book) cache

pub record SubsumersBelow (limits : Limits) (t book : List ℕ) (word : ℕ) (cache : Cache) (k : ℕ) : Type 0 where
  pub word_is : word ≡ set_below (covers_table limits t book) k
  pub cached : Cached limits book cache
