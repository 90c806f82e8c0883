-- Where the tables of cards are while they are compared. Nobody has to believe these.
--   Comparable   the cards of a book have passed 2 to 14, unfolded, and tables are kept where the cache says
--   Inside       a spot has few rows and lies where it says
--   TableThere   the table of a picture is there
--   Stands       both
--   bytes_at     the bytes that are there
--   Checkable    they have all that a search needs
use Rattle.std.specs.Prelude.{ℕ, ◌+◌, ◌≤◌, length, List}
use Rattle.table.specs.Bounds.{Bounded, max_rows}
use Rattle.table.specs.Layout.{end_size, «place»}
use Rattle.table.specs.declared.layout.Limits.{Limits}
use Rattle.row_sets.specs.Rows.{Checked}
use Rattle.normal_writer.specs.Tables.{table_in}
use Rattle.under.specs.Book.{unfolded_book}
use Rattle.book_tables.specs.Cache.{Cached, CachedAt, TableAt}
use Rattle.book_tables.specs.Tables.{TakenUnder}
use Rattle.book_tables.specs.declared.cache.Cache.{Cache}
use Rattle.book_selection.specs.declared.spot.Spot.{Spot}
use Rattle.book_selection.specs.declared.spot.Spot.TheVariants.{Kept, Made}

pub record Comparable (limits : Limits) (tbox book : List ℕ) (cache : Cache) : Type 0 where
  pub bounded : Bounded limits
  pub taken : TakenUnder limits tbox book
  pub cached : Cached limits (unfolded_book limits tbox book) cache

abbrev pub Inside : Cache → List ℕ → Spot → Type 0
Inside cache part (Kept span) = (span.rows ≤ max_rows) × (span.start + place span.rows end_size ≤ length cache.tables.now)
Inside cache part (Made rows) = (rows ≤ max_rows) × (place rows end_size ≤ length part)

abbrev pub TableThere : Limits → List ℕ → Cache → List ℕ → Spot → Type 0
TableThere limits s cache part (Kept span) = CachedAt limits s cache.tables.now span cache.end
TableThere limits s cache part (Made rows) = TableAt limits s part rows

abbrev pub Stands : Limits → List ℕ → Cache → List ℕ → Spot → Type 0
Stands limits s cache part spot = Inside cache part spot × TableThere limits s cache part spot

abbrev pub bytes_at : Cache → List ℕ → Spot → List ℕ
bytes_at cache part (Kept span) = table_in cache.tables.now span.start span.rows
bytes_at cache part (Made rows) = table_in part 0 rows

abbrev pub Checkable : Cache → List ℕ → Spot → Type 0
Checkable cache part (Kept span) =
    (span.start + place span.rows end_size ≤ length cache.tables.now) × Checked (table_in cache.tables.now span.start span.rows) span.rows
Checkable cache part (Made rows) = (place rows end_size ≤ length part) × Checked (table_in part 0 rows) rows
