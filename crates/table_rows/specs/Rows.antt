-- What the code has of rows. Nobody has to believe these.
--   HasRow     whether row n stands in the table s
--   row_bytes   the bytes of a row that the code has by value
--   prefix     the bytes of the rows that a table under construction has
use Rattle.std.specs.Prelude.{◌<◌, ◌≤◌, ℕ, length, take, List}
use Rattle.table.specs.Bounds.{max_rows}
use Rattle.table.specs.Fields.{row_of}
use Rattle.table.specs.Layout.{row_size, «place»}
use Rattle.table.specs.NameValues.{set_of}
use Rattle.table.specs.declared.row.Row.{Row}

-- row n stands whole in the table
abbrev pub HasRow : List ℕ → ℕ → Type 0
HasRow s n = (n < max_rows) × (place n row_size ≤ length s)

-- of a row that the code has by value
abbrev pub row_bytes : Row → List ℕ
row_bytes r = row_of r.parent r.kind r.role r.impossible (set_of r.wanted) (set_of r.excluded)

abbrev pub prefix : ℕ → List ℕ → List ℕ
prefix rows out = take (place rows 0) out
