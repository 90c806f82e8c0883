-- A readable picture, and how many rows it has; and where one that is not fails.
--   Readable   questions 2 to 13 are answered yes
--   row_count   the rows of a file
--   FailsAt    question q is answered no for the field after n rows
use Rattle.std.specs.Prelude.{List, ◌≡◌, ℕ, ◌/◌, ◌<◌, length, Err, Ok}
use Rattle.table.specs.Layout.{row_size}
use Rattle.table.specs.declared.layout.Limits.{Limits}
use Rattle.picture.specs.declared.field.Field.TheVariants.{Row}
use Rattle.picture.specs.Questions.{field_at}
use Rattle.picture.specs.Read.{reading_of}

-- 01: a picture is readable when 2 to 13 are answered yes
pub record Readable (limits : Limits) (s : List ℕ) : Type 0 where
  pub rows : ℕ
  pub reads : reading_of limits s ≡ Ok rows

-- the rows of a file; the end field is shorter than a row
unfoldable pub row_count : List ℕ → ℕ
row_count s = length s / row_size

-- 02, U1, "the row being read (rows completed so far)": n rows pass all their questions, and the field after them
-- meets q
pub record FailsAt (limits : Limits) (s : List ℕ) (q n : ℕ) : Type 0 where
  pub completed : (k : ℕ) → k < n → (d : ℕ) × (field_at limits s k ≡ Ok (Row d))
  pub meets : field_at limits s n ≡ Err q
