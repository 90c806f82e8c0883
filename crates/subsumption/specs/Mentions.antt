-- The names that a picture mentions.
--   Wants, Excludes   a row of the file wants the name; excludes it
use Rattle.std.specs.Prelude.{◌<◌, ℕ, true, List, ◌≡◌}
use Rattle.table.specs.NameSet.{has}
use Rattle.picture.specs.Readable.{row_count}
use Rattle.meaning.specs.Meaning.{label_at}

abbrev pub Wants : List ℕ → ℕ → Type 0
Wants s n = (i : ℕ) × (i < row_count s) × (has (label_at s i).wanted.set n ≡ true)

abbrev pub Excludes : List ℕ → ℕ → Type 0
Excludes s n = (i : ℕ) × (i < row_count s) × (has (label_at s i).excluded.set n ≡ true)
