-- 27 at a set of names.
--   excludes_at, excludes_none_of   a row of a picture excludes one of some names; no row does
use Rattle.std.specs.Prelude.{ℕ, Bool, not, List}
use Rattle.table.specs.NameValues.{overlap}
use Rattle.table.specs.Range.{each}
use Rattle.meaning.specs.Meaning.{picture_table}

abbrev pub excludes_at : List ℕ → ℕ → ℕ → Bool
excludes_at picture names j = overlap ((picture_table picture).label j).excluded.set names

abbrev pub excludes_none_of : List ℕ → ℕ → Bool
excludes_none_of picture names = each (λ j. not (excludes_at picture names j)) (picture_table picture).rows 0
