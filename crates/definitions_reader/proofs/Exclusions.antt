-- 27 of a picture, by the set of the defined names.
--   load_excluded    a row's excluded names are those of the set that was loaded
--   excluded_read    so is what is asked of them
--   excluded_asked   27 at the set of the defined names is 27 of the book
use Prim.Native.Nat.{◌%◌, ◌<◌, ◌^◌, ℕ}
use mathlib.Core.Bool.{Bool}
use mathlib.Core.List.{List}
use mathlib.Core.Path.{◌∙◌, ◌≡◌, ap, sym}
use native.Mathlib.Nat.{mod-eq_of_lt}
use Rattle.table.specs.Fields.{excluded_of}
use Rattle.table.specs.Layout.{name_count}
use Rattle.table.specs.NameValues.{overlap}
use Rattle.definitions.specs.Tbox.{defined_word}
use Rattle.definitions.specs.Unfolded.{excludes_none}
use Rattle.definitions_reader.specs.Excluded.{excludes_at, excludes_none_of}

pub load_excluded : (picture : List ℕ) (names j loaded : ℕ) → loaded ≡ excluded_of picture j → loaded < 2 ^ name_count →
    excludes_at picture names j ≡ overlap loaded names
load_excluded picture names j loaded e l =
    ap (λ n. overlap n names) (ap (λ n. n % 2 ^ name_count) (sym e) ∙ mod-eq_of_lt l)

pub excluded_read : (picture : List ℕ) (names j loaded : ℕ) (b : Bool) → loaded ≡ excluded_of picture j →
    loaded < 2 ^ name_count → b ≡ overlap loaded names → excludes_at picture names j ≡ b
excluded_read picture names j loaded b e l o = load_excluded picture names j loaded e l ∙ sym o

pub excluded_asked : (tbox picture : List ℕ) (defined : ℕ) → defined ≡ defined_word tbox →
    excludes_none_of picture defined ≡ excludes_none tbox picture
unfolding excludes_none
excluded_asked tbox picture defined d = ap (excludes_none_of picture) d
