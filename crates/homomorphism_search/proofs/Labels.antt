-- The label of a row, from what the code has of it. A set of names that is read is below 2 ^ name_count, so `set_at` leaves it as it is.
--   Read        a set as the code has it, of the number that stands in the file
--   low_same    it is that number's lowest bits
--   row_label   the label that the code reads is that of the row
--   carried_marked, carried_names   a marked label is carried by none; of one that is not marked the names decide
use Prim.Native.Nat.{◌%◌, ◌<◌, ◌^◌, ℕ}
use borrow.Author.Tests.{eq-eqb, ne_eqb}
use lib.Dec.{eqb}
use mathlib.Core.Bool.{Bool, ◌&&◌, and-false, and-true, false, not}
use mathlib.Core.List.{List}
use mathlib.Core.Path.{◌∙◌, ◌≡◌, ap, sym}
use native.Mathlib.Nat.{mod-eq_of_lt}
use Rattle.table.specs.Fields.{excluded_of, impossible_of, wanted_of}
use Rattle.table.specs.Layout.{name_count}
use Rattle.table.specs.NameSet.{subset}
use Rattle.table.specs.NameValues.{set_of}
use Rattle.row_sets.specs.declared.label.Label.{Label}
use Rattle.homomorphism_search.specs.Search.{RowLabel, label_carried}

abbrev pub Read : ℕ → ℕ → Type 0
Read set number = (set ≡ number) × (set < 2 ^ name_count)

pub low_same : (set number : ℕ) → Read set number → number % 2 ^ name_count ≡ set
low_same set number (e, l) = ap (λ n. n % 2 ^ name_count) (sym e) ∙ mod-eq_of_lt l

module _ (t : List ℕ) (w : ℕ) (label : Label) where
  pub row_label : (mark : ℕ) → Read (set_of label.wanted) (wanted_of t w) → Read (set_of label.excluded) (excluded_of t w) →
      label.bottom ≡ mark → mark ≡ impossible_of t w → RowLabel t w label
  row_label mark wants excludes same is =
      record {
        wanted_is = sym (low_same (set_of label.wanted) (wanted_of t w) wants);
        excluded_is = sym (low_same (set_of label.excluded) (excluded_of t w) excludes);
        bottom_is = ap (λ m. eqb m 1) (same ∙ is);
      }

  module _ (s : List ℕ) (u : ℕ) (stands : RowLabel t w label) where
    carried_label : label_carried s t w u
        ≡ (subset (set_of label.wanted) (wanted_of s u % 2 ^ name_count)
        && (subset (set_of label.excluded) (excluded_of s u % 2 ^ name_count) && not (eqb label.bottom 1)))
    unfolding label_carried
    carried_label = rw (stands.wanted_is, stands.excluded_is, stands.bottom_is)

    pub carried_marked : label.bottom ≡ 1 → label_carried s t w u ≡ false
    carried_marked marked = carried_label ∙ simp (eq-eqb label.bottom 1 marked, and-false)

    pub carried_names : (has lacks : ℕ) (r : Bool) → (label.bottom ≡ 1 → ⊥) → Read has (wanted_of s u) → Read lacks (excluded_of s u) →
        r ≡ subset (set_of label.wanted) has → label_carried s t w u ≡ (r && subset (set_of label.excluded) lacks)
    carried_names has lacks r other wants excludes told =
        carried_label
        ∙ simp (ne_eqb label.bottom 1 other, and-true, low_same has (wanted_of s u) wants, low_same lacks (excluded_of s u) excludes, told)
