-- The names that hold of an individual, against the label of a row, from what the code has of both. A set of names that is read is below
-- 2 ^ name_count, so `set_at` leaves it as it is.
--   satisfies_bottom                       a marked row is not satisfied
--   satisfies_lacks                        nor is one of which a wanted name does not hold
--   satisfies_held                         else the excluded names decide
use Prim.Native.Nat.{◌%◌, ◌^◌, ℕ}
use borrow.Author.Tests.{eq-eqb, ne_eqb}
use lib.Bits.{bit_and}
use lib.Dec.{eqb}
use mathlib.Core.Bool.{Bool, ◌&&◌, and-false, and-true, false, not, true}
use mathlib.Core.List.{List}
use mathlib.Core.Path.{◌∙◌, ◌≡◌, refl, sym}
use Rattle.table.proofs.NameSets.{subset_none}
use Rattle.table.specs.Layout.{name_count}
use Rattle.table.specs.NameSet.{intersection, none, subset}
use Rattle.table.specs.NameValues.{overlap, set_of}
use Rattle.row_sets.specs.declared.label.Label.{Label}
use Rattle.homomorphism_search.proofs.Labels.{Read, low_same}
use Rattle.homomorphism_search.specs.Search.{RowLabel}
use Rattle.countermodel.specs.Individual.{individual_names}
use Rattle.model_check.specs.ModelRows.{satisfies_row}

not_not : (b : Bool) → b ≡ not (not b)
not_not true = refl
not_not false = refl

abbrev label_test : ℕ → ℕ → ℕ → Bool → Bool
label_test wanted excluded held bottom = subset wanted held && (subset (intersection excluded held) none && not bottom)

module _ (t : List ℕ) (w : ℕ) (label : Label) where
  module _ (e : List ℕ) (i : ℕ) (stands : RowLabel t w label) where
    satisfies_label : satisfies_row t w e i
        ≡ label_test (set_of label.wanted) (set_of label.excluded) (individual_names e i % 2 ^ name_count) (eqb label.bottom 1)
    unfolding satisfies_row
    satisfies_label = rw (stands.wanted_is, stands.excluded_is, stands.bottom_is)

    pub satisfies_bottom : label.bottom ≡ 1 → satisfies_row t w e i ≡ false
    satisfies_bottom marked =
        satisfies_label
        ∙ rw (eq-eqb label.bottom 1 marked, and-false (subset (intersection (set_of label.excluded) (individual_names e i % 2 ^ name_count)) none))
        (and-false (subset (set_of label.wanted) (individual_names e i % 2 ^ name_count)))

    module _ (held : ℕ) (held-is : Read held (individual_names e i)) where
      satisfies_is : satisfies_row t w e i ≡ label_test (set_of label.wanted) (set_of label.excluded) held (eqb label.bottom 1)
      satisfies_is = satisfies_label ∙ rw (low_same held (individual_names e i) held-is)

      pub satisfies_lacks : (r : Bool) → r ≡ subset (set_of label.wanted) held → r ≡ false → satisfies_row t w e i ≡ false
      satisfies_lacks r is h = satisfies_is ∙ rw (sym is ∙ h)

      pub satisfies_held : (r o : Bool) → r ≡ subset (set_of label.wanted) held → r ≡ true → o ≡ overlap (set_of label.excluded) held →
          (label.bottom ≡ 1 → ⊥) → satisfies_row t w e i ≡ not o
      satisfies_held r o is h over other =
          satisfies_is
          ∙ rw (sym is ∙ h, ne_eqb label.bottom 1 other, subset_none (intersection (set_of label.excluded) held), over, sym (not_not (eqb (bit_and (set_of label.excluded) held) 0)))
          (and-true (eqb (bit_and (set_of label.excluded) held) 0))
