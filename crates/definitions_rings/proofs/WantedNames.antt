-- The names that some row of a picture wants, row by row.
--   Wants                    a set has the names that the first k rows want
--   wants_start, wants_more  none; one row more
--   row_counted              a row below the number that the length says
--   wants_used               those of all rows, where they are defined: `usedIn`
use Prim.Native.Nat.{◌%◌, ◌+◌, ◌/◌, ◌<◌, ◌^◌, ◌≤◌, ℕ}
use native.Mathlib.Nat.{mod-eq_of_lt}
use native.Mathlib.Omega.{arith}
use lib.ListN.{length}
use mathlib.Core.Bool.{Bool, ◌&&◌, ◌||◌}
use mathlib.Core.List.{List}
use mathlib.Core.Path.{◌∙◌, ◌≡◌, ap, sym}
use Rattle.table.specs.Fields.{wanted_of}
use Rattle.table.specs.Layout.{name_count, row_size}
use Rattle.table.specs.NameSet.{has, intersection, none, union}
use Rattle.table.specs.Range.{some}
use Rattle.table.proofs.NameSets.{has_intersection, has_none, has_union}
use Rattle.table.proofs.Tests.{and_comm}
use Rattle.picture.specs.Readable.{row_count}
use Rattle.definitions_rings.specs.Rings.{used_in}
use Rattle.definitions_rings.proofs.SettledSets.{some_more}

module _ (s : List ℕ) where
  abbrev wants_at : ℕ → ℕ → Bool
  wants_at m k = has (wanted_of s k % 2 ^ name_count) m

  pub record Wants (k set : ℕ) : Type 0 where
    pub has_each : (m : ℕ) → has set m ≡ some (wants_at m) k 0

  pub wants_start : Wants 0 none
  unfolding some
  wants_start = record { has_each = has_none }

  pub wants_more : (k set row : ℕ) → Wants k set → row ≡ wanted_of s k → row < 2 ^ name_count →
      Wants (k + 1) (union set row)
  wants_more k set row w e l = record {
    has_each = λ m.
        has_union set row m
        ∙ ap (λ (b : Bool). b || has row m) (w.has_each m)
        ∙ ap (λ (n : ℕ). some (wants_at m) k 0 || has n m) (sym (mod-eq_of_lt l) ∙ ap (λ (n : ℕ). n % 2 ^ name_count) e)
        ∙ ap (λ (j : ℕ). some (wants_at m) k 0 || wants_at m j) (let z : k ≡ 0 + k = omega arith in z)
        ∙ sym (some_more (wants_at m) k 0);
  }

  pub row_counted : (k : ℕ) → k < length s / row_size → k < row_count s
  unfolding row_count
  row_counted k l = l

  pub wants_used : (k set defined : ℕ) → Wants k set → k ≤ length s / row_size → length s / row_size ≤ k →
      (m : ℕ) → has (intersection set defined) m ≡ used_in s defined m
  unfolding row_count
  wants_used k set defined w l u m =
      let e : k ≡ length s / row_size = omega arith in
      has_intersection set defined m
      ∙ ap (λ (b : Bool). b && has defined m) (w.has_each m ∙ ap (λ (n : ℕ). some (wants_at m) n 0) e)
      ∙ and_comm (some (wants_at m) (length s / row_size) 0) (has defined m)
