-- Whether a row wants a defined name, as the code asks it.
--   asks                     the question of row k
--   asks_read                its answer, by the names that were read
--   wants_found, wants_none  of all rows
--   some_list                a test of a range is that of the list of its numbers
use Prim.Native.Nat.{◌+◌, ◌<◌, ◌^◌, suc, zero, ℕ}
use mathlib.Core.Bool.{Bool, ◌||◌, false, false≢true, true}
use mathlib.Core.List.{List}
use mathlib.Core.Path.{◌∙◌, ◌≡◌, ap, refl, sym}
use native.Mathlib.Omega.{arith}
use Rattle.std.specs.List.{list_any, range_with_len}
use Rattle.table.specs.Fields.{wanted_of}
use Rattle.table.specs.Layout.{name_count}
use Rattle.table.specs.NameValues.{overlap}
use Rattle.table.specs.Range.{some}
use Rattle.table.proofs.Bools.{by_test}
use Rattle.table.proofs.Ranges.{at_some, some_at}
use Rattle.picture.specs.Readable.{row_count}
use Rattle.meaning.specs.Meaning.{picture_table}
use Rattle.unfold_rows.specs.Takings.{wants_names}
use Rattle.unfold_rows.proofs.Copying.{set_whole}

module _ (s : List ℕ) (names : ℕ) where
  abbrev pub asks : ℕ → Bool
  asks k = overlap ((picture_table s).label k).wanted.set names

  pub asks_read : (k a : ℕ) (b : Bool) → a ≡ wanted_of s k → a < 2 ^ name_count → b ≡ overlap a names → b ≡ asks k
  asks_read k a b e l o = o ∙ sym (ap (λ z. overlap z names) (set_whole a (wanted_of s k) e l))

  pub wants_found : (k : ℕ) → k < row_count s → asks k ≡ true → true ≡ wants_names s names
  wants_found k l t = sym (at_some asks (row_count s) 0 k (omega arith) (omega arith) t)

  pub wants_none : ((k : ℕ) → k < row_count s → asks k ≡ false) → false ≡ wants_names s names
  wants_none none =
      by_test (wants_names s names)
      (λ t. let (k, a, b, f) = some_at asks (row_count s) 0 t in absurd (false≢true (sym (none k (omega arith)) ∙ f)))
      (λ f. sym f)

pub some_list : (f : ℕ → Bool) (n j : ℕ) → list_any f (range_with_len j n) ≡ some f n j
unfolding some
some_list f zero j = refl
some_list f (suc n) j = ap (λ b. f j || b) (some_list f n (j + 1))
