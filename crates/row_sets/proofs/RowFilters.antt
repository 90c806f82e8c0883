-- The rows below a number that pass a test, as a list.
--   filter_same     tests that agree give the same rows
--   filter_none     a test that never passes gives none
--   member_filter   a row is in the list exactly if it passes
--   filter_yes      one row more
use Prim.Native.Nat.{◌+◌, ◌<◌, ℕ}
use lib.Dec.{T}
use mathlib.Core.Bool.{Bool, false, true}
use mathlib.Core.List.{[], ◌++◌, ◌∷◌, append-nil}
use mathlib.Core.Path.{◌≡◌, ap, refl, ◌∙◌}
use native.Mathlib.Omega.{arith}
use Rattle.table.specs.Pick.{pick}
use Rattle.table.proofs.Bools.{false_is}
use Rattle.ale.specs.Rows.{filter_below, member}
use Rattle.ale.proofs.RowLists.{filter_below_in, filter_below_out, filter_from_none, filter_from_same, filter_from_split}

pub filter_same : (q r : ℕ → Bool) (n : ℕ) → ((j : ℕ) → j < n → q j ≡ r j) → filter_below q n ≡ filter_below r n
filter_same q r n h = filter_from_same q r 0 n (λ j l b. h j (omega arith))

pub filter_none : (q : ℕ → Bool) (n : ℕ) → ((j : ℕ) → j < n → q j ≡ false) → filter_below q n ≡ []
filter_none q n h = filter_from_none q 0 n (λ j l b. false_is (q j) (h j (omega arith)))

same_test : (a b : Bool) → (T a → T b) → (T b → T a) → a ≡ b
same_test true true f g = refl
same_test true false f g = absurd (f tt)
same_test false true f g = absurd (g tt)
same_test false false f g = refl

pub member_filter : (q : ℕ → Bool) (n j : ℕ) → j < n → member j (filter_below q n) ≡ q j
member_filter q n j l = same_test (member j (filter_below q n)) (q j) (λ t. (filter_below_out q n j t).0) (λ t. filter_below_in q n j t l)

filter_next : (q : ℕ → Bool) (n : ℕ) → filter_below q (n + 1) ≡ filter_below q n ++ pick (q n) (n ∷ []) []
filter_next q n = filter_from_split q 0 n 1 (n + 1) n (omega arith) (omega arith)

pub filter_yes : (q : ℕ → Bool) (n : ℕ) → q n ≡ true → filter_below q (n + 1) ≡ filter_below q n ++ (n ∷ [])
filter_yes q n e = filter_next q n ∙ ap (λ (b : Bool). filter_below q n ++ pick b (n ∷ []) []) e

pub filter_no : (q : ℕ → Bool) (n : ℕ) → q n ≡ false → filter_below q (n + 1) ≡ filter_below q n
filter_no q n e = filter_next q n ∙ ap (λ (b : Bool). filter_below q n ++ pick b (n ∷ []) []) e ∙ append-nil (filter_below q n)
