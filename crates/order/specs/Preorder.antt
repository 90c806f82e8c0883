-- A preorder on the numbers below n, given by a test: `over i j` says that i covers j.
--   Preorder     each covers itself; what covers something that covers a third covers the third
--   strict       one covers another that does not cover it in return
--   is_passed_over   of the numbers that pass a test: k covers one of them strictly (02, U2)
--   minimal      k passes the test and is not passed over
use Rattle.std.specs.Prelude.{ℕ, ◌<◌, Bool, ◌&&◌, not, true, ◌≡◌}
use Rattle.table.specs.Range.{some}

pub record Preorder (over : ℕ → ℕ → Bool) (n : ℕ) : Type 0 where
  pub reflexive : (i : ℕ) → i < n → over i i ≡ true
  pub transitive : (i j k : ℕ) → i < n → j < n → k < n → over i j ≡ true → over j k ≡ true → over i k ≡ true

abbrev pub strict : (ℕ → ℕ → Bool) → ℕ → ℕ → Bool
strict over i j = over i j && not (over j i)

unfoldable pub is_passed_over : (ℕ → ℕ → Bool) → ℕ → (ℕ → Bool) → ℕ → Bool
is_passed_over over n test k = some (λ j. test j && strict over k j) n 0

unfoldable pub minimal : (ℕ → ℕ → Bool) → ℕ → (ℕ → Bool) → ℕ → Bool
minimal over n test k = test k && not (is_passed_over over n test k)
