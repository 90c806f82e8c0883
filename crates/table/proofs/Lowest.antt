-- The lowest bit of a word.
--   zeros_clear, zeros_found   of the zeros below it, in as many bits as are counted
--   lowest_clear, lowest_set   below it there is none; it is one
use Prim.Native.Nat.{◌%◌, ◌/◌, ◌<◌, suc, zero, ℕ}
use borrow.Author.Tests.{eq-eqb, ne_eqb}
use lib.Count.{count_trailing_zeros, under}
use mathlib.Core.Bool.{false, true}
use mathlib.Core.Path.{◌∙◌, ◌≡◌, refl}
use native.Mathlib.Omega.{arith}
use Rattle.table.specs.NameSet.{bit, has}
use Rattle.table.proofs.Bits.{bit_suc, bit_zero}

clear_step : (n i t d : ℕ) → n % 2 ≡ d → i < under d t → ((m : ℕ) → m < t → bit (n / 2) m ≡ 0) → bit n i ≡ 0
clear_step n zero t zero e l h = bit_zero n ∙ e
clear_step n (suc i) t zero e l h = bit_suc n i ∙ h i (omega arith)
clear_step n i t (suc d) e l h = absurd (omega arith)

found_step : (n k t d : ℕ) → n % 2 ≡ d → under d t < suc k → (t < k → bit (n / 2) t ≡ 1) → bit n (under d t) ≡ 1
found_step n k t zero e l h = bit_suc n t ∙ h (omega arith)
found_step n k t (suc d) e l h = bit_zero n ∙ omega (arith, e)

pub zeros_clear : (k n i : ℕ) → i < count_trailing_zeros k n → bit n i ≡ 0
unfolding count_trailing_zeros
zeros_clear zero n i l = absurd (omega arith)
zeros_clear (suc k) n i l = clear_step n i (count_trailing_zeros k (n / 2)) (n % 2) refl l (λ m b. zeros_clear k (n / 2) m b)

pub zeros_found : (k n : ℕ) → count_trailing_zeros k n < k → bit n (count_trailing_zeros k n) ≡ 1
unfolding count_trailing_zeros
zeros_found zero n l = absurd (omega arith)
zeros_found (suc k) n l = found_step n k (count_trailing_zeros k (n / 2)) (n % 2) refl l (λ b. zeros_found k (n / 2) b)

pub lowest_clear : (w k : ℕ) → k < count_trailing_zeros 64 w → has w k ≡ false
unfolding has
lowest_clear w k l = ne_eqb (bit w k) 1 (λ o. let z = zeros_clear 64 w k l in omega arith)

pub lowest_set : (w : ℕ) → count_trailing_zeros 64 w < 64 → has w (count_trailing_zeros 64 w) ≡ true
unfolding has
lowest_set w l = eq-eqb (bit w (count_trailing_zeros 64 w)) 1 (zeros_found 64 w l)
