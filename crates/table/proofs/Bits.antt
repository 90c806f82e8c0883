-- Laws of the bits of a number, over any width k.
--   bit_zero, bit_suc   the lowest bit, and a higher one as a bit of the half
--   bit_bound           a bit is 0 or 1
--   bit_of_or, bit_of_and     the bits of `bit_or` and `bit_and`
--   bit_below           a number below 2 ^ k has no bit from k on
--   bit_complement      the bits of 2 ^ k - 1 less a number are the others
--   bits_differ         numbers below 2 ^ k that are not equal differ in a bit below k
--   pow_above           a power of 2 is above its exponent: every number has a width
--   bits_eq             numbers with the same bits are equal
use mathlib.Core.Path.{◌≡◌, sym, ◌∙◌}
use Prim.Native.Nat.{ℕ, zero, suc, ◌-◌, ◌/◌, ◌%◌, ◌^◌, ◌≤◌, ◌<◌, min, max}
use native.Mathlib.Nat.{pow-succ', div-one, div-eq_of_lt, div-div-eq-div-mul, lt_of_lt_of_le}
use native.Mathlib.Decide.{ℕ_discrete}
use native.Mathlib.Omega.{arith}
use lib.Bits.{bit_and, bit_or, and_shr, or_shr, and_step, or_step}
use lib.Pow.{pow_mono}
use Rattle.table.specs.NameSet.{bit}

pub bit_zero : (a : ℕ) → bit a 0 ≡ a % 2
bit_zero a = rw div-one

pub bit_suc : (a n : ℕ) → bit a (suc n) ≡ bit (a / 2) n
bit_suc a n = rw (pow-succ' 2 n, ← (div-div-eq-div-mul a 2 (2 ^ n)))

pub bit_bound : (a n : ℕ) → bit a n < 2
bit_bound a n = omega arith

pub bit_of_or : (a b n : ℕ) → bit (bit_or a b) n ≡ max (bit a n) (bit b n)
bit_of_or a b n = rw or_shr (omega (arith, or_step (a / 2 ^ n) (b / 2 ^ n)))

pub bit_of_and : (a b n : ℕ) → bit (bit_and a b) n ≡ min (bit a n) (bit b n)
bit_of_and a b n = rw and_shr (omega (arith, and_step (a / 2 ^ n) (b / 2 ^ n)))

pub bit_below : (k a n : ℕ) → a < 2 ^ k → k ≤ n → bit a n ≡ 0
bit_below k a n h l = rw (div-eq_of_lt (lt_of_lt_of_le h (pow_mono l)))

pub bit_complement : (k a n : ℕ) → a < 2 ^ k → n < k → bit (2 ^ k - 1 - a) n ≡ 1 - bit a n
bit_complement zero a n h l = absurd (omega arith)
bit_complement (suc k) a zero h l = rw (bit_zero a, bit_zero) (omega arith)
bit_complement (suc k) a (suc n) h l =
    let e : (2 ^ suc k - 1 - a) / 2 ≡ 2 ^ k - 1 - a / 2 = omega arith in
    rw (bit_suc a, bit_suc, e) (bit_complement k (a / 2) n (omega arith) (omega arith))

pub bits_differ : (k a b : ℕ) → a < 2 ^ k → b < 2 ^ k → (a ≡ b → ⊥) → (n : ℕ) × (n < k) × (bit a n ≡ bit b n → ⊥)
bits_differ zero a b ha hb d = absurd (d (omega arith))
bits_differ (suc k) a b ha hb d =
    elim (ℕ_discrete (a / 2) (b / 2)) [
      | yes e ↦ (0, omega arith, λ q. d (omega (arith, rw (bit_zero a, bit_zero b) at q)))
      | no c ↦
          let (n, l, u) = bits_differ k (a / 2) (b / 2) (omega arith) (omega arith) c in
          (suc n, omega arith, λ q. u (sym (bit_suc a n) ∙ q ∙ bit_suc b n))
    ]

pub pow_above : (k : ℕ) → k < 2 ^ k
pow_above zero = omega arith
pow_above (suc k) = omega (arith, pow_above k)

pub bits_eq : (a b : ℕ) → ((n : ℕ) → bit a n ≡ bit b n) → a ≡ b
bits_eq a b h =
    let p = pow_above (max a b) in
    elim (ℕ_discrete a b) [
      | yes e ↦ e
      | no d ↦ let (n, l, u) = bits_differ (max a b) a b (omega arith) (omega arith) d in absurd (u (h n))
    ]
