-- Laws of the set of the numbers below n that pass a test, over any test.
--   set_below_zero, set_below_suc   no number; one number more
--   set_below_below                the set as a number has n bits
--   has_set_below                  its bits are the numbers below n that pass the test
--   word_is                       and a set with these bits is that set
--   set_below_some                 a set that is not empty has a number
--   set_below_same                 tests that agree on the numbers below n give the same set
use Prim.Native.Nat.{◌*◌, ◌+◌, ◌<◌, ◌^◌, suc, zero, ℕ}
use borrow.Author.Tests.{eq-eqb, le-ltb, lt-ltb, ne_eqb}
use lib.Bits.{or_shifted_r}
use lib.Dec.{eqb, ltb}
use mathlib.Core.Bool.{Bool, ◌&&◌, ◌||◌, false, true}
use mathlib.Core.Path.{◌∙◌, ◌≡◌, ap, refl, sym}
use native.Mathlib.Decide.{dec_lt, ℕ_discrete}
use native.Mathlib.Numerals.{add-one}
use native.Mathlib.Omega.{arith}
use Rattle.table.proofs.Tests.{and_none}
use Rattle.table.proofs.NameSets.{has_none, has_power, has_union, set_ext}
use Rattle.table.proofs.Bools.{by_test, or_none}
use Rattle.table.specs.NameSet.{has, set_below, union}
use Rattle.table.specs.Pick.{pick}

pub and_all : (b : Bool) → (b && true) ≡ b
and_all true = refl
and_all false = refl

module _ (f : ℕ → Bool) where
  pub set_below_zero : set_below f 0 ≡ 0
  unfolding set_below
  set_below_zero = refl

  pub set_below_suc : (n : ℕ) → set_below f (n + 1) ≡ set_below f n + pick (f n) (2 ^ n) 0
  unfolding set_below
  set_below_suc n = rw add-one

  pub set_below_below : (n : ℕ) → set_below f n < 2 ^ n
  unfolding set_below
  set_below_below zero = omega arith
  set_below_below (suc n) =
      let below = set_below_below n in
      by_test (f n) (λ e. rw e (omega arith)) (λ e. rw e (omega arith))

  -- the bit that one number more adds
  has_more : (w n : ℕ) (b : Bool) → w < 2 ^ n → (k : ℕ) → has (w + pick b (2 ^ n) 0) k ≡ (has w k || (b && eqb k n))
  has_more w n true below k =
      let e : w + 2 ^ n ≡ union w (1 * 2 ^ n) = omega (arith, or_shifted_r 1 n w below) in
      let one : 1 * 2 ^ n ≡ 2 ^ n = omega arith in
      ap (λ (v : ℕ). has v k) e ∙ has_union w (1 * 2 ^ n) k ∙ ap (λ (v : ℕ). has w k || has v k) one
      ∙ ap (λ (b : Bool). has w k || b) (has_power n k)
  has_more w n false below k = let e : w + 0 ≡ w = omega arith in ap (λ (v : ℕ). has v k) e ∙ sym (or_none (has w k))

  one_more : (n k : ℕ) → ((ltb k n && f k) || (f n && eqb k n)) ≡ (ltb k (suc n) && f k)
  one_more n k =
      elim (ℕ_discrete k n) [
        | yes e ↦ rw (le-ltb k n (omega arith), lt-ltb k (suc n) (omega arith), eq-eqb k n e, e) (and_all (f n))
        | no u ↦ elim (dec_lt k n) [
          | yes l ↦ rw (lt-ltb k n l, lt-ltb k (suc n) (omega arith), ne_eqb k n u) (earlier (f k) (f n))
          | no o ↦ rw (le-ltb k n (omega arith), le-ltb k (suc n) (omega arith), ne_eqb k n u) (and_none (f n))
        ]
      ]
    where
      earlier : (a b : Bool) → (a || (b && false)) ≡ a
      earlier true b = refl
      earlier false true = refl
      earlier false false = refl

  pub has_set_below : (n k : ℕ) → has (set_below f n) k ≡ (ltb k n && f k)
  unfolding set_below
  has_set_below zero k = has_none k ∙ sym (ap (λ (b : Bool). b && f k) (le-ltb k 0 (omega arith)))
  has_set_below (suc n) k =
      has_more (set_below f n) n (f n) (set_below_below n) k
      ∙ ap (λ (b : Bool). b || (f n && eqb k n)) (has_set_below n k)
      ∙ one_more n k

  pub word_is : (w n : ℕ) → ((k : ℕ) → has w k ≡ (ltb k n && f k)) → w ≡ set_below f n
  word_is w n h = set_ext w (set_below f n) (λ k. h k ∙ sym (has_set_below n k))

  pub set_below_some : (n : ℕ) → (set_below f n ≡ 0 → ⊥) → (k : ℕ) × (k < n) × (f k ≡ true)
  unfolding set_below
  set_below_some zero u = absurd (u refl)
  set_below_some (suc n) u =
      by_test (f n) (λ e. (n, omega arith, e))
      (λ e.
      let none : pick (f n) (2 ^ n) 0 ≡ 0 = ap (λ (b : Bool). pick b (2 ^ n) 0) e in
      let (k, l, passes) = set_below_some n (λ z. u (omega (arith, z, none))) in
      (k, omega (arith, l), passes))

pub set_below_same : (f g : ℕ → Bool) (n : ℕ) → ((k : ℕ) → k < n → f k ≡ g k) → set_below f n ≡ set_below g n
unfolding set_below
set_below_same f g zero h = refl
set_below_same f g (suc n) h = rw (h n (omega arith), set_below_same f g n (λ k l. h k (omega arith)))
