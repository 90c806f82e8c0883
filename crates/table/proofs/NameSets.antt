-- Laws of sets of names, by membership; a set of the format is a number below 2 ^ name_count.
--   union_below, intersection_below, complement_below       the results are sets of the format
--   has_none, has_union, has_intersection, has_complement   the names of each operation's result
--   has_below                                               a set of the format has only names below name_count
--   set_ext                                                 sets with the same names are equal
--   subset_has, has_subset                                  a set is within another exactly when the other has its names
--   subset_none                                             only the set of no name is within it
--   has_power, subset_power                                 the set of one name, and when it is within a set
use mathlib.Core.Path.{◌∙◌, ◌≡◌, ap, refl, sym}
use mathlib.Core.Bool.{Bool, ◌&&◌, ◌||◌, false, false≢true, not, true, true≢false}
use Prim.Native.Nat.{◌-◌, ◌/◌, ◌<◌, ◌^◌, max, min, suc, zero, ℕ}
use native.Mathlib.Nat.{lt_of_le_of_lt, lt_of_not-le, zero-div}
use native.Mathlib.Decide.{dec_lt}
use native.Mathlib.Omega.{arith}
use lib.Dec.{eqb, ltb}
use lib.Bits.{and_le_l, and_zero_r, bit_and, or_lt}
use lib.Pow.{ones_sub-lt}
use borrow.Author.Tests.{eq-eqb, eqb-false, eqb-true, le-ltb, lt-ltb, ne_eqb}
use Rattle.table.specs.Layout.{name_count}
use Rattle.table.specs.NameSet.{bit, complement, has, intersection, none, subset, union}
use Rattle.table.proofs.Bools.{by_test}
use Rattle.table.proofs.Tests.{refuted}
use Rattle.table.proofs.Bits.{bit_of_and, bit_below, bit_bound, bit_complement, bit_of_or, bit_suc, bit_zero, bits_eq}

pub union_below : (a b : ℕ) → a < 2 ^ name_count → b < 2 ^ name_count → union a b < 2 ^ name_count
union_below = or_lt name_count

pub intersection_below : (a b : ℕ) → a < 2 ^ name_count → intersection a b < 2 ^ name_count
intersection_below a b h = lt_of_le_of_lt (and_le_l a b) h

pub complement_below : (a : ℕ) → complement a < 2 ^ name_count
complement_below = ones_sub-lt name_count

-- a fact about two bits is four cases
bit_cases : (P : ℕ → ℕ → Type 0) → P 0 0 → P 0 1 → P 1 0 → P 1 1 → (a b n : ℕ) → P (bit a n) (bit b n)
bit_cases P p q r s a b n = go (bit a n) (bit b n) (bit_bound a n) (bit_bound b n)
  where
    go : (x y : ℕ) → x < 2 → y < 2 → P x y
    go zero zero hx hy = p
    go zero (suc zero) hx hy = q
    go zero (suc (suc y)) hx hy = absurd (omega arith)
    go (suc zero) zero hx hy = r
    go (suc zero) (suc zero) hx hy = s
    go (suc zero) (suc (suc y)) hx hy = absurd (omega arith)
    go (suc (suc x)) y hx hy = absurd (omega arith)

pub has_none : (n : ℕ) → has none n ≡ false
unfolding has
has_none n = rw zero-div

pub has_union : (a b n : ℕ) → has (union a b) n ≡ (has a n || has b n)
unfolding has
has_union a b n = rw (bit_of_or a b n) (bit_cases (λ x y. eqb (max x y) 1 ≡ (eqb x 1 || eqb y 1)) refl refl refl refl a b n)

pub has_intersection : (a b n : ℕ) → has (intersection a b) n ≡ (has a n && has b n)
unfolding has
has_intersection a b n = rw (bit_of_and a b n) (bit_cases (λ x y. eqb (min x y) 1 ≡ (eqb x 1 && eqb y 1)) refl refl refl refl a b n)

pub has_complement : (a n : ℕ) → a < 2 ^ name_count → has (complement a) n ≡ (ltb n name_count && not (has a n))
unfolding has
has_complement a n h =
    elim (dec_lt n name_count) [
      | yes l ↦ rw (lt-ltb n name_count l, bit_complement name_count a n h l) (bit_cases (λ x y. eqb (1 - x) 1 ≡ not (eqb x 1)) refl refl refl refl a a n)
      | no u ↦ rw (le-ltb n name_count (omega arith), bit_below name_count (complement a) n (complement_below a) (omega arith))
    ]

pub has_below : (a n : ℕ) → a < 2 ^ name_count → has a n ≡ true → n < name_count
unfolding has
has_below a n h e = lt_of_not-le (λ l. omega (arith, eqb-true (bit a n) 1 e, bit_below name_count a n h l))

pub set_ext : (a b : ℕ) → ((n : ℕ) → has a n ≡ has b n) → a ≡ b
unfolding has
set_ext a b h = bits_eq a b (λ n. bit_cases (λ x y. eqb x 1 ≡ eqb y 1 → x ≡ y) (λ e. refl) (λ e. absurd (false≢true e)) (λ e. absurd (true≢false e)) (λ e. refl) a b n (h n))

pub subset_has : (a b : ℕ) → subset a b ≡ true → (n : ℕ) → has a n ≡ true → has b n ≡ true
subset_has a b s n e = sym (rw e at (has_intersection a b n)) ∙ ap (λ (x : ℕ). has x n) (eqb-true (bit_and a b) a s) ∙ e

pub has_subset : (a b : ℕ) → ((n : ℕ) → has a n ≡ true → has b n ≡ true) → subset a b ≡ true
has_subset a b h = eq-eqb (bit_and a b) a (set_ext (bit_and a b) a (λ n. has_intersection a b n ∙ within (has a n) (has b n) (h n)))
  where
    within : (x y : Bool) → (x ≡ true → y ≡ true) → (x && y) ≡ x
    within true y h = h refl
    within false y h = refl

pub subset_none : (a : ℕ) → subset a none ≡ eqb a 0
subset_none a =
    by_test (eqb a 0)
    (λ e. let z = eqb-true a 0 e in rw (e, z))
    (λ e. rw (e, and_zero_r a) (ne_eqb 0 a (λ z. eqb-false a 0 e (sym z))))

bit_none : (k : ℕ) → bit 0 k ≡ 0
bit_none k = rw zero-div

next_same : (k i : ℕ) → eqb k i ≡ eqb (suc k) (suc i)
next_same k i =
    by_test (eqb k i) (λ e. let z = eqb-true k i e in e ∙ sym (eq-eqb (suc k) (suc i) (omega arith)))
    (λ e. let u = eqb-false k i e in e ∙ sym (ne_eqb (suc k) (suc i) (λ z. u (omega arith))))

pub has_power : (i k : ℕ) → has (2 ^ i) k ≡ eqb k i
unfolding has
has_power zero zero = refl
has_power zero (suc k) =
    ap (λ (n : ℕ). eqb n 1) (bit_suc 1 k ∙ bit_none k) ∙ sym (ne_eqb (suc k) 0 (λ z. omega arith))
has_power (suc i) zero =
    let e : bit (2 ^ suc i) 0 ≡ 0 = bit_zero (2 ^ suc i) ∙ omega arith in
    ap (λ (n : ℕ). eqb n 1) e ∙ sym (ne_eqb 0 (suc i) (λ z. omega arith))
has_power (suc i) (suc k) =
    let e : 2 ^ suc i / 2 ≡ 2 ^ i = omega arith in
    ap (λ (n : ℕ). eqb n 1) (bit_suc (2 ^ suc i) k ∙ ap (λ (n : ℕ). bit n k) e) ∙ has_power i k ∙ next_same k i

pub subset_power : (n a : ℕ) → subset (2 ^ n) a ≡ has a n
subset_power n a =
    by_test (has a n)
    (λ e. has_subset (2 ^ n) a (λ k h. ap (has a) (eqb-true k n (sym (has_power n k) ∙ h)) ∙ e) ∙ sym e)
    (λ e. refuted (subset (2 ^ n) a)
    (λ s. true≢false (sym (subset_has (2 ^ n) a s n (has_power n n ∙ eq-eqb n n refl)) ∙ e)) ∙ sym e)
