-- Laws of decimal numbers.
--   decimal_digits   the fewest digits that hold a number of 64 bits are its decimal digits
--   decimal_short    a number below 10 ^ k has at most k of them, and 0 has one
use Prim.Native.Nat.{◌%◌, ◌-◌, ◌/◌, ◌<◌, ◌^◌, ◌≤◌, suc, zero, ℕ}
use borrow.Author.Tests.{le-ltb, lt-ltb}
use lib.Dec.{ltb}
use lib.ListN.{length, length-append}
use mathlib.Core.Bool.{false, true}
use mathlib.Core.List.{List}
use mathlib.Core.Path.{◌∙◌, ◌≡◌, ap}
use native.Mathlib.Nat.{one-le-pow, pow-le-pow_right, pow-suc}
use native.Mathlib.Omega.{arith}
use Rattle.io.specs.Digits.{IsDigitCount, last_digits, hex_digit_ascii}
use Rattle.table.proofs.Bools.{by_test}
use Rattle.verdict_lines.specs.Lines.{decimal, digit, digits_up_to}

glyph_digit : (d : ℕ) → d < 10 → hex_digit_ascii d ≡ digit d
glyph_digit d l = rw (lt-ltb d 10 l)

one_less : (k : ℕ) → 10 ^ (suc k - 1) ≡ 10 ^ k
one_less k = let e : suc k - 1 ≡ k = omega arith in ap (λ (i : ℕ). 10 ^ i) e

-- the fewest digits of a number from 10 on are those of its tenth, and one more
tenth_fewest : (n k : ℕ) → IsDigitCount 10 1 n (suc (suc k)) → IsDigitCount 10 1 (n / 10) (suc k)
tenth_fewest n k (some, below, least) =
    let most = pow-suc 10 (suc k) in
    let part = pow-suc 10 k in
    (omega arith, omega arith, λ more. omega (arith, least (omega arith), one_less (suc k), one_less k))

digits_up_to_is : (most k n : ℕ) → k ≤ most → IsDigitCount 10 1 n k → last_digits 10 k n ≡ digits_up_to most n
digits_up_to_is most zero n l (some, below, least) = absurd (omega arith)
digits_up_to_is zero (suc k) n l f = absurd (omega arith)
digits_up_to_is (suc most) (suc zero) n l (some, below, least) =
    let small : ltb n 10 ≡ true = lt-ltb n 10 (omega arith) in
    rw (small, glyph_digit (n % 10) (omega arith))
digits_up_to_is (suc most) (suc (suc k)) n l f =
    let least : 10 ^ suc k ≤ n = omega (arith, f.2 (omega arith), one_less (suc k)) in
    let large : ltb n 10 ≡ false = le-ltb n 10 (omega (arith, pow-suc 10 k, one-le-pow k 10 (omega arith))) in
    let before = digits_up_to_is most (suc k) (n / 10) (omega arith) (tenth_fewest n k f) in
    rw (large, glyph_digit (n % 10) (omega arith), before)

fewest_few : (k n : ℕ) → n < 2 ^ 64 → IsDigitCount 10 1 n k → k ≤ 20
fewest_few zero n small f = omega arith
fewest_few (suc k) n small (some, below, least) =
    let none_more : ¬ (20 ≤ k) =
    λ more.
    let large = pow-le-pow_right {n = 10} (omega arith) {i = 20} {j = k} more in
    omega (arith, least (omega arith), one_less k, large) in
    omega (arith, none_more)

pub decimal_digits : (k n : ℕ) {s : List ℕ} → n < 2 ^ 64 → IsDigitCount 10 1 n k → s ≡ last_digits 10 k n → s ≡ decimal n
unfolding decimal
decimal_digits k n small f is = is ∙ digits_up_to_is 20 k n (fewest_few k n small f) f

up_to_short : (most k n : ℕ) → n < 10 ^ suc k → length (digits_up_to most n) ≤ suc k
up_to_short zero k n l = omega arith
up_to_short (suc most) zero n l =
    let small : ltb n 10 ≡ true = lt-ltb n 10 (omega arith) in
    rw small (omega arith)
up_to_short (suc most) (suc k) n l =
    let before = up_to_short most k (n / 10) (omega (arith, pow-suc 10 (suc k))) in
    by_test (ltb n 10) (λ e. rw e (omega arith)) (λ e. rw (e, length-append) (omega arith))

pub decimal_short : (k n : ℕ) → n < 10 ^ suc k → length (decimal n) ≤ suc k
unfolding decimal
decimal_short k n = up_to_short 20 k n
