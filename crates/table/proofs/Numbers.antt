-- Laws of numbers of several bytes, the high byte first.
--   be_add                            a number is its upper and its lower bytes
--   be_two                            a number of two bytes
--   be_same                           bytes that agree are the same number, also at another place
--   be_bound                          a number of k bytes is below 256 ^ k
--   be_append_left, be_append_right   a number that stands in one of two lists
--   length_be_bytes                    a number as k bytes is k bytes
--   be_be_bytes                        a number as bytes reads back
--   be_inside                         and so it does inside a list
use mathlib.Core.Path.{◌≡◌, refl, ap, sym, ◌∙◌}
use mathlib.Core.List.{List, [], ◌∷◌, ◌++◌}
use Prim.Native.Nat.{ℕ, zero, suc, ◌+◌, ◌*◌, ◌/◌, ◌%◌, ◌^◌, ◌≤◌, ◌<◌}
use native.Mathlib.Nat.{add-zero, add-suc, add_assoc, pow-suc, mul_assoc, pow-zero, mod-eq_of_lt, mod-one, zero-add, pow-succ', one-le-pow}
use native.Mathlib.Numerals.{one-add}
use native.Mathlib.Omega.{arith}
use lib.ListN.{length, get_or, get_or-append}
use lib.Arith.{mod-mul}
use lib.Seq.{get_or-append-add}
use Rattle.table.specs.Number.{be, be_bytes}

scale : (x p y g : ℕ) → (x * p + y) * 256 + g ≡ x * (p * 256) + (y * 256 + g)
scale x p y g = let e : x * (p * 256) ≡ x * p * 256 = sym (mul_assoc x p 256) in omega (arith, e)

pub be_add : (s : List ℕ) (at m k : ℕ) → be s at (m + k) ≡ be s at m * 256 ^ k + be s (at + m) k
unfolding be
be_add s at m zero = rw (add-zero m, pow-zero 256) (omega arith)
be_add s at m (suc k) = rw (add-suc m k, be_add s at m k, sym (add_assoc at m k), pow-suc 256 k) (scale (be s at m) (256 ^ k) (be s (at + m) k) (get_or s (at + m + k) 0))

pub be_two : (s : List ℕ) (at : ℕ) → be s at 2 ≡ get_or s at 0 * 256 + get_or s (at + 1) 0
unfolding be
be_two s at = rw add-zero (omega arith)

pub be_same : (s t : List ℕ) (a b k : ℕ) → ((i : ℕ) → i < k → get_or s (a + i) 0 ≡ get_or t (b + i) 0) → be s a k ≡ be t b k
unfolding be
be_same s t a b zero h = refl
be_same s t a b (suc k) h = rw (be_same s t a b k (λ i l. h i (omega arith)), h k (omega arith))

pub be_bound : (s : List ℕ) (at k : ℕ) → ((i : ℕ) → i < k → get_or s (at + i) 0 < 256) → be s at k < 256 ^ k
unfolding be
be_bound s at zero h = omega arith
be_bound s at (suc k) h = omega (arith, be_bound s at k (λ i l. h i (omega arith)), h k (omega arith))

pub be_append_left : (s t : List ℕ) (at k : ℕ) → at + k ≤ length s → be (s ++ t) at k ≡ be s at k
be_append_left s t at k h = be_same (s ++ t) s at at k (λ i l. get_or-append s t 0 (at + i) (omega arith))

pub be_append_right : (s t : List ℕ) (at k : ℕ) → be (s ++ t) (length s + at) k ≡ be t at k
be_append_right s t at k = be_same (s ++ t) t (length s + at) at k (λ i l. rw add_assoc (get_or-append-add s t (at + i) 0))

pub length_be_bytes : (k n : ℕ) → length (be_bytes k n) ≡ k
unfolding be_bytes
length_be_bytes zero n = refl
length_be_bytes (suc k) n = ap suc (length_be_bytes k n)

low_bytes : (k n : ℕ) → be (be_bytes k n) 0 k ≡ n % 256 ^ k
unfolding be be_bytes
low_bytes zero n = sym (mod-one n)
low_bytes (suc k) n =
    let s : List ℕ = be_bytes (suc k) n in
    let e : be s 0 1 ≡ n / 256 ^ k % 256 = zero-add (n / 256 ^ k % 256) in
    let l : be s 1 k ≡ n % 256 ^ k = be_append_right (n / 256 ^ k % 256 ∷ []) (be_bytes k n) 0 k ∙ low_bytes k n in
    ap (be s 0) (sym (one-add k)) ∙ be_add s 0 1 k ∙ rw (e, l, pow-succ' 256 k) (sym (mod-mul n (omega arith) (one-le-pow k 256 (omega arith))))

pub be_be_bytes : (k n : ℕ) → n < 256 ^ k → be (be_bytes k n) 0 k ≡ n
be_be_bytes k n h = low_bytes k n ∙ mod-eq_of_lt h

pub be_inside : (p r : List ℕ) (k n : ℕ) → n < 256 ^ k → be (p ++ (be_bytes k n ++ r)) (length p) k ≡ n
be_inside p r k n h =
    ap (λ (a : ℕ). be (p ++ (be_bytes k n ++ r)) a k) (sym (add-zero (length p)))
    ∙ be_append_right p (be_bytes k n ++ r) 0 k
    ∙ be_append_left (be_bytes k n) r 0 k (omega (arith, length_be_bytes k n))
    ∙ be_be_bytes k n h
