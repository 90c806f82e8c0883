-- Laws of tests, as equations.
--   refuted            a test that cannot pass fails
--   or_swap, or_again  a disjunction has no order, and takes a test once
--   and_comm, and_swap a conjunction has no order
--   and_none, and_none_two   nor does it pass with a test that fails
--   and_same           where the first passes, only the second matters
--   eqb_same           equality has no order
use Prim.Native.Nat.{ℕ}
use borrow.Author.Tests.{eq-eqb, eqb-false, eqb-true, ne_eqb}
use lib.Dec.{eqb}
use mathlib.Core.Bool.{Bool, ◌&&◌, ◌||◌, false, true}
use mathlib.Core.Path.{◌≡◌, refl, sym}
use Rattle.table.proofs.Bools.{by_test}

pub refuted : (b : Bool) → (b ≡ true → ⊥) → b ≡ false
refuted b h = by_test b (λ e. absurd (h e)) (λ e. e)

pub or_swap : (a b c : Bool) → (a || (b || c)) ≡ (b || (a || c))
or_swap true true c = refl
or_swap true false c = refl
or_swap false b c = refl

pub or_again : (a b : Bool) → (a || (a || b)) ≡ (a || b)
or_again true b = refl
or_again false b = refl

pub and_comm : (a b : Bool) → (a && b) ≡ (b && a)
and_comm true true = refl
and_comm true false = refl
and_comm false true = refl
and_comm false false = refl

pub and_swap : (a b c : Bool) → (a && (b && c)) ≡ (b && (a && c))
and_swap true b c = refl
and_swap false true c = refl
and_swap false false c = refl

pub and_none : (a : Bool) → (a && false) ≡ false
and_none true = refl
and_none false = refl

pub and_none_two : (a b : Bool) → (a && (b && false)) ≡ false
and_none_two true b = and_none b
and_none_two false b = refl

pub and_same : (a b c : Bool) → (a ≡ true → b ≡ c) → (a && b) ≡ (a && c)
and_same true b c h = h refl
and_same false b c h = refl

pub eqb_same : (a b : ℕ) → eqb a b ≡ eqb b a
eqb_same a b = swap (eqb a b) refl
  where
    swap : (t : Bool) → eqb a b ≡ t → t ≡ eqb b a
    swap true e = sym (eq-eqb b a (sym (eqb-true a b e)))
    swap false e = sym (ne_eqb b a (λ z. eqb-false a b e (sym z)))
