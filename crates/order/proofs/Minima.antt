-- Minimal numbers of a preorder, of those that pass a test.
--   strict_is, is_strict       what it is to cover strictly
--   strict_not                 nothing covers itself strictly
--   strict_under, over_strict  what covers strictly something that covers a third covers the third strictly; so does
--                              what covers something that covers a third strictly
--   passed_over, over_passed   what it is to be passed over
--   minimal_is, is_minimal     what it is to be minimal
--   minimal_under              each that passes covers a minimal one (02, U2)
--   strict_minimal             and one that is passed over covers a minimal one strictly
use Prim.Native.Nat.{◌<◌, ◌≤◌, suc, zero, ℕ}
use borrow.Author.Tests.{not-true}
use mathlib.Core.Bool.{Bool, ◌&&◌, false, false≢true, not, true}
use mathlib.Core.Path.{◌∙◌, ◌≡◌, ap, sym}
use native.Mathlib.Decide.{ℕ_discrete}
use native.Mathlib.Omega.{arith}
use Rattle.table.proofs.Bools.{both, by_test}
use Rattle.table.proofs.Ranges.{at_some, some_at}
use Rattle.table.proofs.Tests.{refuted}
use Rattle.order.specs.Preorder.{Preorder, minimal, is_passed_over, strict}

module _ (over : ℕ → ℕ → Bool) where
  pub strict_is : (i j : ℕ) → strict over i j ≡ true → (over i j ≡ true) × (over j i ≡ false)
  strict_is i j s = let (a, b) = both (over i j) (not (over j i)) s in (a, not-true (over j i) b)

  pub is_strict : (i j : ℕ) → over i j ≡ true → over j i ≡ false → strict over i j ≡ true
  is_strict i j a b = rw (a, b)

  pub strict_not : (i j : ℕ) → i ≡ j → strict over i j ≡ true → ⊥
  strict_not i j e s =
      let (a, b) = strict_is i j s in false≢true (sym b ∙ ap (λ (k : ℕ). over k i) (sym e) ∙ ap (over i) e ∙ a)

  module _ (n : ℕ) (order : Preorder over n) where
    pub strict_under : (i j k : ℕ) → i < n → j < n → k < n →
        strict over i j ≡ true → over j k ≡ true → strict over i k ≡ true
    strict_under i j k p q r s t =
        let (a, b) = strict_is i j s in
        is_strict i k (order.transitive i j k p q r a t)
        (refuted (over k i) (λ u. false≢true (sym b ∙ order.transitive j k i q r p t u)))

    pub over_strict : (i j k : ℕ) → i < n → j < n → k < n →
        over i j ≡ true → strict over j k ≡ true → strict over i k ≡ true
    over_strict i j k p q r s t =
        let (a, b) = strict_is j k t in
        is_strict i k (order.transitive i j k p q r s a)
        (refuted (over k i) (λ u. false≢true (sym b ∙ order.transitive k i j r p q u s)))

  module _ (n : ℕ) (test : ℕ → Bool) where
    pub passed_over : (k : ℕ) → is_passed_over over n test k ≡ true →
        (j : ℕ) × (j < n) × (test j ≡ true) × (strict over k j ≡ true)
    unfolding is_passed_over
    passed_over k h =
        let (j, low, high, e) = some_at (λ j. test j && strict over k j) n 0 h in
        let (t, s) = both (test j) (strict over k j) e in
        (j, omega arith, t, s)

    pub over_passed : (k j : ℕ) → j < n → test j ≡ true → strict over k j ≡ true → is_passed_over over n test k ≡ true
    unfolding is_passed_over
    over_passed k j l t s =
        at_some (λ j. test j && strict over k j) n 0 j (omega arith) (omega arith) (rw t s)

    pub minimal_is : (k : ℕ) → minimal over n test k ≡ true → (test k ≡ true) × (is_passed_over over n test k ≡ false)
    unfolding minimal
    minimal_is k h =
        let (t, u) = both (test k) (not (is_passed_over over n test k)) h in (t, not-true (is_passed_over over n test k) u)

    pub is_minimal : (k : ℕ) → test k ≡ true → (is_passed_over over n test k ≡ true → ⊥) → minimal over n test k ≡ true
    unfolding minimal
    is_minimal k t u = rw (t, refuted (is_passed_over over n test k) u)

    module _ (order : Preorder over n) where
      -- k covers one that covers none of the numbers below b strictly: going along them once, one is held, and left for
      -- the next that it covers strictly
      least_to : (k : ℕ) → k < n → test k ≡ true → (b : ℕ) → b ≤ n →
          (m : ℕ) × (m < n) × (test m ≡ true) × (over k m ≡ true)
          × ((j : ℕ) → j < b → test j ≡ true → strict over m j ≡ true → ⊥)
      least_to k l t zero h = (k, l, t, order.reflexive k l, λ j i. absurd (omega (arith, i)))
      least_to k l t (suc b) h =
          let (m, p, q, a, least) = least_to k l t b (omega arith) in
          let inside : b < n = omega arith in
          by_test (test b && strict over m b)
          (λ e.
          let (u, s) = both (test b) (strict over m b) e in (
            b,
            inside,
            u,
            order.transitive k m b l p inside a (strict_is m b s).0,
            λ j i v w.
                elim (ℕ_discrete b j) [
                  | yes x ↦ strict_not b j x w
                  | no x ↦ least j (omega (arith, i, x)) v
                      (over_strict n order m b j p inside (omega (arith, i, h)) (strict_is m b s).0 w)
                ],
          ))
          (λ e. (
            m,
            p,
            q,
            a,
            λ j i v w.
                elim (ℕ_discrete j b) [
                  | yes x ↦ false≢true (sym e ∙ passes (ap test (sym x) ∙ v) (ap (strict over m) (sym x) ∙ w))
                  | no x ↦ least j (omega (arith, i, x)) v w
                ],
          ))
        where
          passes : {a b : Bool} → a ≡ true → b ≡ true → (a && b) ≡ true
          passes e f = rw (e, f)

      pub minimal_under : (k : ℕ) → k < n → test k ≡ true →
          (m : ℕ) × (m < n) × (minimal over n test m ≡ true) × (over k m ≡ true)
      minimal_under k l t =
          let (m, p, q, a, least) = least_to k l t n (omega arith) in
          (m, p, is_minimal m q (λ h. let (j, i, v, w) = passed_over m h in least j i v w), a)

      pub strict_minimal : (k : ℕ) → k < n → is_passed_over over n test k ≡ true →
          (m : ℕ) × (m < n) × (minimal over n test m ≡ true) × (strict over k m ≡ true)
      strict_minimal k l h =
          let (j, p, t, s) = passed_over k h in
          let (m, q, u, c) = minimal_under j p t in
          (m, q, u, strict_under n order k j m l p q s c)
