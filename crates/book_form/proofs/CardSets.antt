-- Laws of words of cards as the code makes them.
--   with_bit       a word with one card more
--   without_bits   a word without the cards of another, over any width
--   with_more, with_none   a word with card k if a test passes: it does; it does not
--   with_each      a word with two cards, one after the other
use Prim.Native.Nat.{◌-◌, ◌<◌, ◌^◌, ◌≤◌, ℕ}
use borrow.Author.Tests.{eqb-false, eqb-true, ne_eqb}
use lib.Bits.{bit_and, bit_or}
use lib.Dec.{eqb}
use mathlib.Core.Bool.{Bool, ◌&&◌, ◌||◌, false, not, true}
use mathlib.Core.Path.{◌∙◌, ◌≡◌, ap, sym}
use native.Mathlib.Decide.{dec_lt}
use native.Mathlib.Omega.{arith}
use Rattle.table.proofs.Tests.{and_none}
use Rattle.table.proofs.NameSets.{has_intersection, has_power, has_union}
use Rattle.table.proofs.Bits.{bit_below, bit_bound, bit_complement}
use Rattle.table.proofs.Bools.{by_test, or_none}
use Rattle.table.specs.NameSet.{bit, has}
use Rattle.book_form.specs.Words.{With, WithEach}
use Rattle.table.proofs.SetsBelow.{and_all}

pub with_bit : (word k r i : ℕ) → r ≡ 2 ^ k → has (bit_or word r) i ≡ (has word i || eqb i k)
with_bit word k r i e = has_union word r i ∙ ap (λ (n : ℕ). has word i || has n i) e ∙ ap (λ (b : Bool). has word i || b) (has_power k i)

has_past : (width a i : ℕ) → a < 2 ^ width → width ≤ i → has a i ≡ false
unfolding has
has_past width a i fits far = ne_eqb (bit a i) 1 (λ e. let z = bit_below width a i fits far in omega (arith, e, z))

complement_has : (width b i : ℕ) → b < 2 ^ width → i < width → has (2 ^ width - 1 - b) i ≡ not (has b i)
unfolding has
complement_has width b i fits near =
    let e = bit_complement width b i fits near in
    let small = bit_bound b i in
    by_test (eqb (bit b i) 1)
    (λ t. let o = eqb-true (bit b i) 1 t in rw t (ne_eqb (bit (2 ^ width - 1 - b) i) 1 (λ y. omega (arith, e, o, y))))
    (λ t. rw t (by_test (eqb (bit (2 ^ width - 1 - b) i) 1) (λ y. y) (λ y. absurd (other t y e small))))
  where
    other : eqb (bit b i) 1 ≡ false → eqb (bit (2 ^ width - 1 - b) i) 1 ≡ false → bit (2 ^ width - 1 - b) i ≡ 1 - bit b i → bit b i < 2 → ⊥
    other t y e small =
        let u = eqb-false (bit b i) 1 t in
        let v = eqb-false (bit (2 ^ width - 1 - b) i) 1 y in
        v (omega (arith, e, small, u))

pub without_bits : (width a b i : ℕ) → a < 2 ^ width → b < 2 ^ width → has (bit_and a (2 ^ width - 1 - b)) i ≡ (has a i && not (has b i))
without_bits width a b i fits fits₂ =
    elim (dec_lt i width) [
      | yes near ↦ has_intersection a (2 ^ width - 1 - b) i ∙ ap (λ (c : Bool). has a i && c) (complement_has width b i fits₂ near)
      | no far ↦
          let past = has_past width a i fits (omega arith) in
          has_intersection a (2 ^ width - 1 - b) i
          ∙ ap (λ (c : Bool). c && has (2 ^ width - 1 - b) i) past
          ∙ sym (ap (λ (c : Bool). c && not (has b i)) past)
    ]

module _ (word k : ℕ) where
  pub with_more : (test : Bool) (r : ℕ) → test ≡ true → ((i : ℕ) → has r i ≡ (has word i || eqb i k)) → With word k test r
  with_more test r passes is i = is i ∙ rw passes (ap (λ (b : Bool). has word i || b) (sym (and_all (eqb i k))))

  pub with_none : (test : Bool) → test ≡ false → With word k test word
  with_none test fails i = rw (fails, and_none (eqb i k)) (sym (or_none (has word i)))

pub with_each : (word m : ℕ) (test : Bool) (more n : ℕ) (other : Bool) (r : ℕ) → With word m test more →
    With more n other r → WithEach word m test n other r
with_each word m test more n other r p q i = q i ∙ ap (λ (b : Bool). b || (eqb i n && other)) (p i)
