-- Laws of texts put into a buffer one after the other.
--   added_none      nothing put
--   added_on        a text put after a text
--   added_four      four of them, one after the other
--   added_front     a text put at its start stands there
use Prim.Native.Nat.{◌+◌, ◌≤◌, ℕ}
use lib.ListN.{length, length-append}
use lib.Seq.{length-take-le, take-append_seam}
use mathlib.Core.List.{List, [], ◌++◌}
use mathlib.Core.Path.{◌∙◌, ◌≡◌, ap, sym}
use native.Mathlib.Omega.{arith}
use Rattle.table.proofs.Puts.{length_put, put_nil, put_put, put_start}
use Rattle.verdict_lines.specs.Gathering.{Added, Front}

pub added_none : (d : List ℕ) (at : ℕ) → Added d at [] at d
added_none d at = record { place = omega arith; bytes = sym (put_nil d at) }

pub added_on : (d d₁ d₂ : List ℕ) (at next after : ℕ) (s t : List ℕ) → at + length s ≤ length d → Added d at s next d₁ →
    Added d₁ next t after d₂ → Added d at (s ++ t) after d₂
added_on d d₁ d₂ at next after s t room p q =
    record {
      place = omega (arith, p.place, q.place, length-append s t);
      bytes = rw (q.bytes, p.bytes, p.place) (put_put d at s t room);
    }

pub added_four : (d d₁ d₂ d₃ d₄ : List ℕ) (at p₁ p₂ p₃ p₄ : ℕ) (s₁ s₂ s₃ s₄ : List ℕ) →
    at + (length s₁ + length s₂ + length s₃) ≤ length d →
    Added d at s₁ p₁ d₁ → Added d₁ p₁ s₂ p₂ d₂ → Added d₂ p₂ s₃ p₃ d₃ → Added d₃ p₃ s₄ p₄ d₄ →
    Added d at (s₁ ++ s₂ ++ s₃ ++ s₄) p₄ d₄
added_four d d₁ d₂ d₃ d₄ at p₁ p₂ p₃ p₄ s₁ s₂ s₃ s₄ room a b c e =
    let two = added_on d d₁ d₂ at p₁ p₂ s₁ s₂ (omega arith) a b in
    let three = added_on d d₂ d₃ at p₂ p₃ (s₁ ++ s₂) s₃ (omega (arith, length-append s₁ s₂)) two c in
    added_on d d₃ d₄ at p₃ p₄ (s₁ ++ s₂ ++ s₃) s₄ (simp length-append (omega arith)) three e

added_length : (d d' : List ℕ) (at after : ℕ) (s : List ℕ) → at + length s ≤ length d → Added d at s after d' →
    length d' ≡ length d
added_length d d' at after s room added = ap length added.bytes ∙ length_put d at s room

pub added_front : (d d' s : List ℕ) (after : ℕ) → length s ≤ length d → Added d 0 s after d' → Front d' s after
added_front d d' s after room added =
    let long : after ≡ length s = omega (arith, added.place) in
    let same = added_length d d' 0 after s (omega arith) added in
    let inside : after ≤ length d' = omega arith in
    record {
      long = long;
      bytes = rw (long, added.bytes, put_start) (take-append_seam s _);
      counts = (inside, sym (length-take-le after d' inside));
    }
