-- Laws of the lines of a map.
--   lines_within   those of the rows up to k are no longer than all
--   lines_turn     one more put into a buffer
--   map_room       there is room for all, after the first line
--   lines_same     they are those of every buffer with the same images
use Prim.Native.Nat.{◌*◌, ◌+◌, ◌<◌, ◌≤◌, suc, zero, ℕ}
use lib.ListN.{length, length-append}
use mathlib.Core.List.{List}
use mathlib.Core.Logic.{⊎_elim}
use mathlib.Core.Path.{◌≡◌, refl, subst}
use native.Mathlib.Nat.{eq-or-lt_of_le}
use native.Mathlib.Numerals.{add-one}
use native.Mathlib.Omega.{arith}
use Rattle.table.specs.Bounds.{max_rows}
use Rattle.homomorphism.specs.Layout.{image_of}
use Rattle.verdict_lines.specs.Gathering.{Added, MapIn, line_size, output_size}
use Rattle.verdict_lines.specs.Lines.{decimal, map_line, map_lines, map_rows, text}
use Rattle.verdict_lines.proofs.Decimals.{decimal_short}
use Rattle.verdict_lines.proofs.Gatherings.{added_on}

length_map_line : (row image : ℕ) → length (map_line row image) ≡ length (decimal row) + length (decimal image) + 2
length_map_line row image = simp length-append (omega arith)

module _ (e : List ℕ) where
  length_map_lines : (n : ℕ) →
      length (map_lines e (suc n)) ≡ length (map_lines e n) + length (map_line n (image_of e n))
  unfolding map_lines
  length_map_lines n = length-append (map_lines e n) (map_line n (image_of e n))

  lines_more : (k n : ℕ) → k ≤ n → length (map_lines e k) ≤ length (map_lines e n)
  lines_more k zero l = let none : k ≡ 0 = omega arith in rw none (omega arith)
  lines_more k (suc n) l =
      ⊎_elim (λ (same : k ≡ suc n). rw same (omega arith))
      (λ (less : k < suc n). omega (arith, length_map_lines n, lines_more k n (omega arith))) (eq-or-lt_of_le l)

  pub lines_within : (k n : ℕ) → k < n →
      length (map_lines e k) + length (map_line k (image_of e k)) ≤ length (map_lines e n)
  lines_within k n l = omega (arith, length_map_lines k, lines_more (suc k) n (omega arith))

  pub lines_turn : (d d₁ d₂ : List ℕ) (at next after i image : ℕ) → at + length (map_lines e i) ≤ length d →
      Added d at (map_lines e i) next d₁ → image ≡ image_of e i → Added d₁ next (map_line i image) after d₂ →
      Added d at (map_lines e (i + 1)) after d₂
  unfolding map_lines
  lines_turn d d₁ d₂ at next after i image room so is line =
      rw (add-one i)
      (added_on d d₁ d₂ at next after (map_lines e i) (map_line i (image_of e i)) room so
      (subst (λ v. Added d₁ next (map_line i v) after d₂) is line))

  lines_short : (n : ℕ) → n ≤ max_rows → ((i : ℕ) → i < n → image_of e i < max_rows) →
      length (map_lines e n) ≤ line_size * n
  unfolding map_lines
  lines_short zero few small = omega arith
  lines_short (suc n) few small =
      omega (
        arith,
        length_map_lines n,
        length_map_line n (image_of e n),
        decimal_short 2 n (omega arith),
        decimal_short 2 (image_of e n) (omega (arith, small n (omega arith))),
        lines_short n (omega arith) (λ i l. small i (omega arith)),
      )

pub map_room : (e : List ℕ) (n : ℕ) → MapIn e n →
    length (text "verdict yes\n") + length (map_lines e (map_rows n)) ≤ output_size
map_room e n map = omega (arith, map.few, lines_short e (map_rows n) (omega (arith, map.few)) map.small)

pub lines_same : (e e' : List ℕ) (n : ℕ) → ((i : ℕ) → i < n → image_of e i ≡ image_of e' i) →
    map_lines e n ≡ map_lines e' n
unfolding map_lines
lines_same e e' zero same = refl
lines_same e e' (suc n) same = rw (lines_same e e' n (λ i l. same i (omega arith)), same n (omega arith))
