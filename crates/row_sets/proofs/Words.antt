-- Laws of sets of rows as words.
--   next_clear, next_set        the lowest bit of a word from one on
--   has_power, bit_more         a word of one bit; a word with one bit more
--   holds_none                  a set of no row
--   with_row                    a set with one row more
--   meet_row                    the rows of a set that a table of words has too
--   before_word, at_word        the rows of one word
use Prim.Native.Nat.{◌%◌, ◌*◌, ◌+◌, ◌-◌, ◌/◌, ◌<◌, ◌^◌, ◌≤◌, suc, zero, ℕ}
use borrow.Author.Tests.{eq-eqb, eqb-false, eqb-true, ltb-false, ltb-true, ne_eqb}
use lib.Bits.{bit_and, bit_or, or_zero_r}
use lib.Count.{count_trailing_zeros}
use lib.Dec.{eqb, ltb}
use lib.ListN.{get_or}
use mathlib.Core.Bool.{Bool, ◌&&◌, ◌||◌, false, true}
use mathlib.Core.List.{List}
use mathlib.Core.Path.{◌∙◌, ◌≡◌, ap, refl, subst, sym}
use native.Mathlib.Nat.{div-div-eq-div-mul, div-one}
use native.Mathlib.Omega.{arith}
use Rattle.table.proofs.NameSets.{has_intersection, has_none, has_power, has_union}
use Rattle.table.proofs.Bits.{bit_suc}
use Rattle.table.proofs.Lowest.{zeros_clear, zeros_found}
use Rattle.table.specs.Bounds.{max_rows}
use Rattle.table.specs.NameSet.{bit, has}
use Rattle.table.specs.Pick.{pick}
use Rattle.row_sets.specs.declared.rows.RowSet.{RowSet}
use Rattle.row_sets.specs.Rows.{holds, word_of}
use Rattle.table.proofs.Bools.{by_test}

-- ---- bits

shifted : (w f i : ℕ) → bit (w / 2 ^ f) i ≡ bit w (f + i)
shifted w zero i = rw div-one (ap (λ (n : ℕ). bit w n) (omega arith))
shifted w (suc f) i =
    ap (λ (n : ℕ). bit n i) (half w f) ∙ shifted (w / 2) f i ∙ sym (bit_suc w (f + i)) ∙ ap (λ (n : ℕ). bit w n) (omega arith)
  where
    half : (w f : ℕ) → w / 2 ^ suc f ≡ w / 2 / 2 ^ f
    half w f = sym (div-div-eq-div-mul w 2 (2 ^ f) ∙ ap (λ (n : ℕ). w / n) (omega arith))

pub next_clear : (w f k : ℕ) → f ≤ k → k < f + count_trailing_zeros 64 (w / 2 ^ f) → has w k ≡ false
unfolding has
next_clear w f k l b =
    let z : bit w (f + (k - f)) ≡ 0 = sym (shifted w f (k - f)) ∙ zeros_clear 64 (w / 2 ^ f) (k - f) (omega arith) in
    let e : f + (k - f) ≡ k = omega arith in
    ne_eqb (bit w k) 1 (λ o. let y = subst (λ n. bit w n ≡ 0) e z in omega arith)

pub next_set : (w f : ℕ) → f + count_trailing_zeros 64 (w / 2 ^ f) < 64 → has w (f + count_trailing_zeros 64 (w / 2 ^ f)) ≡ true
unfolding has
next_set w f b =
    eq-eqb (bit w (f + count_trailing_zeros 64 (w / 2 ^ f))) 1
    (sym (shifted w f (count_trailing_zeros 64 (w / 2 ^ f))) ∙ zeros_found 64 (w / 2 ^ f) (omega arith))

-- ---- no row, and a row more

or_last : (a b : Bool) → (a || b) ≡ (b || a)
or_last true true = refl
or_last true false = refl
or_last false true = refl
or_last false false = refl

pub holds_none : (r : RowSet) → r.a ≡ 0 → r.b ≡ 0 → r.c ≡ 0 → r.d ≡ 0 → (j : ℕ) → holds r j ≡ false
unfolding holds
holds_none r a b c d j = ap (λ (w : ℕ). has w (j % 64)) (word (j / 64)) ∙ has_none (j % 64)
  where
    word : (i : ℕ) → word_of r i ≡ 0
    word i =
        by_test (eqb i 0) (λ e. rw (e, a))
        (λ e. by_test (eqb i 1) (λ f. rw (e, f, b))
        (λ f. by_test (eqb i 2) (λ g. rw (e, f, g, c)) (λ g. rw (e, f, g, d))))

pub bit_more : (w new r i : ℕ) → new ≡ 2 ^ r → has (bit_or w new) i ≡ (eqb i r || has w i)
bit_more w new r i is =
    has_union w new i
    ∙ or_last (has w i) (has new i)
    ∙ ap (λ (b : Bool). b || has w i) (ap (λ (n : ℕ). has n i) is ∙ has_power r i)

pub same_word : (k j : ℕ) → k / 64 ≡ j / 64 → eqb (k % 64) (j % 64) ≡ eqb k j
same_word k j e =
    by_test (eqb k j) (λ t. eq-eqb (k % 64) (j % 64) (ap (λ (n : ℕ). n % 64) (eqb-true k j t)) ∙ sym t)
    (λ t. ne_eqb (k % 64) (j % 64) (λ z. eqb-false k j t (omega arith)) ∙ sym t)

pub with_row : (r s : RowSet) (j new : ℕ) → new ≡ 2 ^ (j % 64) → r.a ≡ bit_or s.a (pick (eqb (j / 64) 0) new 0) → r.b ≡ bit_or s.b (pick (eqb (j / 64) 1) new 0) → r.c ≡ bit_or s.c (pick (eqb (j / 64) 2) new 0) → r.d ≡ bit_or s.d (pick (eqb (j / 64) 3) new 0) → (k : ℕ) → k < max_rows → holds r k ≡ (eqb k j || holds s k)
unfolding holds
with_row r s j new is a b c d k l =
    ap (λ (w : ℕ). has w (k % 64)) (word (k / 64) (omega arith))
    ∙ by_test (eqb (j / 64) (k / 64))
    (λ e. let same = eqb-true (j / 64) (k / 64) e in
    rw e (bit_more (word_of s (k / 64)) new (j % 64) (k % 64) is ∙ ap (λ (t : Bool). t || has (word_of s (k / 64)) (k % 64)) (same_word k j (sym same))))
    (λ e. let other = eqb-false (j / 64) (k / 64) e in
    rw (e, ne_eqb k j (λ z. other (ap (λ (n : ℕ). n / 64) (sym z)))) (ap (λ (w : ℕ). has w (k % 64)) (or_zero_r (word_of s (k / 64)))))
  where
    word : (i : ℕ) → i < 4 → word_of r i ≡ bit_or (word_of s i) (pick (eqb (j / 64) i) new 0)
    word zero l = a
    word (suc zero) l = b
    word (suc (suc zero)) l = c
    word (suc (suc (suc zero))) l = d
    word (suc (suc (suc (suc i)))) l = absurd (omega arith)

-- ---- a table of words

pub meet_row : (r s : RowSet) (t : List ℕ) (at to : ℕ) → at ≡ to → r.a ≡ bit_and s.a (get_or t at 0) → r.b ≡ bit_and s.b (get_or t (at + 1) 0) → r.c ≡ bit_and s.c (get_or t (at + 2) 0) → r.d ≡ bit_and s.d (get_or t (at + 3) 0) → (j : ℕ) → j < max_rows → holds r j ≡ (holds s j && has (get_or t (to + j / 64) 0) (j % 64))
unfolding holds
meet_row r s t at to is a b c d j l =
    ap (λ (w : ℕ). has w (j % 64)) (word (j / 64) (omega arith)) ∙ has_intersection (word_of s (j / 64)) (get_or t (at + j / 64) 0) (j % 64)
    ∙ ap (λ (n : ℕ). has (word_of s (j / 64)) (j % 64) && has (get_or t (n + j / 64) 0) (j % 64)) is
  where
    word : (i : ℕ) → i < 4 → word_of r i ≡ bit_and (word_of s i) (get_or t (at + i) 0)
    word zero l = a ∙ ap (λ (n : ℕ). bit_and s.a (get_or t n 0)) (omega arith)
    word (suc zero) l = b
    word (suc (suc zero)) l = c
    word (suc (suc (suc zero))) l = d
    word (suc (suc (suc (suc i)))) l = absurd (omega arith)

-- ---- word by word

module _ (s : RowSet) (at i w : ℕ) (is : w ≡ word_of s (at / 64)) where
  row_of : (k : ℕ) → k / 64 ≡ at / 64 → holds s k ≡ has w (k % 64)
  unfolding holds
  row_of k e = ap (λ (n : ℕ). has (word_of s n) (k % 64)) e ∙ ap (λ (v : ℕ). has v (k % 64)) (sym is)

  in_word : ((k : ℕ) → at % 64 ≤ k → k < i → has w k ≡ false) → (k : ℕ) → at ≤ k → k < at / 64 * 64 + i → k < at / 64 * 64 + 64 → holds s k ≡ false
  in_word none k a b c = row_of k (omega arith) ∙ none (k % 64) (omega arith) (omega arith)

  pub before_word : (from rows : ℕ) → ((k : ℕ) → from ≤ k → k < at → k < rows → holds s k ≡ false) → ((k : ℕ) → at % 64 ≤ k → k < i → has w k ≡ false) → (k : ℕ) → from ≤ k → k < at / 64 * 64 + i → k < at / 64 * 64 + 64 → k < rows → holds s k ≡ false
  before_word from rows sooner none k a b c l =
      by_test (ltb k at) (λ e. sooner k a (ltb-true k at e) l) (λ e. in_word none k (ltb-false k at e) b c)

  pub at_word : i < 64 → has w i ≡ true → holds s (at / 64 * 64 + i) ≡ true
  at_word l h = row_of (at / 64 * 64 + i) (omega arith) ∙ ap (λ (n : ℕ). has w n) (omega arith) ∙ h
