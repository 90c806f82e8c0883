-- Sums over the rows that pass a test.
--   total_none     nothing, if no row passes
--   total_one      a row that passes is in the sum
--   total_same     the same number for each row
--   total_more     more rows, with more each
--   total_parts    rows that pass one of two tests, and never both
--   total_cover    rows each of which passes one of two tests
--   total_sum      two numbers for each row
--   total_times    one and a multiple for each row
--   some_passes    a row passes, or none does
--   total_most     to bound a sum, a row that passes may be assumed
use Prim.Native.Nat.{◌*◌, ◌+◌, ◌<◌, ◌≤◌, suc, zero, ℕ}
use mathlib.Core.Bool.{Bool, false, true}
use mathlib.Core.Logic.{◌⊎◌, inl, inr, ⊎_elim}
use mathlib.Core.Path.{◌≡◌, refl, subst, sym}
use native.Mathlib.Nat.{eq-or-lt_of_le}
use native.Mathlib.Omega.{arith}
use Rattle.table.specs.Pick.{pick}
use Rattle.table.proofs.Bools.{by_test}
use Rattle.merged_count.specs.Bound.{total}

-- ---- one row

one_none : (a : Bool) (x : ℕ) → a ≡ false → pick a x 0 ≡ 0
one_none a x e = rw e

one_more : (a b : Bool) (x y : ℕ) → (a ≡ true → (b ≡ true) × (x ≤ y)) → pick a x 0 ≤ pick b y 0
one_more true b x y h = rw (h refl).0 (h refl).1
one_more false b x y h = omega arith

one_parts : (a b c : Bool) (x y z : ℕ) → (a ≡ true → (b ≡ false) × (c ≡ true) × (x ≤ z)) →
    (b ≡ true → (c ≡ true) × (y ≤ z)) → pick a x 0 + pick b y 0 ≤ pick c z 0
one_parts true b c x y z h g = let l = (h refl).2 in rw ((h refl).0, (h refl).1) (omega arith)
one_parts false b c x y z h g = let l = one_more b c y z g in omega arith

one_cover : (a b c : Bool) (x : ℕ) → (a ≡ true → (b ≡ true) ⊎ (c ≡ true)) → pick a x 0 ≤ pick b x 0 + pick c x 0
one_cover true b c x h = ⊎_elim (λ e. rw e (omega arith)) (λ e. rw e (omega arith)) (h refl)
one_cover false b c x h = omega arith

one_sum : (a : Bool) (x y : ℕ) → pick a (x + y) 0 ≡ pick a x 0 + pick a y 0
one_sum true x y = refl
one_sum false x y = refl

one_times : (a : Bool) (x k : ℕ) → pick a (1 + x * k) 0 ≡ pick a 1 0 + pick a x 0 * k
one_times true x k = refl
one_times false x k = omega arith

-- ---- all rows

pub total_none : (q : ℕ → Bool) (f : ℕ → ℕ) (n : ℕ) → ((j : ℕ) → j < n → q j ≡ false) → total q f n ≡ 0
total_none q f zero h = refl
total_none q f (suc n) h =
    omega (arith, one_none (q n) (f n) (h n (omega arith)), total_none q f n (λ j l. h j (omega arith)))

pub total_one : (q : ℕ → Bool) (f : ℕ → ℕ) (n j : ℕ) → j < n → q j ≡ true → f j ≤ total q f n
total_one q f zero j l e = absurd (omega arith)
total_one q f (suc n) j l e =
    ⊎_elim (λ z. subst (λ i. f i ≤ total q f (suc n)) (sym z) (here (subst (λ i. q i ≡ true) z e)))
    (λ b. omega (arith, total_one q f n j (omega arith) e)) (eq-or-lt_of_le {n = j} {m = n} (omega arith))
  where
    here : q n ≡ true → f n ≤ total q f (suc n)
    here h = rw h (omega arith)

pub total_same : (q r : ℕ → Bool) (f g : ℕ → ℕ) (n : ℕ) →
    ((j : ℕ) → j < n → pick (q j) (f j) 0 ≡ pick (r j) (g j) 0) → total q f n ≡ total r g n
total_same q r f g zero h = refl
total_same q r f g (suc n) h = omega (arith, h n (omega arith), total_same q r f g n (λ j l. h j (omega arith)))

pub total_more : (q r : ℕ → Bool) (f g : ℕ → ℕ) (n : ℕ) →
    ((j : ℕ) → j < n → q j ≡ true → (r j ≡ true) × (f j ≤ g j)) → total q f n ≤ total r g n
total_more q r f g zero h = omega arith
total_more q r f g (suc n) h =
    omega (arith, one_more (q n) (r n) (f n) (g n) (h n (omega arith)), total_more q r f g n (λ j l. h j (omega arith)))

pub total_parts : (q r t : ℕ → Bool) (f g h : ℕ → ℕ) (n : ℕ) →
    ((j : ℕ) → j < n → q j ≡ true → (r j ≡ false) × (t j ≡ true) × (f j ≤ h j)) →
    ((j : ℕ) → j < n → r j ≡ true → (t j ≡ true) × (g j ≤ h j)) → total q f n + total r g n ≤ total t h n
total_parts q r t f g h zero a b = omega arith
total_parts q r t f g h (suc n) a b =
    omega (
      arith,
      one_parts (q n) (r n) (t n) (f n) (g n) (h n) (a n (omega arith)) (b n (omega arith)),
      total_parts q r t f g h n (λ j l. a j (omega arith)) (λ j l. b j (omega arith)),
    )

pub total_cover : (q r t : ℕ → Bool) (f : ℕ → ℕ) (n : ℕ) →
    ((j : ℕ) → j < n → q j ≡ true → (r j ≡ true) ⊎ (t j ≡ true)) → total q f n ≤ total r f n + total t f n
total_cover q r t f zero h = omega arith
total_cover q r t f (suc n) h =
    let each = one_cover (q n) (r n) (t n) (f n) (h n (omega arith)) in
    omega (arith, total_cover q r t f n (λ j l. h j (omega arith)))

pub total_sum : (q : ℕ → Bool) (f g : ℕ → ℕ) (n : ℕ) → total q (λ j. f j + g j) n ≡ total q f n + total q g n
total_sum q f g zero = refl
total_sum q f g (suc n) = omega (arith, one_sum (q n) (f n) (g n), total_sum q f g n)

pub total_times : (q : ℕ → Bool) (f : ℕ → ℕ) (k n : ℕ) →
    total q (λ j. 1 + f j * k) n ≡ total q (λ _. 1) n + total q f n * k
total_times q f k zero = omega arith
total_times q f k (suc n) = omega (arith, one_times (q n) (f n) k, total_times q f k n)

-- ---- whether there is a row

pub some_passes : (q : ℕ → Bool) (n : ℕ) →
    ((j : ℕ) × (j < n) × (q j ≡ true)) ⊎ ((j : ℕ) → j < n → q j ≡ false)
some_passes q zero = inr (λ j l. absurd (omega arith))
some_passes q (suc n) = by_test (q n) (λ e. inl (n, omega arith, e)) (λ e. on e (some_passes q n))
  where
    last : q n ≡ false → ((j : ℕ) → j < n → q j ≡ false) → (j : ℕ) → j < suc n → q j ≡ false
    last e none j l =
        ⊎_elim (λ z. subst (λ i. q i ≡ false) (sym z) e) (λ b. none j b) (eq-or-lt_of_le {n = j} {m = n} (omega arith))

    on : q n ≡ false → ((j : ℕ) × (j < n) × (q j ≡ true)) ⊎ ((j : ℕ) → j < n → q j ≡ false) →
        ((j : ℕ) × (j < suc n) × (q j ≡ true)) ⊎ ((j : ℕ) → j < suc n → q j ≡ false)
    on e (inl w) = let l = w.1 in inl (w.0, omega arith, w.2)
    on e (inr none) = inr (last e none)

pub total_most : (q : ℕ → Bool) (f : ℕ → ℕ) (n m : ℕ) →
    ((j : ℕ) → j < n → q j ≡ true → total q f n ≤ m) → total q f n ≤ m
total_most q f n m h =
    ⊎_elim (λ w. h w.0 w.1 w.2) (λ none. omega (arith, total_none q f n none)) (some_passes q n)
