-- Laws of tests over the numbers of a range, for any f.
--   left_suc                         what is left of a range before a turn, and after it
--   each_on, each_fails, each_done   a turn of a test of all that goes on, fails, has nothing left; the range is n - i from i
--   some_at, at_some                 a search succeeds exactly when f holds of a number of the range
--   each_at, at_each                 a test of all succeeds exactly when f holds of every number of the range
--   some_same, each_same             functions that agree on the range give the same
--   each_listed                      a test of all numbers of the range, listed
use mathlib.Core.Path.{◌≡◌, refl, ap, ◌∙◌}
use mathlib.Core.Bool.{Bool, true, false, ◌&&◌, false≢true, or-true}
use mathlib.Core.Logic.{⊎_elim}
use Prim.Native.Nat.{ℕ, zero, suc, ◌+◌, ◌-◌, ◌≤◌, ◌<◌}
use native.Mathlib.Nat.{eq-or-lt_of_le}
use native.Mathlib.Omega.{arith}
use Rattle.std.specs.List.{list_all, range_with_len}
use Rattle.table.specs.Range.{some, each}
use Rattle.table.proofs.Bools.{either, both}

-- one turn of a loop

pub left_suc : (n i : ℕ) → i < n → n - i ≡ suc (n - (i + 1))
left_suc n i h = omega arith

left_none : (n i : ℕ) → n ≤ i → n - i ≡ zero
left_none n i h = omega arith

each_step : (f : ℕ → Bool) (n i : ℕ) → i < n → each f (n - i) i ≡ (f i && each f (n - (i + 1)) (i + 1))
unfolding each
each_step f n i h = rw (left_suc n i h)

pub each_on : (f : ℕ → Bool) (n i : ℕ) → i < n → f i ≡ true → each f (n - i) i ≡ each f (n - (i + 1)) (i + 1)
each_on f n i h e = each_step f n i h ∙ rw e

pub each_fails : (f : ℕ → Bool) (n i : ℕ) → i < n → f i ≡ false → each f (n - i) i ≡ false
each_fails f n i h e = each_step f n i h ∙ rw e

pub each_done : (f : ℕ → Bool) (n i : ℕ) → n ≤ i → each f (n - i) i ≡ true
unfolding each
each_done f n i h = rw (left_none n i h)

-- what the tests mean

pub some_at : (f : ℕ → Bool) (n j : ℕ) → some f n j ≡ true → (k : ℕ) × (j ≤ k) × (k < j + n) × (f k ≡ true)
unfolding some
some_at f zero j e = absurd (false≢true e)
some_at f (suc n) j e =
    ⊎_elim
    (λ (t : f j ≡ true). (j, omega arith, omega arith, t))
    (λ (t : some f n (j + 1) ≡ true). let (k, l, u, i) = some_at f n (j + 1) t in (k, omega arith, omega arith, i))
    (either (f j) (some f n (j + 1)) e)

pub at_some : (f : ℕ → Bool) (n j k : ℕ) → j ≤ k → k < j + n → f k ≡ true → some f n j ≡ true
unfolding some
at_some f zero j k l u t = absurd (omega arith)
at_some f (suc n) j k l u t =
    ⊎_elim
    (λ (e : j ≡ k). rw (e, t))
    (λ (s : j < k). rw (at_some f n (j + 1) k (omega arith) (omega arith) t) (or-true (f j)))
    (eq-or-lt_of_le l)

pub each_at : (f : ℕ → Bool) (n j : ℕ) → each f n j ≡ true → (k : ℕ) → j ≤ k → k < j + n → f k ≡ true
unfolding each
each_at f zero j e k l u = absurd (omega arith)
each_at f (suc n) j e k l u =
    let (t, r) = both (f j) (each f n (j + 1)) e in
    ⊎_elim
    (λ (e : j ≡ k). rw (← e) t)
    (λ (s : j < k). each_at f n (j + 1) r k (omega arith) (omega arith))
    (eq-or-lt_of_le l)

pub at_each : (f : ℕ → Bool) (n j : ℕ) → ((k : ℕ) → j ≤ k → k < j + n → f k ≡ true) → each f n j ≡ true
unfolding each
at_each f zero j h = refl
at_each f (suc n) j h = rw (h j (omega arith) (omega arith)) (at_each f n (j + 1) (λ k l u. h k (omega arith) (omega arith)))

-- functions that agree

pub some_same : (f g : ℕ → Bool) (n j : ℕ) → ((k : ℕ) → j ≤ k → k < j + n → f k ≡ g k) → some f n j ≡ some g n j
unfolding some
some_same f g zero j h = refl
some_same f g (suc n) j h = rw (h j (omega arith) (omega arith), some_same f g n (j + 1) (λ k l u. h k (omega arith) (omega arith)))

pub each_same : (f g : ℕ → Bool) (n j : ℕ) → ((k : ℕ) → j ≤ k → k < j + n → f k ≡ g k) → each f n j ≡ each g n j
unfolding each
each_same f g zero j h = refl
each_same f g (suc n) j h =
    rw (h j (omega arith) (omega arith), each_same f g n (j + 1) (λ k l u. h k (omega arith) (omega arith)))

-- what `all` over a range decides
pub each_listed : (f : ℕ → Bool) (n j : ℕ) → list_all f (range_with_len j n) ≡ each f n j
unfolding each
each_listed f zero j = refl
each_listed f (suc n) j = ap (λ (b : Bool). f j && b) (each_listed f n (j + 1))
