-- Tests of the numbers below n, as types (table/proofs/Ranges has them as equations); and a test that implies another.
--   each_in, each_out         all pass exactly if each does
--   some_in, some_out         one passes exactly if there is one that does
--   some_none                 and none does if a search for one fails
--   implied_in, implied_out   `not a || b` passes exactly if b does where a does
use Prim.Native.Nat.{◌<◌, ℕ}
use lib.Dec.{T}
use mathlib.Core.Bool.{Bool, ◌||◌, not}
use mathlib.Core.Logic.{⊎_elim}
use native.Mathlib.Omega.{arith}
use Rattle.table.specs.Range.{each, some}
use Rattle.table.proofs.Bools.{is_true, true_is}
use Rattle.table.proofs.Ranges.{at_each, at_some, each_at, some_at}
use Rattle.ale.proofs.Tests.{clash, decide, or_left, or_right, or_split, refute}

module _ (f : ℕ → Bool) (n : ℕ) where
  pub each_in : ((k : ℕ) → k < n → T (f k)) → T (each f n 0)
  each_in h = true_is (each f n 0) (at_each f n 0 (λ k a b. is_true (f k) (h k (omega arith))))

  pub each_out : T (each f n 0) → (k : ℕ) → k < n → T (f k)
  each_out h k l = true_is (f k) (each_at f n 0 (is_true (each f n 0) h) k (omega arith) (omega arith))

  pub some_in : (k : ℕ) → k < n → T (f k) → T (some f n 0)
  some_in k l t = true_is (some f n 0) (at_some f n 0 k (omega arith) (omega arith) (is_true (f k) t))

  pub some_out : T (some f n 0) → (k : ℕ) × (k < n) × T (f k)
  some_out h = let (k, a, b, t) = some_at f n 0 (is_true (some f n 0) h) in (k, omega arith, true_is (f k) t)

  pub some_none : T (not (some f n 0)) → (k : ℕ) → k < n → T (not (f k))
  some_none h k l = refute (f k) (λ t. clash (some f n 0) (some_in k l t) h)

pub implied_in : (a b : Bool) → (T a → T b) → T (not a || b)
implied_in a b h = ⊎_elim (λ t. or_right (not a) b (h t)) (λ t. or_left (not a) b t) (decide a)

pub implied_out : (a b : Bool) → T (not a || b) → T a → T b
implied_out a b h t = ⊎_elim (λ x. absurd (clash a t x)) (λ x. x) (or_split (not a) b h)
