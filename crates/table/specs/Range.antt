-- Tests over the numbers of a range.
--   some f n j   whether f holds of one of the n numbers from j on
--   each f n j   whether f holds of every one of them
use Rattle.std.specs.Prelude.{Bool, true, false, ◌&&◌, ◌||◌, ℕ, zero, suc, ◌+◌}

unfoldable pub some : (ℕ → Bool) → ℕ → ℕ → Bool
some f zero j = false
some f (suc n) j = f j || some f n (j + 1)

unfoldable pub each : (ℕ → Bool) → ℕ → ℕ → Bool
each f zero j = true
each f (suc n) j = f j && each f n (j + 1)
