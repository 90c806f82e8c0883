-- 01, "The file": the depth of a row is the number of edges from the root.
use Rattle.std.specs.Prelude.{ℕ, zero, suc}

-- edges from row n up to row 0, counted in at most `steps` steps
unfoldable pub depth_in : (ℕ → ℕ) → ℕ → ℕ → ℕ
depth_in parent zero n = 0
depth_in parent (suc steps) zero = 0
depth_in parent (suc steps) (suc n) = suc (depth_in parent steps (parent (suc n)))

-- a parent stands before its row, so n steps are enough
unfoldable pub depth : (ℕ → ℕ) → ℕ → ℕ
depth parent n = depth_in parent n n
