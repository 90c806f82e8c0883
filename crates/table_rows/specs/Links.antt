-- What hangs from each row, by links: for each row the lowest that hangs from it, and then for each row the next that hangs from the same one;
-- 0 if there is none. Row 0 hangs from no row. The rows are those of any table by number: of a picture, or the individuals of a refutation.
-- Nobody has to believe these.
--   Zeros     a list of zeros
--   Nearest   the lowest row from one on that hangs from row c, or 0
--   Linked    both links of each row, the first ones from place 0 on, the next ones from `width` on
use Rattle.std.specs.Prelude.{◌+◌, ◌<◌, ◌≤◌, ℕ, get_or, length, List, ◌≡◌}

pub record Zeros (n : ℕ) (t : List ℕ) : Type 0 where
  pub size : length t ≡ n
  pub zeros : (j : ℕ) → get_or t j 0 ≡ 0

pub record Nearest (parent : ℕ → ℕ) (rows c from r : ℕ) : Type 0 where
  pub hung : (r ≡ 0 → ⊥) → (from ≤ r) × (r < rows) × (parent r ≡ c)
  pub first : (k : ℕ) → (k ≡ 0 → ⊥) → from ≤ k → k < rows → parent k ≡ c → (r ≡ 0 → ⊥) × (r ≤ k)

pub record Linked (parent : ℕ → ℕ) (rows width : ℕ) (links : List ℕ) : Type 0 where
  pub lowest : (c : ℕ) → c < rows → Nearest parent rows c 1 (get_or links c 0)
  pub later : (j : ℕ) → (j ≡ 0 → ⊥) → j < rows → Nearest parent rows (parent j) (j + 1) (get_or links (width + j) 0)
