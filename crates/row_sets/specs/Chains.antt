-- A walk along links. Nobody has to believe these.
--   OnChain    a walk along the rows that hang from row c may be at j; at 0 it is at its end
--   left_on    how many rows are left for it at most
use Rattle.std.specs.Prelude.{ℕ, ◌<◌, ◌+◌, ◌-◌, ◌≡◌, eqb}
use Rattle.table.specs.Pick.{pick}

abbrev pub OnChain : (ℕ → ℕ) → ℕ → ℕ → ℕ → Type 0
OnChain parent rows c j = (j ≡ 0 → ⊥) → (j < rows) × (parent j ≡ c)

abbrev pub left_on : ℕ → ℕ → ℕ
left_on rows j = pick (eqb j 0) 0 (rows + 1 - j)
