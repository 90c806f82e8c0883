-- What the code has of words of cards. Nobody has to believe these.
--   With, WithEach   a word with card k if a test passes; with two cards
use Rattle.std.specs.Prelude.{ℕ, eqb, Bool, ◌&&◌, ◌||◌, ◌≡◌}
use Rattle.table.specs.NameSet.{has}

abbrev pub With : ℕ → ℕ → Bool → ℕ → Type 0
With word k test r = (i : ℕ) → has r i ≡ (has word i || (eqb i k && test))

abbrev pub WithEach : ℕ → ℕ → Bool → ℕ → Bool → ℕ → Type 0
WithEach word m test n other r = (i : ℕ) → has r i ≡ ((has word i || (eqb i m && test)) || (eqb i n && other))
