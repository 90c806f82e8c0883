-- The next card of a word. Nobody has to believe these.
--   NoneMet    none of them is from one card on before another
--   NextCard   the first of them from one on
use Rattle.std.specs.Prelude.{ℕ, ◌≡◌, ◌≤◌, ◌<◌, false, true}
use Rattle.table.specs.NameSet.{has}
use Rattle.book.specs.Form.{most_cards}

abbrev pub NoneMet : ℕ → ℕ → ℕ → Type 0
NoneMet word from n = (k : ℕ) → from ≤ k → k < n → has word k ≡ false

pub record NextCard (word from r : ℕ) : Type 0 where
  pub later : from ≤ r
  pub none : NoneMet word from r
  pub there : r < most_cards → has word r ≡ true
