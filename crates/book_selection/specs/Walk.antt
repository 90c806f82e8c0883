-- A walk over the cards of a word. Nobody has to believe these.
--   CardStep   a step: nothing if none is left, else the next one, and it goes on behind that
use Rattle.std.specs.Prelude.{ℕ, ◌≡◌, ◌+◌, ◌<◌, Option, MatchOption}
use Rattle.book.specs.Form.{most_cards}
use Rattle.book_selection.specs.Next.{NextCard, NoneMet}
use Rattle.book_selection.specs.declared.cards.Cards.{Cards}

abbrev pub CardStep : Cards → Option ℕ → Cards → Type 0
CardStep c r n =
    MatchOption r (NoneMet c.word c.from most_cards × (n ≡ c))
    (λ k. (k < most_cards) × NextCard c.word c.from k × (n.from ≡ k + 1) × (n.word ≡ c.word))
