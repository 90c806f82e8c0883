-- What the comparison of the cards that cover the case has found. Nobody has to believe these.
--   Ordered      which of two cards covers the other
--   Paired       a word with the one of two cards that covers the other strictly
--   Earlier      a pair that comes before card m with card n
--   ComparedTo, Compared   of those that cover the case each card below m is compared with each earlier one, card m with
--                those below n: of each such pair of which one covers the other strictly one is redundant; and each
--                redundant one is passed over
use Rattle.std.specs.Prelude.{◌<◌, ℕ, true, List, ◌⊎◌, ◌≡◌}
use Rattle.table.specs.NameSet.{has}
use Rattle.table.specs.declared.layout.Limits.{Limits}
use Rattle.order.specs.Preorder.{is_passed_over, strict}
use Rattle.book.specs.Form.{card_count}
use Rattle.book.specs.Selection.{card_covers}
use Rattle.book_form.specs.Words.{WithEach}
use Rattle.book_selection.specs.declared.compare.Order.{Order}

abbrev pub Ordered : Limits → List ℕ → ℕ → ℕ → Order → Type 0
Ordered limits book m n r = (r.over ≡ card_covers limits book m n) × (r.under ≡ card_covers limits book n m)

abbrev pub Paired : Limits → List ℕ → ℕ → ℕ → ℕ → ℕ → Type 0
Paired limits book m n word r = WithEach word m (strict (card_covers limits book) m n) n
    (strict (card_covers limits book) n m) r

abbrev pub Earlier : ℕ → ℕ → ℕ → ℕ → Type 0
Earlier m n i j = (i < m) ⊎ ((i ≡ m) × (j < n))

pub record ComparedTo (limits : Limits) (book : List ℕ) (covering m n redundant : ℕ) : Type 0 where
  pub sound : (i : ℕ) → has redundant i ≡ true →
      is_passed_over (card_covers limits book) (card_count book) (has covering) i ≡ true
  pub decided : (i j : ℕ) → has covering i ≡ true → has covering j ≡ true → j < i → Earlier m n i j →
      (strict (card_covers limits book) i j ≡ true) ⊎ (strict (card_covers limits book) j i ≡ true) →
      (has redundant i ≡ true) ⊎ (has redundant j ≡ true)

abbrev pub Compared : Limits → List ℕ → ℕ → ℕ → ℕ → Type 0
Compared limits book covering m redundant = ComparedTo limits book covering m 0 redundant
