-- 01, "Nearest cards for a case ... The answer is a 32-bit word, bit n for card n", with the rule of 02, U2: "A covering
-- card is passed over exactly when it covers another covering card that does not cover it in return." In the field's
-- terms: the most specific subsumers of a description.
--   PassedOverBy      card n is passed over. The card that it covers is another one, since each covers itself
--   MostSpecificBy    card n is nearest: it covers the case and is not passed over
--   PassedOver, MostSpecific   with covering by meaning (meaning, specs/Covering: `Covers`)
--   card_covers        card k covers card j, by the test that decides it (`covers`)
--   case_covered       card k covers the case
--   most_specific      card k is nearest, by these tests (order, specs/Preorder: `minimal`; proofs/Selections:
--                     `most-specific-exactly`)
--   most_specific_cards the answer: card k is the bit of weight 2^k
use Rattle.std.specs.Prelude.{ℕ, ◌<◌, Bool, List}
use Rattle.table.specs.NameSet.{set_below}
use Rattle.table.specs.declared.layout.Limits.{Limits}
use Rattle.order.specs.Preorder.{minimal}
use Rattle.meaning.specs.Covering.{Covers, covers}
use Rattle.book.specs.Form.{card, card_count}

-- over any covering of the case and of cards by each other, by number
pub record PassedOverBy (count : ℕ) (CoversCase : ℕ → Type 0) (CoversCard : ℕ → ℕ → Type 0) (n : ℕ) : Type 0 where
  pub another : ℕ
  pub other_in_book : another < count
  pub other_covers : CoversCase another
  pub covered : CoversCard n another
  pub not_in_return : CoversCard another n → ⊥

pub record MostSpecificBy (count : ℕ) (CoversCase : ℕ → Type 0) (CoversCard : ℕ → ℕ → Type 0) (n : ℕ) : Type 0 where
  pub in_book : n < count
  pub covers_case : CoversCase n
  pub not_passed_over : PassedOverBy count CoversCase CoversCard n → ⊥

abbrev pub PassedOver : Limits → List ℕ → List ℕ → ℕ → Type 0
PassedOver limits case book =
    PassedOverBy (card_count book) (λ k. Covers limits (card book k) case)
    (λ k j. Covers limits (card book k) (card book j))

abbrev pub MostSpecific : Limits → List ℕ → List ℕ → ℕ → Type 0
MostSpecific limits case book =
    MostSpecificBy (card_count book) (λ k. Covers limits (card book k) case)
    (λ k j. Covers limits (card book k) (card book j))

abbrev pub card_covers : Limits → List ℕ → ℕ → ℕ → Bool
card_covers limits book k j = covers limits (card book k) (card book j)

abbrev pub case_covered : Limits → List ℕ → List ℕ → ℕ → Bool
case_covered limits case book k = covers limits (card book k) case

unfoldable pub most_specific : Limits → List ℕ → List ℕ → ℕ → Bool
most_specific limits case book k = minimal (card_covers limits book) (card_count book) (case_covered limits case book) k

unfoldable pub most_specific_cards : Limits → List ℕ → List ℕ → ℕ
most_specific_cards limits case book = set_below (most_specific limits case book) (card_count book)
