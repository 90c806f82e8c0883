-- Which cards are selected: the bits of the answer are the most specific cards, with covering by meaning.
--   cards_preorder            the cards of a book whose cards are readable are a preorder by covering
--   has_selected              the bits of the answer, by the tests
--   past_last                 places past the last card are 0
--   word_below                the answer is a 32-bit word
--   passed_exactly            the test of being passed over is what it is by meaning
--   most_specific_exactly     bit n is set exactly if card n is most specific
--   most_specific_not         and not set exactly if it is not
--   most_specific_decidable   so it is decidable
--   below_each                each card that covers the case covers a most specific one
--   some_exactly              the answer is not 0 exactly if some card covers the case (02, U2)
--   together                  of cards that cover each other all are most specific or none
--   alone                     the only card that covers the case is most specific
use Prim.Native.Nat.{◌<◌, ◌^◌, ◌≤◌, ℕ}
use borrow.Author.Tests.{le-ltb, lt-ltb, ltb-true}
use lib.Dec.{ltb}
use lib.Pow.{pow_mono}
use mathlib.Core.Bool.{Bool, ◌&&◌, false, false≢true, true}
use mathlib.Core.List.{List}
use mathlib.Core.Logic.{◌↔◌}
use mathlib.Core.Path.{◌∙◌, ◌≡◌, ap, subst, sym}
use native.Mathlib.Nat.{lt_of_lt_of_le}
use Rattle.order.proofs.Minima.{is_minimal, is_strict, minimal_is, minimal_under, over_passed, passed_over, strict_is}
use Rattle.order.specs.Preorder.{Preorder, is_passed_over}
use Rattle.meaning.proofs.Coverings.{covers_exactly, covers_itself, covers_through}
use Rattle.meaning.specs.Covering.{Covers}
use Rattle.picture.specs.Readable.{Readable}
use Rattle.table.proofs.Tests.{refuted}
use Rattle.table.proofs.Bools.{both, by_test}
use Rattle.table.proofs.NameSets.{has_none}
use Rattle.table.specs.NameSet.{has}
use Rattle.table.specs.declared.layout.Limits.{Limits}
use Rattle.book.specs.Call.{AcceptableBook}
use Rattle.book.specs.Form.{card, card_count, card_tag, most_cards}
use Rattle.book.specs.Selection.{MostSpecific, PassedOver, card_covers, case_covered, most_specific, most_specific_cards}
use Rattle.table.proofs.SetsBelow.{has_set_below, set_below_below, set_below_some}
use Rattle.fields.proofs.Forms.{count_most}

module _ (limits : Limits) (book : List ℕ)
    (cards_readable : (k : ℕ) → k < card_count book → Readable limits (card book k)) where
  card_exactly : (n m : ℕ) → n < card_count book → m < card_count book →
      Covers limits (card book n) (card book m) ↔ (card_covers limits book n m ≡ true)
  card_exactly n m l k = covers_exactly limits (card book m) (card book n) (cards_readable m k) (cards_readable n l)

  pub cards_preorder : Preorder (card_covers limits book) (card_count book)
  cards_preorder = record {
    reflexive = λ i l. (card_exactly i i l l).0 (covers_itself limits (card book i));
    transitive = λ i j k p q r a b.
        (card_exactly i k p r).0
        (covers_through limits (card book i) (card book j) (card book k) ((card_exactly i j p q).1 a)
        ((card_exactly j k q r).1 b));
  }

module _ (limits : Limits) (case book : List ℕ) where
  pub has_selected : (n : ℕ) → has (most_specific_cards limits case book) n ≡ (ltb n (card_count book) && most_specific limits case book n)
  unfolding most_specific_cards
  has_selected = has_set_below (most_specific limits case book) (card_count book)

  pub past_last : (n : ℕ) → card_count book ≤ n → has (most_specific_cards limits case book) n ≡ false
  past_last n l = has_selected n ∙ rw (le-ltb n (card_count book) l)

  pub word_below : most_specific_cards limits case book < 2 ^ most_cards
  unfolding most_specific_cards
  word_below =
      lt_of_lt_of_le (set_below_below (most_specific limits case book) (card_count book))
      (pow_mono (count_most card_tag book))

  -- ---- by meaning

  module _ (acceptable : AcceptableBook limits case book) where
    case_exactly : (n : ℕ) → n < card_count book → Covers limits (card book n) case ↔ (case_covered limits case book n ≡ true)
    case_exactly n l = covers_exactly limits case (card book n) acceptable.case_readable (acceptable.cards_readable n l)

    abbrev card_tests : (n m : ℕ) → n < card_count book → m < card_count book →
        Covers limits (card book n) (card book m) ↔ (card_covers limits book n m ≡ true)
    card_tests = card_exactly limits book acceptable.cards_readable

    abbrev passed : ℕ → Bool
    passed = is_passed_over (card_covers limits book) (card_count book) (case_covered limits case book)

    pub passed_exactly : (n : ℕ) → n < card_count book → (passed n ≡ true) ↔ PassedOver limits case book n
    passed_exactly n l = (
      λ h.
          let (m, k, c, s) = passed_over (card_covers limits book) (card_count book) (case_covered limits case book) n h in
          let (a, b) = strict_is (card_covers limits book) n m s in
          record {
            another = m;
            other_in_book = k;
            other_covers = (case_exactly m k).1 c;
            covered = (card_tests n m l k).1 a;
            not_in_return = λ d. false≢true (sym b ∙ (card_tests m n k l).0 d);
          },
      λ p.
          let m = p.another in
          let k = p.other_in_book in
          over_passed (card_covers limits book) (card_count book) (case_covered limits case book) n m k
          ((case_exactly m k).0 p.other_covers)
          (is_strict (card_covers limits book) n m ((card_tests n m l k).0 p.covered)
          (refuted (card_covers limits book m n) (λ e. p.not_in_return ((card_tests m n k l).1 e)))),
    )

    -- the test of a card is what it is by meaning
    card_is : (n : ℕ) → n < card_count book → (most_specific limits case book n ≡ true) ↔ MostSpecific limits case book n
    unfolding most_specific
    card_is n l = (
      λ h.
          let (c, kept) = minimal_is (card_covers limits book) (card_count book) (case_covered limits case book) n h in
          record {
            in_book = l;
            covers_case = (case_exactly n l).1 c;
            not_passed_over = λ p. false≢true (sym kept ∙ (passed_exactly n l).1 p);
          },
      λ s.
          is_minimal (card_covers limits book) (card_count book) (case_covered limits case book) n
          ((case_exactly n l).0 s.covers_case) (λ h. s.not_passed_over ((passed_exactly n l).0 h)),
    )

    pub most_specific_exactly : (n : ℕ) → (has (most_specific_cards limits case book) n ≡ true) ↔ MostSpecific limits case book n
    most_specific_exactly n = (
      λ h.
          let (l, test) = both (ltb n (card_count book)) (most_specific limits case book n) (sym (has_selected n) ∙ h) in
          (card_is n (ltb-true n (card_count book) l)).0 test,
      λ s. has_selected n ∙ rw (lt-ltb n (card_count book) s.in_book, (card_is n s.in_book).1 s),
    )

    pub most_specific_not : (n : ℕ) → (has (most_specific_cards limits case book) n ≡ false) ↔ (MostSpecific limits case book n → ⊥)
    most_specific_not n = (
      λ e s. false≢true (sym e ∙ (most_specific_exactly n).1 s),
      λ u. refuted (has (most_specific_cards limits case book) n) (λ e. u ((most_specific_exactly n).0 e)),
    )

    pub most_specific_decidable : (n : ℕ) → Dec (MostSpecific limits case book n)
    most_specific_decidable n =
        by_test (has (most_specific_cards limits case book) n) (λ e. yes ((most_specific_exactly n).0 e)) (λ e. no ((most_specific_not n).0 e))

    pub below_each : (k : ℕ) → k < card_count book → Covers limits (card book k) case →
        (n : ℕ) × MostSpecific limits case book n × Covers limits (card book k) (card book n)
    unfolding most_specific
    below_each k l c =
        let (n, m, least, over) =
        minimal_under (card_covers limits book) (card_count book) (case_covered limits case book)
        (cards_preorder limits book acceptable.cards_readable) k l ((case_exactly k l).0 c) in
        (n, (card_is n m).0 least, (card_tests k n l m).1 over)

    pub some_exactly : (most_specific_cards limits case book ≡ 0 → ⊥)
        ↔ ((k : ℕ) × (k < card_count book) × Covers limits (card book k) case)
    unfolding most_specific_cards
    some_exactly = (
      λ u. let (k, l, test) = set_below_some (most_specific limits case book) (card_count book) u in
          (k, l, ((card_is k l).0 test).covers_case),
      λ (k, l, c) e.
          let (n, most, _) = below_each k l c in
          false≢true (sym (has_none n) ∙ ap (λ (w : ℕ). has w n) (sym e) ∙ (most_specific_exactly n).1 most),
    )

  -- ---- what the definition says, of any bytes

  pub together : (m n : ℕ) → n < card_count book → Covers limits (card book m) (card book n) →
      Covers limits (card book n) (card book m) → MostSpecific limits case book m → MostSpecific limits case book n
  together m n l up down s = record {
    in_book = l;
    covers_case = covers_through limits (card book n) (card book m) case down s.covers_case;
    not_passed_over = λ p. s.not_passed_over (record {
      another = p.another;
      other_in_book = p.other_in_book;
      other_covers = p.other_covers;
      covered = covers_through limits (card book m) (card book n) (card book p.another) up p.covered;
      not_in_return = λ d.
          p.not_in_return (covers_through limits (card book p.another) (card book m) (card book n) d up);
    });
  }

  pub alone : (n : ℕ) → n < card_count book → Covers limits (card book n) case →
      ((m : ℕ) → m < card_count book → (m ≡ n → ⊥) → Covers limits (card book m) case → ⊥) → MostSpecific limits case book n
  alone n l c only = record {
    in_book = l;
    covers_case = c;
    not_passed_over = λ p.
        only p.another p.other_in_book
        (λ e. p.not_in_return (subst (λ (k : ℕ). Covers limits (card book k) (card book n)) (sym e)
        (covers_itself limits (card book n))))
        p.other_covers;
  }
