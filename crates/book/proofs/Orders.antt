-- The questions about a case and a book, in their order: all are answered yes exactly of an acceptable book, and else
-- the first no is the refusal.
--   book_refuses   every refusal is 2 to 14 of the case or of a card, or 24
--   book_decides   all yes exactly of an acceptable book; the first no is r exactly if `FirstNo` says so
use Prim.Native.Nat.{◌<◌, ◌≤◌, ℕ}
use mathlib.Core.Bool.{false, true}
use mathlib.Core.List.{List}
use mathlib.Core.Logic.{◌⊎◌, inl, inr}
use mathlib.Core.Path.{◌≡◌, refl, subst, sym}
use native.Mathlib.Omega.{arith}
use Rattle.picture.proofs.Orders.{AllFrom, Decides, FirstFrom, EveryRefusal, Unreadable, and_decides, and_refuses, asked_decides, asked_refuses, from_decides, from_refuses, read_decides, read_refuses, said_so}
use Rattle.picture.specs.Asked.{and_then, asked_from, read_asked}
use Rattle.picture.specs.Readable.{Readable}
use Rattle.picture.specs.Refusal.{refusal_at, too_many}
use Rattle.picture.specs.declared.answer.Input.TheVariants.{Card, First}
use Rattle.picture.specs.declared.answer.Refusal.{Refusal}
use Rattle.table.specs.declared.layout.Limits.{Limits}
use Rattle.meaning.specs.NormalTable.{merged_count}
use Rattle.normal.proofs.Answers.{OfPicture, TooMany, merged_decides, merged_refuses}
use Rattle.normal.specs.Call.{merged_asked}
use Rattle.book.specs.Call.{AcceptableBook, book_asked, card_merged, card_read, form_asked, no_book}
use Rattle.book.specs.Form.{book_form, card, card_count}
use Rattle.book.specs.Refusals.{FirstNo, card_many, card_unreadable, case_many, case_unreadable, no_form}

module _ (limits : Limits) (case book : List ℕ) where
  -- of card k: 2 to 13, 14
  abbrev Reads : ℕ → Type 0
  Reads k = Readable limits (card book k)

  abbrev Few : ℕ → Type 0
  Few k = merged_count limits (card book k) ≤ limits.rows

  -- the first no, question by question
  abbrev MergedNo : Refusal → Type 0
  MergedNo r =
      TooMany limits First case r
      ⊎ ((merged_count limits case ≤ limits.rows) × FirstFrom Few (λ k. TooMany limits (Card k) (card book k))
      (card_count book) 0 r)

  abbrev CardsNo : Refusal → Type 0
  CardsNo r =
      FirstFrom Reads (λ k. Unreadable limits (Card k) (card book k)) (card_count book) 0 r
      ⊎ (AllFrom Reads (card_count book) 0 × MergedNo r)

  abbrev FormNo : Refusal → Type 0
  FormNo r = ((book_form book ≡ false) × (r ≡ no_book)) ⊎ ((book_form book ≡ true) × CardsNo r)

  abbrev CaseNo : Refusal → Type 0
  CaseNo r = Unreadable limits First case r ⊎ (Readable limits case × FormNo r)

  -- ---- that is `FirstNo`

  as_named : (q r : Refusal) → r ≡ q → FirstNo limits case book q → FirstNo limits case book r
  as_named q r e = subst (λ x. FirstNo limits case book x) (sym e)

  below : {P : ℕ → Type 0} → AllFrom P (card_count book) 0 → (j : ℕ) → j < card_count book → P j
  below all j l = all j (omega arith) (omega arith)

  module _ (r : Refusal) where
    merged_first : Readable limits case → book_form book ≡ true → AllFrom Reads (card_count book) 0 → MergedNo r →
        FirstNo limits case book r
    merged_first c f cards (inl (many, is)) = as_named (too_many First) r is (case_many c f (below cards) many)
    merged_first c f cards (inr (few, (k, a, b, (many, is), before))) =
        as_named (too_many (Card k)) r is (card_many c f (below cards) few k (omega arith)
        (λ j l. before j (omega arith) l) many)

    cards_first : Readable limits case → book_form book ≡ true → CardsNo r → FirstNo limits case book r
    cards_first c f (inl (k, a, b, (q, n, e, is), before)) =
        as_named (refusal_at q (Card k) n) r is
        (card_unreadable c f k q n (omega arith) (λ j l. before j (omega arith) l) e)
    cards_first c f (inr (cards, rest)) = merged_first c f cards rest

    form_first : Readable limits case → FormNo r → FirstNo limits case book r
    form_first c (inl (none, is)) = as_named no_book r is (no_form c none)
    form_first c (inr (f, rest)) = cards_first c f rest

    case_first : CaseNo r → FirstNo limits case book r
    case_first (inl (q, n, e, is)) = as_named (refusal_at q First n) r is (case_unreadable q n e)
    case_first (inr (c, rest)) = form_first c rest

  from_first : (r : Refusal) → FirstNo limits case book r → CaseNo r
  from_first r (case_unreadable q n e) = inl (q, n, e, refl)
  from_first r (no_form c none) = inr (c, inl (none, refl))
  from_first r (card_unreadable c f k q n l before e) =
      inr (c, inr (f, inl (k, omega arith, omega arith, (q, n, e, refl), λ j a b. before j b)))
  from_first r (case_many c f cards many) = inr (c, inr (f, inr (λ j a b. cards j (omega arith), inl (many, refl))))
  from_first r (card_many c f cards few k l before many) =
      inr (
        c,
        inr (
          f,
          inr (
            λ j a b. cards j (omega arith),
            inr
                (few, (k, omega arith, omega arith, (many, refl), λ j a b. before j b)),
          ),
        ),
      )

  -- ---- the questions

  pub book_decides : Decides (book_asked limits case book) (AcceptableBook limits case book) (FirstNo limits case book)
  unfolding book_asked
  book_decides =
      let read = read_asked limits First case in
      let cards = asked_from (card_read limits book) (card_count book) 0 in
      let merged = merged_asked limits First case in
      let rest = asked_from (card_merged limits book) (card_count book) 0 in
      said_so (and_then read (and_then (form_asked book) (and_then cards (and_then merged rest))))
      (and_decides read (and_then (form_asked book) (and_then cards (and_then merged rest)))
      (read_decides limits First case)
      (λ c. and_decides (form_asked book) (and_then cards (and_then merged rest)) (asked_decides (book_form book) no_book)
      (λ f. and_decides cards (and_then merged rest)
      (from_decides (card_read limits book) Reads (λ k. Unreadable limits (Card k) (card book k)) (card_count book) 0
      (λ k a b. read_decides limits (Card k) (card book k)))
      (λ all. and_decides merged rest (merged_decides limits First case)
      (λ few. from_decides (card_merged limits book) Few (λ k. TooMany limits (Card k) (card book k)) (card_count book) 0
      (λ k a b. merged_decides limits (Card k) (card book k))))))) (
        λ (c, (f, (all, (few, each)))). record {
          case_readable = c;
          form = f;
          cards_readable = below all;
          case_few = few;
          cards_few = below each;
        },
        λ a. (
          a.case_readable,
          (a.form, (λ j b d. a.cards_readable j (omega arith), (a.case_few, λ j b d. a.cards_few j (omega arith)))),
        ),
      )
      (λ r. (case_first r, from_first r))

  -- 2 to 14 of the case and of the cards, 24
  pub book_refuses : (P : Refusal → Type 0) → OfPicture limits First case P → P no_book →
      ((k : ℕ) → k < card_count book → OfPicture limits (Card k) (card book k) P) →
      EveryRefusal P (book_asked limits case book)
  unfolding book_asked
  book_refuses P of-case none of-card =
      let read = read_asked limits First case in
      let cards = asked_from (card_read limits book) (card_count book) 0 in
      let merged = merged_asked limits First case in
      let rest = asked_from (card_merged limits book) (card_count book) 0 in
      and_refuses P read (and_then (form_asked book) (and_then cards (and_then merged rest)))
      (read_refuses P limits First case of-case.reads)
      (and_refuses P (form_asked book) (and_then cards (and_then merged rest))
      (asked_refuses P (book_form book) no_book none)
      (and_refuses P cards (and_then merged rest)
      (from_refuses P (card_read limits book) (card_count book) 0
      (λ k a b. read_refuses P limits (Card k) (card book k) (of-card k (omega arith)).reads))
      (and_refuses P merged rest (merged_refuses limits First case P of-case.merges)
      (from_refuses P (card_merged limits book) (card_count book) 0
      (λ k a b. merged_refuses limits (Card k) (card book k) P (of-card k (omega arith)).merges)))))
