-- Laws of the cards of a book that has passed 14 under a definitions book: the table of card k is made of the part of
-- the book that is the card, unfolded, and the book of the unfolded cards has it for its card k.
--   count_is         that book has as many cards
--   cards_taken      and they have passed 2 to 14
--   card_unfolding   what unfolding that part needs
--   card_room        and what making its table needs
--   card_tabled      the table of that part, unfolded, is that of the unfolded card
--   card_made        and stands where it was made
use Prim.Native.Nat.{◌<◌, ◌≤◌, ℕ}
use lib.ListN.{length}
use mathlib.Core.List.{List}
use mathlib.Core.Path.{◌∙◌, ◌≡◌, ap, subst, sym}
use native.Mathlib.Omega.{arith}
use Rattle.table.specs.Bounds.{Bounded, picture_size}
use Rattle.table.specs.declared.layout.Limits.{Limits}
use Rattle.normal_writer.specs.Tables.{Tabled}
use Rattle.book.specs.Form.{card, card_count}
use Rattle.definitions.specs.Unfolded.{unfolded_file}
use Rattle.under.proofs.Books.{book_unfolded, unfolded_card, unfolded_count_is}
use Rattle.under.specs.Book.{PreparedBook, unfolded_book}
use Rattle.unfold_tables.specs.Ready.{Ready, TableSpace, Unfolding}
use Rattle.book_tables.specs.Cache.{TableAt}
use Rattle.book_tables.specs.Tables.{BookTaken, TakenUnder}
use Rattle.book_tables.proofs.Caches.{tabled_at}

pub card_unfolding : {limits : Limits} {tbox case book starts : List ℕ} {defined : ℕ} →
    Ready limits tbox starts defined → PreparedBook limits tbox case book → (k : ℕ) → k < card_count book →
    {part : List ℕ} → part ≡ card book k → Unfolding limits tbox starts defined part
card_unfolding {limits} {tbox} {case} {book} {starts} {defined} ready ok k l is =
    subst (λ s. Unfolding limits tbox starts defined s) (sym is)
    (record { ready = ready; readable = ok.cards_readable k l; unfolds = ok.cards_unfold k l })

module _ {limits : Limits} {tbox book : List ℕ} (bounded : Bounded limits) (taken : TakenUnder limits tbox book) where
  abbrev ok : PreparedBook limits tbox taken.case book
  ok = taken.accepted.prepared

  pub count_is : card_count (unfolded_book limits tbox book) ≡ card_count book
  count_is = unfolded_count_is limits bounded tbox taken.case book ok

  pub cards_taken : BookTaken limits (unfolded_book limits tbox book)
  cards_taken =
      let all = book_unfolded limits bounded tbox taken.case book ok taken.accepted.case_few
      taken.accepted.cards_few in
      record { readable = all.cards_readable; few = all.cards_few }

  module _ (k : ℕ) (l : k < card_count book) {part : List ℕ} (is : part ≡ card book k) where
    pub card_room : {starts : List ℕ} {defined : ℕ} {out : List ℕ} → Ready limits tbox starts defined →
        picture_size limits ≤ length out → TableSpace limits tbox starts defined part out
    card_room ready room = record { ready = card_unfolding ready ok k l is; space = room }

    pub card_tabled : {out : List ℕ} {r : ℕ} {end : List ℕ} → Tabled limits (unfolded_file limits tbox part) out r end →
        Tabled limits (card (unfolded_book limits tbox book) k) out r end
    card_tabled {out} {r} {end} =
        subst (λ s. Tabled limits s out r end)
        (ap (unfolded_file limits tbox) is ∙ sym (unfolded_card limits bounded tbox taken.case book ok k l))

    pub card_made : {out : List ℕ} {r : ℕ} {end : List ℕ} → Tabled limits (unfolded_file limits tbox part) out r end →
        TableAt limits (card (unfolded_book limits tbox book) k) end r
    card_made tabled =
        tabled_at limits _ _ _ _ (card_tabled tabled) (cards_taken.few k (omega (arith, l, count_is)))
