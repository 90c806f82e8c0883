-- A book as the paper says it is written, card after card and then the end field, is read as these cards; and every
-- book of bytes with the form is so written.
--   book_written   it has the form, with so many cards, and these
--   written_book   a book of bytes with the form has the bytes of its cards
--   form_exactly   so 24 is answered yes exactly of what is written from at most 32 cards
use Prim.Native.Nat.{◌%◌, ◌*◌, ◌+◌, ◌/◌, ◌<◌, ◌≤◌, suc, zero, ℕ}
use borrow.Author.Tests.{le-leb}
use lib.ListN.{drop, drop_of_length-le, get_or, length, length-append, take, take-append-drop}
use lib.Seq.{drop_at, drop-cons, drop-drop, get_or-append_seam, take-append_seam}
use mathlib.Core.Bool.{true}
use mathlib.Core.List.{List, [], ◌++◌, ◌∷◌, append_assoc}
use mathlib.Core.Logic.{◌↔◌}
use mathlib.Core.Path.{◌∙◌, ◌≡◌, ap, refl, subst, sym}
use native.Mathlib.Nat.{add-zero, zero-add}
use native.Mathlib.Numerals.{add-one}
use native.Mathlib.Omega.{arith}
use Rattle.table.proofs.Numbers.{be_append_right, be_inside, be_two, length_be_bytes}
use Rattle.table.proofs.Rows.{ends_parts, parts_ends}
use Rattle.table.specs.Fields.{end_bytes, ends_at}
use Rattle.table.specs.Layout.{end_tag, head_size, length_offset, number_size}
use Rattle.table.specs.Number.{Bytes, be, be_bytes}
use Rattle.fields.specs.Form.{field_place, field_value, field_with, length_said, listed, place_after}
use Rattle.fields.proofs.Listings.{length_listed}
use Rattle.fields.proofs.Forms.{FieldsOf, after_field, count_form, count_most, field_tag, field_whole, fields_before}
use Rattle.fields.proofs.Forms.{form_count, length_value}
use Rattle.book.specs.Form.{Short, book_bytes, book_form, card, card_count, card_tag, cards_of, most_cards}
use Rattle.book.specs.Form.{most_length}

card_other : card_tag ≡ end_tag → ⊥
card_other e = omega (arith, e)

-- ---- one field, after the bytes p and before the bytes rest

module _ (p c rest : List ℕ) (short : length c ≤ most_length) where
  abbrev head : List ℕ
  head = card_tag ∷ be_bytes number_size (length c)

  abbrev whole : List ℕ
  whole = p ++ (card_tag ∷ (be_bytes number_size (length c) ++ (c ++ rest)))

  length_head : length (p ++ head) ≡ length p + head_size
  length_head = length-append p head ∙ ap (λ (n : ℕ). length p + suc n) (length_be_bytes number_size (length c))

  length_field : length ((p ++ head) ++ c) ≡ length p + head_size + length c
  length_field = length-append (p ++ head) c ∙ ap (λ (n : ℕ). n + length c) length_head

  by_head : whole ≡ (p ++ head) ++ (c ++ rest)
  by_head = sym (append_assoc p head (c ++ rest))

  by_field : whole ≡ ((p ++ head) ++ c) ++ rest
  by_field = by_head ∙ sym (append_assoc (p ++ head) c rest)

  field_said : length_said whole (length p) ≡ length c
  field_said =
      be_append_right p (card_tag ∷ (be_bytes number_size (length c) ++ (c ++ rest))) length_offset number_size
      ∙ be_inside (card_tag ∷ []) (c ++ rest) number_size (length c) (omega arith)

  field_next : place_after whole (length p) ≡ length ((p ++ head) ++ c)
  field_next = ap (λ (n : ℕ). length p + head_size + n) field_said ∙ sym length_field

  field_card : field_with card_tag whole (length p) ≡ true
  unfolding field_with
  field_card =
      let inside : place_after whole (length p) ≤ length whole =
      omega (arith, field_next, ap length by_field, length-append ((p ++ head) ++ c) rest) in
      rw (
        get_or-append_seam p card_tag (be_bytes number_size (length c) ++ (c ++ rest)) 0,
        le-leb (place_after whole (length p)) (length whole) inside,
      )

  field_value_is : take (length_said whole (length p)) (drop (length p + head_size) whole) ≡ c
  field_value_is =
      ap (λ (n : ℕ). take n (drop (length p + head_size) whole)) field_said
      ∙ ap (λ (l : List ℕ). take (length c) l)
      (ap (λ (l : List ℕ). drop (length p + head_size) l) by_head
      ∙ drop_at (p ++ head) (c ++ rest) (length p + head_size) length_head)
      ∙ take-append_seam c rest

-- ---- the end field, after the bytes p

end_there : (p : List ℕ) → ends_at (p ++ end_bytes) (length p) ≡ true
unfolding end_bytes be_bytes be
end_there p =
    parts_ends (p ++ end_bytes) (length p) (length-append p end_bytes)
    (get_or-append_seam p 0x2F (0 ∷ 0 ∷ []) 0)
    (be_append_right p end_bytes 1 2)

-- ---- the fields from field k on

shift : (k j : ℕ) → k + suc j ≡ k + 1 + j
shift k j = omega arith

-- what is so of field k and of those after it
one_more : (Q : ℕ → ℕ → Type 0) (n k : ℕ) → Q k 0 → ((j : ℕ) → j < n → Q (k + 1 + j) (suc j)) →
    (j : ℕ) → j < suc n → Q (k + j) j
one_more Q n k here later zero l = subst (λ i. Q i 0) (sym (add-zero k)) here
one_more Q n k here later (suc j) l = subst (λ i. Q i (suc j)) (sym (shift k j)) (later j (omega arith))

module _ (book : List ℕ) where
  record From (k : ℕ) (cards : List (List ℕ)) : Type 0 where
    stand : (j : ℕ) → j < length cards → field_with card_tag book (field_place book (k + j)) ≡ true
    are : (j : ℕ) → j < length cards → card book (k + j) ≡ get_or cards j []
    end : ends_at book (field_place book (k + length cards)) ≡ true

  value_here : (p c rest : List ℕ) (small : length c ≤ most_length) (k : ℕ) → book ≡ whole p c rest small →
      field_place book k ≡ length p → card book k ≡ c
  unfolding field_value
  value_here p c rest small k is at =
      ap (λ (n : ℕ). take (length_said book n) (drop (n + head_size) book)) at
      ∙ ap (λ (l : List ℕ). take (length_said l (length p)) (drop (length p + head_size) l)) is
      ∙ field_value_is p c rest small

  from : (cards : List (List ℕ)) → Short cards → (p : List ℕ) (k : ℕ) → book ≡ p ++ book_bytes cards →
      field_place book k ≡ length p → From k cards
  from [] short p k is at = record {
    stand = λ j l. absurd (omega arith);
    are = λ j l. absurd (omega arith);
    end = ap (λ (n : ℕ). ends_at book (field_place book n)) (add-zero k)
        ∙ ap (λ (n : ℕ). ends_at book n) at
        ∙ ap (λ (l : List ℕ). ends_at l (length p)) is
        ∙ end_there p;
  }
  from (c ∷ cards) short p k is at =
      let rest : List ℕ = book_bytes cards in
      let small : length c ≤ most_length = short 0 (omega arith) in
      let next : field_place book (k + 1) ≡ length ((p ++ head p c rest small) ++ c) =
      after_field book k
      ∙ ap (λ (n : ℕ). place_after book n) at
      ∙ ap (λ (l : List ℕ). place_after l (length p)) is
      ∙ field_next p c rest small in
      let f = from cards (λ j l. short (suc j) (omega arith)) ((p ++ head p c rest small) ++ c) (k + 1)
      (is ∙ by_field p c rest small) next in
      let here : field_with card_tag book (field_place book k) ≡ true =
      ap (λ (n : ℕ). field_with card_tag book n) at
      ∙ ap (λ (l : List ℕ). field_with card_tag l (length p)) is
      ∙ field_card p c rest small in
      record {
        stand = one_more (λ i j. field_with card_tag book (field_place book i) ≡ true) (length cards) k here f.stand;
        are = one_more (λ i j. card book i ≡ get_or (c ∷ cards) j []) (length cards) k
            (value_here p c rest small k is at) f.are;
        end = ap (λ (n : ℕ). ends_at book (field_place book n)) (shift k (length cards)) ∙ f.end;
      }

-- ---- the book

module _ (cards : List (List ℕ)) (few : length cards ≤ most_cards) (short : Short cards) where
  read : From (book_bytes cards) 0 cards
  unfolding field_place
  read = from (book_bytes cards) cards short [] 0 refl refl

  book_of_is : FieldsOf card_tag (book_bytes cards) (length cards)
  book_of_is = record {
    most = few;
    fields = λ k l.
        ap (λ (n : ℕ). field_with card_tag (book_bytes cards) (field_place (book_bytes cards) n)) (sym (zero-add k))
        ∙ read.stand k l;
    ends = ap (λ (n : ℕ). ends_at (book_bytes cards) (field_place (book_bytes cards) n)) (sym (zero-add (length cards)))
        ∙ read.end;
  }

  pub book_written : (book_form (book_bytes cards) ≡ true)
      × (card_count (book_bytes cards) ≡ length cards)
      × ((k : ℕ) → k < length cards → card (book_bytes cards) k ≡ get_or cards k [])
  book_written =
      let (form, count) = form_count card_tag (book_bytes cards) card_other (length cards) book_of_is in
      (form, count, λ k l. ap (λ (n : ℕ). card (book_bytes cards) n) (sym (zero-add k)) ∙ read.are k l)

-- ---- and back

-- the cards from card k on, so many
number_bytes : (a b : ℕ) → a < 256 → b < 256 → be_bytes number_size (a * 256 + b) ≡ a ∷ b ∷ []
unfolding be_bytes
number_bytes a b h l =
    let high : (a * 256 + b) / 256 % 256 ≡ a = omega arith in
    let low : (a * 256 + b) / 1 % 256 ≡ b = omega arith in
    rw (high, low)

module _ (book : List ℕ) where
  one_byte : (i j : ℕ) → i < length book → j ≡ i + 1 → drop i book ≡ get_or book i 0 ∷ drop j book
  one_byte i j l e = drop-cons book i 0 l ∙ ap (λ (n : ℕ). get_or book i 0 ∷ drop n book) (sym (add-one i) ∙ sym e)

  head_bytes : (at : ℕ) → at + head_size ≤ length book →
      drop at book ≡ get_or book at 0 ∷ get_or book (at + 1) 0 ∷ get_or book (at + 2) 0 ∷ drop (at + head_size) book
  head_bytes at l =
      one_byte at (at + 1) (omega arith) refl
      ∙ ap (λ (r : List ℕ). get_or book at 0 ∷ r)
      (one_byte (at + 1) (at + 2) (omega arith) (omega arith)
      ∙ ap (λ (r : List ℕ). get_or book (at + 1) 0 ∷ r) (one_byte (at + 2) (at + head_size) (omega arith) (omega arith)))

  said : (at : ℕ) → length_said book at ≡ get_or book (at + 1) 0 * 256 + get_or book (at + 2) 0
  said at = be_two book (at + 1) ∙ ap (λ (n : ℕ). get_or book (at + 1) 0 * 256 + get_or book n 0) (omega arith)

  end_bytes_is : (at : ℕ) → ends_at book at ≡ true → drop at book ≡ end_bytes
  unfolding end_bytes be_bytes
  end_bytes_is at h =
      let (long, tag, none) = ends_parts book at h in
      let high : get_or book (at + 1) 0 ≡ 0 = omega (arith, said at) in
      let low : get_or book (at + 2) 0 ≡ 0 = omega (arith, said at) in
      head_bytes at (omega arith) ∙ rw (tag, high, low, drop_of_length-le book {i = at + head_size} (omega arith))

  after_head : (k : ℕ) → drop (field_place book k + head_size) book ≡ card book k ++ drop (field_place book (k + 1)) book
  unfolding field_value
  after_head k =
      let at = field_place book k in
      let n = length_said book at in
      sym (take-append-drop n (drop (at + head_size) book))
      ∙ ap (λ (r : List ℕ). card book k ++ r)
      (drop-drop n (at + head_size) book ∙ ap (λ (m : ℕ). drop m book) (sym (after_field book k)))

  module _ (bytes : Bytes book) where
    said_short : (at : ℕ) → length_said book at ≤ most_length
    said_short at = omega (arith, said at, bytes (at + 1), bytes (at + 2))

    card_bytes : (k : ℕ) → field_with card_tag book (field_place book k) ≡ true →
        length (card book k) ≡ length_said book (field_place book k) →
        drop (field_place book k) book
        ≡ card_tag ∷ (be_bytes number_size (length (card book k)) ++ (card book k ++ drop (field_place book (k + 1)) book))
    card_bytes k h sized =
        let at = field_place book k in
        let inside = field_whole card_tag book at h in
        let number : be_bytes number_size (length (card book k)) ≡ get_or book (at + 1) 0 ∷ get_or book (at + 2) 0 ∷ [] =
        ap (be_bytes number_size) (sized ∙ said at)
        ∙ number_bytes (get_or book (at + 1) 0) (get_or book (at + 2) 0) (bytes (at + 1)) (bytes (at + 2)) in
        head_bytes at (omega arith) ∙ rw (field_tag card_tag book at h, after_head k, number)

    after_bytes : (more k : ℕ) → k + more ≡ card_count book → book_form book ≡ true →
        drop (field_place book k) book ≡ book_bytes (listed (card book) more k)
    after_bytes zero k e h =
        let last : k ≡ card_count book = omega arith in
        end_bytes_is (field_place book k)
        (ap (λ (n : ℕ). ends_at book (field_place book n)) last ∙ (count_form card_tag book card_other h).ends)
    after_bytes (suc more) k e h =
        card_bytes k (fields_before card_tag book k (omega arith)) (length_value card_tag book k (omega arith))
        ∙ ap (λ (r : List ℕ). card_tag ∷ (be_bytes number_size (length (card book k)) ++ (card book k ++ r)))
        (after_bytes more (k + 1) (omega arith) h)

    pub written_book : book_form book ≡ true → book ≡ book_bytes (cards_of book)
    unfolding field_place
    written_book h = after_bytes (card_count book) 0 (omega arith) h

    short_after : (more k : ℕ) → k + more ≡ card_count book → Short (listed (card book) more k)
    short_after zero k e j l = absurd (omega arith)
    short_after (suc more) k e zero l =
        omega (arith, length_value card_tag book k (omega arith), said_short (field_place book k))
    short_after (suc more) k e (suc j) l = short_after more (k + 1) (omega arith) j (omega arith)

    pub form_exactly : (book_form book ≡ true)
        ↔ ((cards : List (List ℕ)) × (length cards ≤ most_cards) × Short cards × (book ≡ book_bytes cards))
    form_exactly = (
      λ h. (
        cards_of book,
        omega (arith, length_listed (card book) (card_count book) 0, count_most card_tag book),
        short_after (card_count book) 0 (omega arith),
        written_book h,
      ),
      λ (cards, few, short, is). ap book_form is ∙ (book_written cards few short).0,
    )
