-- Laws of the word of the redundant cards, those that are passed over, as pairs of covering cards are compared.
--   none_compared     no pair yet
--   cards_left        cards that do not cover the case
--   earlier_skipped   card m: cards that are redundant, or do not cover the case, are left out
--   earlier_there, earlier_next   the next card to compare it with
--   earlier_ended     with all earlier ones
--   paired            the word that has the one of two cards that covers the other strictly
--   pair_compared     one pair more
--   earlier_stopped   card m covers an earlier card that is not redundant: no other earlier one says anything new
--   all_compared      then the word has exactly the covering cards that are passed over
--   selected_bits     and what is left of the covering cards are the others
--   cleared           a work space cleared from its first byte to its last
use Prim.Native.Nat.{◌+◌, ◌-◌, ◌<◌, ◌≤◌, ℕ}
use borrow.Author.Tests.{eq-eqb, eqb-true, ne_eqb, not-true}
use lib.Dec.{eqb}
use lib.ListN.{length}
use mathlib.Core.Bool.{Bool, ◌&&◌, ◌||◌, false, false≢true, not, true}
use mathlib.Core.List.{List}
use mathlib.Core.Logic.{◌⊎◌, inl, inr, ⊎_elim}
use mathlib.Core.Path.{◌∙◌, ◌≡◌, ap, refl, subst, sym}
use native.Mathlib.Decide.{dec_lt, ℕ_discrete}
use native.Mathlib.Omega.{arith}
use Rattle.table.proofs.Bools.{both, by_test, either}
use Rattle.table.proofs.NameSets.{has_none}
use Rattle.table.proofs.Puts.{length_zeros}
use Rattle.table.proofs.Tests.{and_same}
use Rattle.table.specs.NameSet.{has}
use Rattle.table.specs.Put.{put, zeros}
use Rattle.table.specs.declared.layout.Limits.{Limits}
use Rattle.order.proofs.Minima.{is_strict, minimal_is, over_passed, over_strict, strict_minimal, strict_not, strict_under}
use Rattle.order.specs.Preorder.{Preorder, is_passed_over, strict}
use Rattle.workspace.proofs.Halves.{put_whole}
use Rattle.book.specs.Form.{card_count, most_cards}
use Rattle.book.specs.Selection.{card_covers}
use Rattle.book_form.specs.Words.{WithEach}
use Rattle.book_selection.specs.Comparing.{Compared, ComparedTo, Earlier, Ordered, Paired}
use Rattle.book_selection.specs.Next.{NextCard, NoneMet}
use Rattle.book_selection.specs.declared.compare.Order.{Order}

or_left : (a b : Bool) → a ≡ true → (a || b) ≡ true
or_left a b e = rw e

or_right : (a b : Bool) → b ≡ true → (a || b) ≡ true
or_right true b e = refl
or_right false b e = e

and_true : (a b : Bool) → a ≡ true → b ≡ true → (a && b) ≡ true
and_true a b e f = rw (e, f)

turned : {A B : Type 0} → A ⊎ B → B ⊎ A
turned (inl a) = inr a
turned (inr b) = inl b

pub paired : (limits : Limits) (book : List ℕ) (m n word r : ℕ) (order : Order) → Ordered limits book m n order →
    WithEach word m (order.over && not order.under) n (order.under && not order.over) r →
    Paired limits book m n word r
paired limits book m n word r order is marked =
    let (a, b) = is in
    subst (λ (x : Bool). WithEach word m (x && not (card_covers limits book n m)) n (card_covers limits book n m && not x)
    r) a
    (subst (λ (y : Bool). WithEach word m (order.over && not y) n (y && not order.over) r) b marked)

-- what neither of two cards is, stays
pub other_kept : (word m n r : ℕ) (s t : Bool) → WithEach word m s n t r → (k : ℕ) → (k ≡ m → ⊥) → (k ≡ n → ⊥) →
    has r k ≡ has word k
other_kept word m n r s t marked k u v =
    marked k ∙ rw (ne_eqb k m u, ne_eqb k n v) (by_test (has word k) (λ e. rw e) (λ e. rw e))

module _ (limits : Limits) (book : List ℕ) (covering : ℕ) where
  abbrev over : ℕ → ℕ → Bool
  over = card_covers limits book

  abbrev passed : ℕ → Bool
  passed = is_passed_over over (card_count book) (has covering)

  -- one of two covers the other strictly; one of two is in a word
  abbrev Apart : ℕ → ℕ → Type 0
  Apart i j = (strict over i j ≡ true) ⊎ (strict over j i ≡ true)

  abbrev OneOf : ℕ → ℕ → ℕ → Type 0
  OneOf word i j = (has word i ≡ true) ⊎ (has word j ≡ true)

  -- pairs that come earlier by one order than by another
  earlier_compared : (m n m₂ n₂ redundant : ℕ) → ((i j : ℕ) → has covering i ≡ true → j < i → Earlier m₂ n₂ i j → Earlier m n i j) →
      ComparedTo limits book covering m n redundant → ComparedTo limits book covering m₂ n₂ redundant
  earlier_compared m n m₂ n₂ redundant earlier so =
      record { sound = so.sound; decided = λ i j a b l e. so.decided i j a b l (earlier i j a l e) }

  pub none_compared : Compared limits book covering 0 0
  none_compared =
      record {
        sound = λ i h. absurd (false≢true (sym (has_none i) ∙ h));
        decided = λ i j a b l e. absurd (⊎_elim (λ x. omega (arith, x)) (λ x. omega (arith, x.1)) e);
      }

  pub cards_left : (m next redundant : ℕ) → ((k : ℕ) → m ≤ k → k < next → has covering k ≡ false) →
      Compared limits book covering m redundant → Compared limits book covering next redundant
  cards_left m next redundant none so = earlier_compared m 0 next 0 redundant earlier so
    where
      earlier : (i j : ℕ) → has covering i ≡ true → j < i → Earlier next 0 i j → Earlier m 0 i j
      earlier i j a l (inl x) = elim (dec_lt i m) [
        | yes y ↦ inl y
        | no y ↦ absurd (false≢true (sym (none i (omega (arith, y)) x) ∙ a))
      ]
      earlier i j a l (inr (s, x)) = absurd (omega (arith, x))

  module _ (m redundant : ℕ) where
    pub earlier_ended : (n : ℕ) → m ≤ n → ComparedTo limits book covering m n redundant →
        Compared limits book covering (m + 1) redundant
    earlier_ended n past so = earlier_compared m n (m + 1) 0 redundant earlier so
      where
        earlier : (i j : ℕ) → has covering i ≡ true → j < i → Earlier (m + 1) 0 i j → Earlier m n i j
        earlier i j a l (inl x) = elim (ℕ_discrete i m) [
          | yes s ↦ inr (s, omega (arith, s, l, past))
          | no u ↦ inl (omega (arith, x, u))
        ]
        earlier i j a l (inr (s, x)) = absurd (omega (arith, x))

    module _ (left n : ℕ) (is : (k : ℕ) → n ≤ k → k < m → has left k ≡ (has covering k && not (has redundant k)))
        (so : ComparedTo limits book covering m n redundant) where
      pub earlier_skipped : (next : ℕ) → NoneMet left n next → ComparedTo limits book covering m next redundant
      earlier_skipped next none =
          record {
            sound = so.sound;
            decided = λ i j a b l e c.
                ⊎_elim {C = OneOf redundant i j} (λ x. so.decided i j a b l x c) (λ x. inr (shown j b x.0 x.1.0 x.1.1))
                (parted i j l e);
          }
        where
          shown : (j : ℕ) → has covering j ≡ true → n ≤ j → j < next → j < m → has redundant j ≡ true
          shown j b own other inside =
              by_test (has redundant j) (λ e. e)
              (λ e. absurd (false≢true (sym (none j own other) ∙ is j own inside ∙ rw (b, e))))

          parted : (i j : ℕ) → j < i → Earlier m next i j → Earlier m n i j ⊎ ((n ≤ j) × ((j < next) × (j < m)))
          parted i j l (inl x) = inl (inl x)
          parted i j l (inr (s, x)) = elim (dec_lt j n) [
            | yes y ↦ inl (inr (s, y))
            | no y ↦ inr (omega (arith, y), (x, omega (arith, l, s)))
          ]

      -- the next card that m is to be compared with
      pub earlier_there : (next : ℕ) → n ≤ next → next < m → has left next ≡ true →
          (has covering next ≡ true) × (has redundant next ≡ false)
      earlier_there next later below there =
          let (a, b) = both (has covering next) (not (has redundant next)) (sym (is next later below) ∙ there) in
          (a, not-true (has redundant next) b)

    pub earlier_next : (left n next : ℕ) → ((k : ℕ) → has left k ≡ (has covering k && not (has redundant k))) →
        NextCard left n next →
        m < most_cards → ComparedTo limits book covering m n redundant →
        (next < m → (has covering next ≡ true) × (has redundant next ≡ false))
        × ComparedTo limits book covering m next redundant
    earlier_next left n next is found small so = (
      λ l. earlier_there left n (λ k a b. is k) so next found.later l (found.there (omega (arith, l, small))),
      earlier_skipped left n (λ k a b. is k) so next found.none,
    )

    module _ (n r : ℕ) (so : ComparedTo limits book covering m n redundant) (before : n < m)
        (inside : m < card_count book)
        (covers_case : has covering m ≡ true) (other_covers : has covering n ≡ true)
        (pair : Paired limits book m n redundant r) where
      kept : (i : ℕ) → has redundant i ≡ true → has r i ≡ true
      kept i h =
          pair i
          ∙ or_left (has redundant i || (eqb i m && strict over m n)) (eqb i n && strict over n m)
          (or_left (has redundant i) (eqb i m && strict over m n) h)

      of_m : strict over m n ≡ true → has r m ≡ true
      of_m c =
          pair m
          ∙ or_left (has redundant m || (eqb m m && strict over m n)) (eqb m n && strict over n m)
          (or_right (has redundant m) (eqb m m && strict over m n) (and_true (eqb m m) (strict over m n)
          (eq-eqb m m refl) c))

      of_n : strict over n m ≡ true → has r n ≡ true
      of_n c =
          pair n
          ∙ or_right (has redundant n || (eqb n m && strict over m n)) (eqb n n && strict over n m)
          (and_true (eqb n n) (strict over n m) (eq-eqb n n refl) c)

      new_sound : (i : ℕ) → has r i ≡ true → passed i ≡ true
      new_sound i h =
          ⊎_elim {C = passed i ≡ true}
          (λ e. ⊎_elim {C = passed i ≡ true} (λ f. so.sound i f)
          (λ f. let (s, c) = both (eqb i m) (strict over m n) f in
          subst (λ k. passed k ≡ true) (sym (eqb-true i m s))
          (over_passed over (card_count book) (has covering) m n (omega arith) other_covers c))
          (either (has redundant i) (eqb i m && strict over m n) e))
          (λ e. let (s, c) = both (eqb i n) (strict over n m) e in
          subst (λ k. passed k ≡ true) (sym (eqb-true i n s))
          (over_passed over (card_count book) (has covering) n m inside covers_case c))
          (either (has redundant i || (eqb i m && strict over m n)) (eqb i n && strict over n m) (sym (pair i) ∙ h))

      still : (i j : ℕ) → OneOf redundant i j → OneOf r i j
      still i j (inl h) = inl (kept i h)
      still i j (inr h) = inr (kept j h)

      this_pair : Apart m n → OneOf r m n
      this_pair (inl c) = inl (of_m c)
      this_pair (inr c) = inr (of_n c)

      -- a pair whose numbers are known
      of_pair : (i j : ℕ) → i ≡ m → j ≡ n → Apart i j → OneOf r i j
      of_pair i j e f c =
          subst (λ k. OneOf r k j) (sym e)
          (subst (λ k. OneOf r m k) (sym f) (this_pair (subst (λ k. Apart m k) f (subst (λ k. Apart k j) e c))))

      parted : (i j : ℕ) → Earlier m (n + 1) i j → Earlier m n i j ⊎ ((i ≡ m) × (j ≡ n))
      parted i j (inl x) = inl (inl x)
      parted i j (inr (s, x)) = elim (ℕ_discrete j n) [
        | yes e ↦ inr (s, e)
        | no u ↦ inl (inr (s, omega (arith, u, x)))
      ]

      pub pair_compared : ComparedTo limits book covering m (n + 1) r
      pair_compared =
          record {
            sound = new_sound;
            decided = λ i j a b l e c.
                ⊎_elim {C = OneOf r i j} (λ x. still i j (so.decided i j a b l x c)) (λ x. of_pair i j x.0 x.1 c)
                (parted i j e);
          }

      -- m covers n, which is not redundant: n has said what m could say of the cards below m
      module _ (order : Preorder over (card_count book)) (m-covers : over m n ≡ true)
          (n_kept : has redundant n ≡ false) where
        other_decided : (j : ℕ) → j < m → has covering j ≡ true → Apart n j → has redundant j ≡ true
        other_decided j l b c =
            elim (dec_lt j n) [
              | yes x ↦ not_n (so.decided n j other_covers b x (inl before) c)
              | no x ↦ elim (ℕ_discrete n j) [
                | yes e ↦ absurd (⊎_elim (strict_not over n j e) (strict_not over j n (sym e)) c)
                | no u ↦ not_n (turned (so.decided j n b other_covers (omega (arith, x, u)) (inl l) (turned c)))
              ]
            ]
          where
            not_n : OneOf redundant n j → has redundant j ≡ true
            not_n (inl y) = absurd (false≢true (sym n_kept ∙ y))
            not_n (inr y) = y

        -- where they are equivalent; else m is redundant
        as_n : over n m ≡ true → (j : ℕ) → j < m → Apart m j → Apart n j
        as_n same j l (inl y) =
            inl (over_strict over (card_count book) order n m j (omega arith) inside (omega (arith, l, inside)) same y)
        as_n same j l (inr y) =
            inr (strict_under over (card_count book) order j m n (omega (arith, l, inside)) inside (omega arith) y
            m-covers)

        stopped : (j : ℕ) → j < m → has covering j ≡ true → Apart m j → OneOf r m j
        stopped j l b c =
            by_test (over n m) (λ same. inr (kept j (other_decided j l b (as_n same j l c))))
            (λ other. inl (of_m (is_strict over m n m-covers other)))

        pub earlier_stopped : Compared limits book covering (m + 1) r
        earlier_stopped =
            record {
              sound = new_sound;
              decided = λ i j a b l e c. elim (dec_lt i m) [
                | yes x ↦ still i j (so.decided i j a b l (inl x) c)
                | no x ↦
                    let is : i ≡ m = ⊎_elim {C = i ≡ m} (λ y. omega (arith, y, x)) (λ y. absurd (omega (arith, y.1)))
                    e in
                    subst (λ k. OneOf r k j) (sym is) (stopped j (omega (arith, l, is)) b (subst (λ k. Apart k j) is c))
              ];
            }

  pub all_compared : (m redundant : ℕ) → Preorder over (card_count book) → card_count book ≤ m →
      ((k : ℕ) → has covering k ≡ true → k < card_count book) → Compared limits book covering m redundant →
      (i : ℕ) → has covering i ≡ true → has redundant i ≡ passed i
  all_compared m redundant order past inside so i a =
      by_test (has redundant i) (λ h. h ∙ sym (so.sound i h))
      (λ h. h ∙ sym (by_test (passed i) (λ p. absurd (false≢true (sym h ∙ found p))) (λ p. p)))
    where
      -- of two cards of which one covers the other strictly one is redundant
      by_place : (j : ℕ) → has covering j ≡ true → strict over i j ≡ true → OneOf redundant i j
      by_place j b c = elim (dec_lt i j) [
        | yes l ↦ turned (so.decided j i b a l (inl (omega (arith, inside j b, past))) (inr c))
        | no u ↦ elim (ℕ_discrete i j) [
          | yes e ↦ absurd (strict_not over i j e c)
          | no v ↦ so.decided i j a b (omega (arith, u, v)) (inl (omega (arith, inside i a, past))) (inl c)
        ]
      ]

      -- one that is passed over covers strictly one that is not
      found : passed i ≡ true → has redundant i ≡ true
      found p =
          let (j, _, least, c) = strict_minimal over (card_count book) (has covering) order i (inside i a) p in
          let (b, kept) = minimal_is over (card_count book) (has covering) j least in
          ⊎_elim {C = has redundant i ≡ true} (λ x. x) (λ x. absurd (false≢true (sym kept ∙ so.sound j x)))
          (by_place j b c)

-- ---- the end: the covering cards without the redundant ones, and the work space cleared

pub selected_bits : (limits : Limits) (book : List ℕ) (covering m redundant r : ℕ) →
    Preorder (card_covers limits book) (card_count book) → card_count book ≤ m →
    ((k : ℕ) → has covering k ≡ true → k < card_count book) → Compared limits book covering m redundant →
    ((k : ℕ) → has r k ≡ (has covering k && not (has redundant k))) →
    (k : ℕ) → has r k ≡ (has covering k && not (is_passed_over (card_covers limits book) (card_count book) (has covering) k))
selected_bits limits book covering m redundant r order past inside so is k =
    is k
    ∙ and_same (has covering k) (not (has redundant k))
    (not (is_passed_over (card_covers limits book) (card_count book) (has covering) k))
    (λ a. ap not (all_compared limits book covering m redundant order past inside so k a))

pub cleared : (d end : List ℕ) (n size : ℕ) → n ≡ length d → length d ≡ size → end ≡ put d 0 (zeros (n - 0)) → end ≡ zeros size
cleared d end n size e f is =
    let whole : n - 0 ≡ size = omega (arith, e, f) in
    is ∙ ap (λ (k : ℕ). put d 0 (zeros k)) whole ∙ put_whole d (zeros size) (length_zeros size ∙ sym f)
