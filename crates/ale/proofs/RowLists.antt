-- Laws of sets of row numbers.
--   member_head, member_tail            the members of a list: its first, and those of the rest
--   no_members                          a list without members is empty
--   member_cons                         what is true of the first and of each of the rest is true of each
--   filter_below_out, filter_below_in     the members of a filtered range are the numbers below n that pass
--   filter_from_split                    the numbers of a range that pass are those of its first part, then those of the rest
--   filter_from_none                     a range in which no number passes gives none
--   filter_from_same                     tests that agree on the range give the same numbers
--   with_row_each                        what is true of the added row and of each row of the set is true of each
--   with_row_self, with_row_others        the added row is a member, and so is every row of the set
use Prim.Native.Nat.{◌+◌, ◌<◌, ◌≤◌, suc, zero, ℕ}
use lib.Dec.{T, eqb, eqb_refl, eqb→eq}
use mathlib.Core.Bool.{Bool, ◌||◌, false, not, true}
use mathlib.Core.List.{List, [], ◌++◌, ◌∷◌}
use mathlib.Core.Logic.{⊎_elim}
use mathlib.Core.Path.{◌∙◌, ◌≡◌, ap, refl, subst, sym}
use native.Mathlib.Nat.{eq-or-lt_of_le}
use native.Mathlib.Omega.{arith}
use Rattle.table.specs.Pick.{pick}
use Rattle.ale.specs.Rows.{filter_below, filter_from, member, with_row}
use Rattle.ale.proofs.Tests.{chosen, chosen_first, clash, or_left, or_right, or_split}

pub member_head : (i : ℕ) (s : List ℕ) → T (member i (i ∷ s))
member_head i s = or_left (eqb i i) (member i s) (eqb_refl i)

pub member_tail : (i j : ℕ) (s : List ℕ) → T (member i s) → T (member i (j ∷ s))
member_tail i j s h = or_right (eqb i j) (member i s) h

pub no_members : (s : List ℕ) → ((i : ℕ) → ¬ T (member i s)) → s ≡ []
no_members [] n = refl
no_members (i ∷ s) n = absurd (n i (member_head i s))

pub member_cons : (P : ℕ → Type 0) (j : ℕ) (s : List ℕ) → P j → ((i : ℕ) → T (member i s) → P i) →
    (i : ℕ) → T (member i (j ∷ s)) → P i
member_cons P j s p q i h = ⊎_elim (λ e. subst P (sym (eqb→eq i j e)) p) (λ m. q i m) (or_split (eqb i j) (member i s) h)

-- j is one of the n numbers from o on, and passes
abbrev PassesIn : (ℕ → Bool) → ℕ → ℕ → ℕ → Type 0
PassesIn q o n j = T (q j) × (o ≤ j) × (j < o + n)

filter_from_out : (q : ℕ → Bool) (o n j : ℕ) → T (member j (filter_from q o n)) → PassesIn q o n j
filter_from_out q o zero j h = absurd h
filter_from_out q o (suc n) j h =
    let s = filter_from q (suc o) n in
    let later : T (member j s) → PassesIn q o (suc n) j = λ m. let (a, b, c) = filter_from_out q (suc o) n j m in (a, omega arith, omega arith) in
    chosen (λ z. T (member j z) → PassesIn q o (suc n) j) (q o) (o ∷ s) s
    (λ t m. ⊎_elim (λ e. first t (eqb→eq j o e)) later (or_split (eqb j o) (member j s) m)) (λ t. later) h
  where
    first : T (q o) → j ≡ o → PassesIn q o (suc n) j
    first t e = (subst (λ i. T (q i)) (sym e) t, omega arith, omega arith)

filter_from_in : (q : ℕ → Bool) (o n j : ℕ) → T (q j) → o ≤ j → j < o + n → T (member j (filter_from q o n))
filter_from_in q o zero j t a l = absurd (omega arith)
filter_from_in q o (suc n) j t a l =
    let s = filter_from q (suc o) n in
    ⊎_elim
    (λ e. chosen_first (λ z. T (member j z)) (q o) (o ∷ s) s
    (subst (λ i. T (q i)) (sym e) t) (subst (λ i. T (member i (o ∷ s))) e (member_head o s)))
    (λ b. let m = filter_from_in q (suc o) n j t b (omega arith) in
    chosen (λ z. T (member j z)) (q o) (o ∷ s) s (λ _. member_tail j o s m) (λ _. m))
    (eq-or-lt_of_le {n = o} {m = j} a)

pub filter_below_out : (q : ℕ → Bool) (n j : ℕ) → T (member j (filter_below q n)) → T (q j) × (j < n)
filter_below_out q n j m = let (a, b, c) = filter_from_out q 0 n j m in (a, omega arith)

pub filter_below_in : (q : ℕ → Bool) (n j : ℕ) → T (q j) → j < n → T (member j (filter_below q n))
filter_below_in q n j t l = filter_from_in q 0 n j t (omega arith) (omega arith)

pub filter_from_split : (q : ℕ → Bool) (o m n t e : ℕ) → t ≡ m + n → e ≡ o + m → filter_from q o t ≡ filter_from q o m ++ filter_from q e n
filter_from_split q o zero n t e p r =
    let whole : t ≡ n = omega arith in
    let start : o ≡ e = omega arith in
    ap (λ z. filter_from q o z) whole ∙ ap (λ z. filter_from q z n) start
filter_from_split q o (suc m) n t e p r =
    let whole : suc (m + n) ≡ t = omega arith in
    subst (λ z. filter_from q o z ≡ filter_from q o (suc m) ++ filter_from q e n) whole
    (step (q o) (filter_from_split q (suc o) m n (m + n) e refl (omega arith)))
  where
    step : (b : Bool) → filter_from q (suc o) (m + n) ≡ filter_from q (suc o) m ++ filter_from q e n →
        pick b (o ∷ filter_from q (suc o) (m + n)) (filter_from q (suc o) (m + n)) ≡
        pick b (o ∷ filter_from q (suc o) m) (filter_from q (suc o) m) ++ filter_from q e n
    step true h = ap (λ s. o ∷ s) h
    step false h = h

pub filter_from_none : (q : ℕ → Bool) (o n : ℕ) → ((j : ℕ) → o ≤ j → j < o + n → T (not (q j))) → filter_from q o n ≡ []
filter_from_none q o zero h = refl
filter_from_none q o (suc n) h =
    let s = filter_from q (suc o) n in
    chosen (λ z. z ≡ []) (q o) (o ∷ s) s
    (λ t. absurd (clash (q o) t (h o (omega arith) (omega arith))))
    (λ t. filter_from_none q (suc o) n (λ j a b. h j (omega arith) (omega arith)))

pub filter_from_same : (q r : ℕ → Bool) (o n : ℕ) → ((j : ℕ) → o ≤ j → j < o + n → q j ≡ r j) → filter_from q o n ≡ filter_from r o n
filter_from_same q r o zero h = refl
filter_from_same q r o (suc n) h =
    rw (h o (omega arith) (omega arith), filter_from_same q r (suc o) n (λ j a b. h j (omega arith) (omega arith)))

pub with_row_each : (P : ℕ → Type 0) (n c : ℕ) (s : List ℕ) → P c → ((i : ℕ) → T (member i s) → P i) →
    (i : ℕ) → T (member i (with_row n c s)) → P i
with_row_each P n c s p q i m = member_cons P c s p q i (filter_below_out (λ j. eqb j c || member j s) n i m).0

pub with_row_self : (n c : ℕ) (s : List ℕ) → c < n → T (member c (with_row n c s))
with_row_self n c s b = filter_below_in (λ j. eqb j c || member j s) n c (member_head c s) b

pub with_row_others : (n c i : ℕ) (s : List ℕ) → i < n → T (member i s) → T (member i (with_row n c s))
with_row_others n c i s b m = filter_below_in (λ j. eqb j c || member j s) n i (member_tail i c s m) b
