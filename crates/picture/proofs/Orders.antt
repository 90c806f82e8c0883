-- Laws of questions in their order, said once for every call: when all are answered yes, when one is answered no and
-- which is the first, what is answered then.
--   Decides                       all yes exactly if .., and the first no is r exactly if ..
--   said_so, yes_so               the same in other words; its first half
--   asked_decides, test_decides   a question by its test; by a number that has a limit
--   and_decides, and_yes          a question and those after it: the first no is its own, or else theirs; its first half
--   from_decides, from_yes        one question of each thing in turn; its first half;
--   YesTo, yes_on, to_yes,
--   yes_to, to_no                 as a loop asks
--   read_decides                  2 to 13 of a picture;
--   rows_yes, refused_no          by the answer of reading it
--   on_yes, on_no                 the answer where all is yes; where r is the first no
--   on_by                         a property of the value, where all is yes, and of every first no is one of the answer
--   on_then                       the answer after two lots of questions
--   then_assoc, then_same         three lots; what comes after a yes
--   from_same                     the same question of each thing
--   given                         an answer that is no refusal is the value, and all is yes
--   refused_by                    a refusal that is answered is the first no
--   EveryRefusal                  every refusal has a property;
--   asked_refuses, and_refuses, from_refuses, read_refuses, refuses_no   of the same
use Prim.Native.Nat.{◌+◌, ◌<◌, ◌≤◌, suc, zero, ℕ}
use borrow.Author.Tests.{le-leb, leb-false, leb-true, lt-leb}
use lib.Dec.{leb}
use mathlib.Core.Bool.{Bool, false, true}
use mathlib.Core.List.{List}
use mathlib.Core.Logic.{◌↔◌, ◌⊎◌, inl, inr, ⊎_elim}
use mathlib.Core.Path.{◌≡◌, ap, refl, subst, sym}
use native.Mathlib.Nat.{eq-or-lt_of_le}
use native.Mathlib.Omega.{arith}
use Rattle.std.proofs.Common.{Err, Ok, Result}
use Rattle.table.specs.declared.layout.Limits.{Limits}
use Rattle.picture.specs.Asked.{and_then, asked, asked_from, on_asked, read_asked, reading_asked, Asked, yes}
use Rattle.picture.specs.Read.{answer_of, answered, reading_of}
use Rattle.picture.specs.Readable.{FailsAt, Readable}
use Rattle.picture.specs.Refusal.{refusal_at}
use Rattle.picture.specs.declared.answer.Input.{Input}
use Rattle.picture.specs.declared.answer.Refusal.{Refusal}
use Rattle.picture.specs.declared.read.Failure.{Failure}
use Rattle.picture.proofs.Readables.{failed_field, failed_once}

-- a no is no yes
clash : (r : Refusal) → ◌≡◌ {A = Asked} (Err r) yes → ⊥
clash r e = let z : ◌≡◌ {A = ℕ} 0 1 = cc in omega arith

-- ---- when all are answered yes, and when one is answered no

pub record Decides (a : Asked) (Y : Type 0) (N : Refusal → Type 0) : Type 0 where
  pub yes : (a ≡ yes) ↔ Y
  pub no : (r : Refusal) → (a ≡ Err r) ↔ N r

pub said_so : {Y Z : Type 0} {N M : Refusal → Type 0} (a : Asked) → Decides a Y N → Y ↔ Z →
    ((r : Refusal) → N r ↔ M r) → Decides a Z M
said_so a d y n = record {
  yes = (λ e. y.0 (d.yes.0 e), λ z. d.yes.1 (y.1 z));
  no = λ r. (λ e. (n r).0 ((d.no r).0 e), λ m. (d.no r).1 ((n r).1 m));
}

pub yes_so : {Y Z : Type 0} {N : Refusal → Type 0} (a : Asked) → Decides a Y N → Y ↔ Z → (a ≡ yes) ↔ Z
yes_so a d y = (λ e. y.0 (d.yes.0 e), λ z. d.yes.1 (y.1 z))

abbrev Refused : Bool → Refusal → Refusal → Type 0
Refused b q r = (b ≡ false) × (r ≡ q)

pub asked_decides : (b : Bool) (q : Refusal) → Decides (asked b q) (b ≡ true) (Refused b q)
asked_decides true q = record {
  yes = (λ e. refl, λ e. refl);
  no = λ r. (λ e. absurd (clash r (sym e)), λ (e, is). absurd (let z : ◌≡◌ {A = ℕ} 0 1 = cc in omega arith));
}
asked_decides false q = record {
  yes = (λ e. absurd (clash q e), λ e. absurd (let z : ◌≡◌ {A = ℕ} 0 1 = cc in omega arith));
  no = λ r. (λ e. (refl, cc), λ (e, is). ap Err (sym is));
}

pub test_decides : (n most : ℕ) (q : Refusal) → Decides (asked (leb n most) q) (n ≤ most) (λ r. (most < n) × (r ≡ q))
test_decides n most q =
    said_so (asked (leb n most) q) (asked_decides (leb n most) q) (leb-true n most, le-leb n most)
    (λ r. (λ (e, is). (leb-false n most e, is), λ (l, is). (lt-leb n most l, is)))

module _ {Y Z : Type 0} {N M : Refusal → Type 0} where
  pub and_decides : (a b : Asked) → Decides a Y N → (Y → Decides b Z M) →
      Decides (and_then a b) (Y × Z) (λ r. N r ⊎ (Y × M r))
  and_decides (Ok _) b d after =
      let y = d.yes.0 refl in
      let e = after y in
      record {
        yes = (λ h. (y, e.yes.0 h), λ (here, rest). e.yes.1 rest);
        no = λ r. (
          λ h. inr (y, (e.no r).0 h),
          ⊎_elim (λ n. absurd (clash r (sym ((d.no r).1 n)))) (λ (here, m). (e.no r).1 m),
        );
      }
  and_decides (Err q) b d after = record {
    yes = (λ h. absurd (clash q h), λ (here, rest). absurd (clash q (d.yes.1 here)));
    no = λ r. (λ h. inl ((d.no r).0 h), ⊎_elim (λ n. (d.no r).1 n) (λ (here, m). absurd (clash q (d.yes.1 here))));
  }

-- its first half
pub and_yes : (a b : Asked) → (and_then a b ≡ yes) ↔ ((a ≡ yes) × (b ≡ yes))
and_yes (Ok _) b = (λ e. (refl, e), λ (h, e). e)
and_yes (Err r) b = (λ e. absurd (clash r e), λ (h, e). absurd (clash r h))

-- each of `more` things from k on; the first of them that is refused by r
abbrev pub AllFrom : (ℕ → Type 0) → ℕ → ℕ → Type 0
AllFrom Y more k = (j : ℕ) → k ≤ j → j < k + more → Y j

abbrev pub FirstFrom : (ℕ → Type 0) → (ℕ → Refusal → Type 0) → ℕ → ℕ → Refusal → Type 0
FirstFrom Y N more k r = (j : ℕ) × (k ≤ j) × (j < k + more) × N j r × ((i : ℕ) → k ≤ i → i < j → Y i)

module _ (ask : ℕ → Asked) (Y : ℕ → Type 0) (N : ℕ → Refusal → Type 0) where
  pub from_decides : (more k : ℕ) → ((j : ℕ) → k ≤ j → j < k + more → Decides (ask j) (Y j) (N j)) →
      Decides (asked_from ask more k) (AllFrom Y more k) (FirstFrom Y N more k)
  unfolding asked_from
  from_decides zero k d = record {
    yes = (λ e j a b. absurd (omega arith), λ all. refl);
    no = λ r. (λ e. absurd (clash r (sym e)), λ (j, a, b, n, before). absurd (omega arith));
  }
  from_decides (suc more) k d =
      said_so (and_then (ask k) (asked_from ask more (k + 1)))
      (and_decides (ask k) (asked_from ask more (k + 1)) (d k (omega arith) (omega arith))
      (λ here. from_decides more (k + 1) (λ j a b. d j (omega arith) (omega arith)))) (
        λ (here, rest) j a b. ⊎_elim (λ (z : k ≡ j). subst Y z here)
            (λ (l : k < j). rest j (omega arith) (omega arith)) (eq-or-lt_of_le a),
        λ all. (all k (omega arith) (omega arith), λ j a b. all j (omega arith) (omega arith)),
      )
      (λ r. (
        ⊎_elim
            (λ n. (k, omega arith, omega arith, n, λ i a b. absurd (omega arith)))
            (λ (here, (j, a, b, n, before)). (
              j,
              omega arith,
              omega arith,
              n,
              λ i c e. ⊎_elim (λ (z : k ≡ i). subst Y z here)
                  (λ (l : k < i). before i (omega arith) e) (eq-or-lt_of_le c),
            )),
        λ (j, a, b, n, before). ⊎_elim
            (λ (z : k ≡ j). inl (subst (λ i. N i r) (sym z) n))
            (λ (l : k < j). inr (
              before k (omega arith) l,
              (
                j,
                omega arith,
                omega arith,
                n,
                λ i c e. before i
                    (omega arith) e,
              ),
            ))
            (eq-or-lt_of_le a),
      ))

-- its first half
pub from_yes : (ask : ℕ → Asked) (Y : ℕ → Type 0) → ((j : ℕ) → (ask j ≡ yes) ↔ Y j) →
    (more k : ℕ) → (asked_from ask more k ≡ yes) ↔ AllFrom Y more k
from_yes ask Y d more k =
    (from_decides ask Y (λ j r. ask j ≡ Err r) more k (λ j a b. record { yes = d j; no = λ r. (λ e. e, λ e. e) })).yes

-- as a loop asks: it is answered yes of the things before number i, and so of one more; then of all, or i's is the
-- first no
module _ (ask : ℕ → Asked) where
  abbrev pub YesTo : ℕ → Type 0
  YesTo i = (k : ℕ) → k < i → ask k ≡ yes

  pub yes_on : (i : ℕ) → ask i ≡ yes → YesTo i → YesTo (i + 1)
  yes_on i here before k l =
      ⊎_elim (λ (x : k ≡ i). rw x here) (λ (x : k < i). before k x) (eq-or-lt_of_le (omega arith))

  module _ (m : ℕ) where
    abbrev Said : ℕ → Type 0
    Said j = ask j ≡ yes

    decided : Decides (asked_from ask m 0) (AllFrom Said m 0) (FirstFrom Said (λ j r. ask j ≡ Err r) m 0)
    decided =
        from_decides ask Said (λ j r. ask j ≡ Err r) m 0
        (λ j a b. record { yes = (λ e. e, λ e. e); no = λ r. (λ e. e, λ e. e) })

    pub to_yes : (i : ℕ) → m ≤ i → YesTo i → asked_from ask m 0 ≡ yes
    to_yes i l before = decided.yes.1 (λ k a b. before k (omega arith))

    pub yes_to : asked_from ask m 0 ≡ yes → YesTo m
    yes_to all k l = decided.yes.0 all k (omega arith) (omega arith)

    pub to_no : (i : ℕ) (r : Refusal) → i < m → ask i ≡ Err r → YesTo i → asked_from ask m 0 ≡ Err r
    to_no i r l here before = (decided.no r).1 (i, omega arith, omega arith, here, λ k a b. before k b)

-- ---- 2 to 13 of a picture

module _ (limits : Limits) (input : Input) (s : List ℕ) where
  abbrev pub Unreadable : Refusal → Type 0
  Unreadable r = (q : ℕ) × (n : ℕ) × FailsAt limits s q n × (r ≡ refusal_at q input n)

  by_reading : (t : Result ℕ Failure) → reading_of limits s ≡ t → Decides (reading_asked input t) (Readable limits s) Unreadable
  by_reading (Ok n) e = record {
    yes = (λ h. record { rows = n; reads = e }, λ h. refl);
    no = λ r. (
      λ h. absurd (clash r (sym h)),
      λ (q, m, f, is). let fails = (failed_field limits s q m).1 f in absurd
          (let z : ◌≡◌ {A = ℕ} 0 1 = cc in omega arith),
    );
  }
  by_reading (Err at) e =
      let q = at.number in
      let n = at.rows in
      let here : FailsAt limits s q n = (failed_field limits s q n).0 e in
      record {
        yes = (
          λ h. absurd (clash (refusal_at q input n) h),
          λ h. let f = h.reads in absurd
              (let z : ◌≡◌ {A = ℕ} 0 1 = cc in omega arith),
        );
        no = λ r. (
          λ h. (q, n, here, cc),
          λ (p, m, f, is). let (same, there) = failed_once limits s q n p m here f in
              ap Err (sym (rw (same, there) at is)),
        );
      }

  abbrev answer_asked : Result ℕ Refusal → Asked
  answer_asked (Ok n) = yes
  answer_asked (Err r) = Err r

  by_answer : (t : Result ℕ Failure) (a : Result ℕ Refusal) → answered input t ≡ a → reading_asked input t ≡ answer_asked a
  by_answer (Ok n) a e = rw (← e)
  by_answer (Err at) a e = rw (← e)

  pub read_decides : Decides (read_asked limits input s) (Readable limits s) Unreadable
  unfolding read_asked
  read_decides = by_reading (reading_of limits s) refl

  -- the same by the answer of a reading
  pub rows_yes : (n : ℕ) → answer_of limits input s ≡ Ok n → read_asked limits input s ≡ yes
  unfolding read_asked answer_of
  rows_yes n e = by_answer (reading_of limits s) (Ok n) e

  pub refused_no : (r : Refusal) → answer_of limits input s ≡ Err r → read_asked limits input s ≡ Err r
  unfolding read_asked answer_of
  refused_no r e = by_answer (reading_of limits s) (Err r) e

-- ---- what is answered

module _ {A : Type 0} (answer : Result A Refusal) where
  pub on_yes : (a : Asked) → a ≡ yes → on_asked a answer ≡ answer
  on_yes a e = rw e

  pub on_no : (a : Asked) (r : Refusal) → a ≡ Err r → on_asked a answer ≡ Err r
  on_no a r e = rw e

  pub on_by : (P : Result A Refusal → Type 0) (a : Asked) → (a ≡ yes → P answer) →
      ((r : Refusal) → a ≡ Err r → P (Err r)) → P (on_asked a answer)
  on_by P (Ok _) y n = y refl
  on_by P (Err r) y n = n r refl

  pub given : (v : A) (a : Asked) → on_asked a answer ≡ Ok v → (a ≡ yes) × (answer ≡ Ok v)
  given v (Ok _) e = (refl, e)
  given v (Err r) e = absurd (let z : ◌≡◌ {A = ℕ} 0 1 = cc in omega arith)

  pub refused_by : (r : Refusal) → (answer ≡ Err r → ⊥) → (a : Asked) → on_asked a answer ≡ Err r → a ≡ Err r
  refused_by r none (Ok _) e = absurd (none e)
  refused_by r none (Err q) e = ap Err (let same : q ≡ r = cc in same)

-- ---- what every refusal has

module _ (P : Refusal → Type 0) where
  abbrev pub EveryRefusal : Asked → Type 0
  EveryRefusal (Ok _) = Unit
  EveryRefusal (Err r) = P r

  pub asked_refuses : (b : Bool) (r : Refusal) → P r → EveryRefusal (asked b r)
  asked_refuses true r h = tt
  asked_refuses false r h = h

  pub and_refuses : (a b : Asked) → EveryRefusal a → EveryRefusal b → EveryRefusal (and_then a b)
  and_refuses (Ok _) b h k = k
  and_refuses (Err r) b h k = h

  pub from_refuses : (ask : ℕ → Asked) (more k : ℕ) → ((j : ℕ) → k ≤ j → j < k + more → EveryRefusal (ask j)) →
      EveryRefusal (asked_from ask more k)
  unfolding asked_from
  from_refuses ask zero k h = tt
  from_refuses ask (suc more) k h =
      and_refuses (ask k) (asked_from ask more (k + 1)) (h k (omega arith) (omega arith))
      (from_refuses ask more (k + 1) (λ j a b. h j (omega arith) (omega arith)))

  pub read_refuses : (limits : Limits) (input : Input) (s : List ℕ) →
      ((q n : ℕ) → FailsAt limits s q n → P (refusal_at q input n)) → EveryRefusal (read_asked limits input s)
  unfolding read_asked
  read_refuses limits input s h = by (reading_of limits s) refl
    where
      by : (t : Result ℕ Failure) → reading_of limits s ≡ t → EveryRefusal (reading_asked input t)
      by (Ok n) e = tt
      by (Err at) e = h at.number at.rows ((failed_field limits s at.number at.rows).0 e)

  pub refuses_no : (a : Asked) → EveryRefusal a → (r : Refusal) → a ≡ Err r → P r
  refuses_no a h r e = subst EveryRefusal e h

-- ---- two lots of questions

pub on_then : {A : Type 0} (a b : Asked) (answer : Result A Refusal) →
    on_asked a (on_asked b answer) ≡ on_asked (and_then a b) answer
on_then (Ok _) b answer = refl
on_then (Err r) b answer = refl

pub then_assoc : (a b c : Asked) → and_then a (and_then b c) ≡ and_then (and_then a b) c
then_assoc (Ok _) b c = refl
then_assoc (Err r) b c = refl

pub then_same : (a b c : Asked) → (a ≡ yes → b ≡ c) → and_then a b ≡ and_then a c
then_same (Ok _) b c h = h refl
then_same (Err r) b c h = refl

pub from_same : (ask other : ℕ → Asked) (more k : ℕ) → ((j : ℕ) → k ≤ j → j < k + more → ask j ≡ other j) →
    asked_from ask more k ≡ asked_from other more k
unfolding asked_from
from_same ask other zero k h = refl
from_same ask other (suc more) k h =
    rw (h k (omega arith) (omega arith), from_same ask other more (k + 1) (λ j a b. h j (omega arith) (omega arith)))
