-- What a row takes in, by the values that the code has and as the theory has it.
--   first_is                  the first number of a range that passes a test, by what it is
--   lowest_wanted             the lowest defined name that is still wanted
--   next_shown, one_shown     it is the theory's; one definition taken in
--   round_none, round_one     the rounds of the theory: nothing left to take in, one more taken in
--   taken_below               the names taken in are a set of names
--   known_none, known_next    and defined
--   name_below, name_defined  the name that is found is one
--   name_found                both
--   Onward                    once the rounds that are left are over, all is taken in
--   onward_stop, onward_next, onward_done
use Prim.Native.Nat.{ℕ, zero, suc, ◌+◌, ◌-◌, ◌<◌, ◌^◌, ◌≤◌}
use borrow.Author.Tests.{eqb-true, le-ltb, lt-ltb}
use lib.ListN.{get_or}
use lib.Pow.{pow_mono}
use lib.Dec.{T, eqb, ltb, lt→ltb}
use mathlib.Core.Bool.{Bool, ◌&&◌, ◌||◌, false, false≢true, not, true}
use mathlib.Core.List.{List}
use mathlib.Core.Logic.{⊎_elim}
use mathlib.Core.Path.{◌∙◌, ◌≡◌, ap, ap₂, refl, subst, sym}
use native.Mathlib.Nat.{eq-or-lt_of_le, mod-eq_of_lt}
use native.Mathlib.Omega.{arith}
use Rattle.table.proofs.Bools.{by_test, is_true, true_is}
use Rattle.table.proofs.NameSets.{has_complement, has_intersection, has_none, has_power, has_union, union_below}
use Rattle.table.specs.Layout.{name_count}
use Rattle.table.specs.Fields.{excluded_of, impossible_of, wanted_of}
use Rattle.table.specs.NameSet.{complement, has, intersection, none, union}
use Rattle.table.specs.NameValues.{set_of}
use Rattle.table.specs.Pick.{pick}
use Rattle.ale.specs.PictureSignature.{picture_signature}
use Rattle.ale.specs.Rows.{first_from, member}
use Rattle.ale.proofs.Tests.{and_left, chosen}
use Rattle.tbox.proofs.Counts.{first_found}
use Rattle.tbox.specs.Definitions.{Definitions, root_label}
use Rattle.tbox.specs.Unfold as Theory
use Rattle.tbox.specs.Unfold.{next_wanted, take_in, take_one, wanting}
use Rattle.meaning.specs.File.{mark_code}
use Rattle.definition_parts.specs.Parts.{Agrees, part_at}
use Rattle.unfold_rows.specs.Takings.{Shows, Took, wanting_in}
use Rattle.unfold_rows.specs.declared.take.Taking.{Taking}

pub first_is : (q : ℕ → Bool) (o n r : ℕ) → o ≤ r → r ≤ o + n → ((k : ℕ) → o ≤ k → k < r → q k ≡ false) →
    (r < o + n → q r ≡ true) → r ≡ first_from q o n
first_is q o zero r a b f t = omega arith
first_is q o (suc n) r a b f t =
    ⊎_elim
    (λ (e : o ≡ r). sym e ∙ sym (ap (λ z. pick z o (first_from q (suc o) n)) (ap q e ∙ t (omega arith))))
    (λ (l : o < r). first_is q (suc o) n r l (omega arith) (λ k c d. f k (omega arith) d) (λ d. t (omega arith))
    ∙ sym (ap (λ z. pick z o (first_from q (suc o) n)) (f o (omega arith) l)))
    (eq-or-lt_of_le {n = o} {m = r} a)

more_is : (w d t i c m k : ℕ) → t < 2 ^ name_count → i ≡ intersection w d → c ≡ complement t → m ≡ intersection i c →
    k < name_count →
    has m k ≡ (has d k && (has w k && not (has t k)))
more_is w d t i c m k small p q r l =
    ap (λ z. has z k) r ∙ has_intersection i c k
    ∙ ap₂ (λ x y. x && y) (ap (λ z. has z k) p ∙ has_intersection w d k)
    (ap (λ z. has z k) q ∙ has_complement t k small
    ∙ ap (λ z. z && not (has t k)) (is_true (ltb k name_count) (lt→ltb k name_count l)))
    ∙ turn (has w k) (has d k) (not (has t k))
  where
    turn : (a b c : Bool) → ((a && b) && (true && c)) ≡ (b && (a && c))
    turn true true c = refl
    turn true false c = refl
    turn false true c = refl
    turn false false c = refl

pub lowest_wanted : (s : Taking) (defined i c m r : ℕ) → set_of s.taken < 2 ^ name_count →
    i ≡ intersection (set_of s.wanted) defined → c ≡ complement (set_of s.taken) →
    m ≡ intersection i c → (r ≤ name_count) × (((k : ℕ) → k < r → has m k ≡ false) × (r < name_count → has m r ≡ true)) →
    r ≡ first_from (wanting_in s defined) 0 name_count
lowest_wanted s defined i c m r small p q e h =
    let same : (k : ℕ) → k < name_count → has m k ≡ wanting_in s defined k =
    λ k l. more_is (set_of s.wanted) defined (set_of s.taken) i c m k small p q e l in
    first_is (wanting_in s defined) 0 name_count r (omega arith) (omega (arith, h.0))
    (λ k a l. sym (same k (omega (arith, h.0))) ∙ h.1.0 k l)
    (λ l. sym (same r (omega arith)) ∙ h.1.1 (omega arith))

-- ---- as the theory has it

first_same : (q r : ℕ → Bool) (o n : ℕ) → ((k : ℕ) → q k ≡ r k) → first_from q o n ≡ first_from r o n
first_same q r o zero h = refl
first_same q r o (suc n) h = ap₂ (λ x y. pick x o y) (h o) (first_same q r (suc o) n h)

module _ (D : Definitions picture_signature) (tbox starts : List ℕ) (defined : ℕ)
    (agrees : Agrees D tbox starts defined) where
  pub next_shown : (t : Taking) (s : Theory.Taking picture_signature) → Shows t s →
      first_from (wanting_in t defined) 0 name_count ≡ next_wanted picture_signature D s
  next_shown t s h =
      first_same (wanting_in t defined) (wanting picture_signature D s) 0 name_count (λ k.
      ap₂ (λ x y. x && y) (ap (λ z. has z k) (sym agrees.names))
      (ap₂ (λ x y. x && not y) (ap (λ z. has z k) h.wanted) (h.taken k)))

  -- a name of the book is one of the defined names
  defined_shown : (n : ℕ) → has defined n ≡ true → T (picture_signature.has D.defined n)
  defined_shown n e = true_is (has D.defined.set n) (ap (λ z. has z n) agrees.names ∙ e)

  root_shown : (n : ℕ) → T (picture_signature.has D.defined n) →
      (wanted_of (part_at tbox (get_or starts n 0)) 0 < 2 ^ name_count →
      (root_label picture_signature D n).wanted.set ≡ wanted_of (part_at tbox (get_or starts n 0)) 0)
      × (excluded_of (part_at tbox (get_or starts n 0)) 0 < 2 ^ name_count →
      (root_label picture_signature D n).excluded.set ≡ excluded_of (part_at tbox (get_or starts n 0)) 0)
      × ((root_label picture_signature D n).bottom ≡ eqb (impossible_of (part_at tbox (get_or starts n 0)) 0) 1)
  root_shown n d =
      let e = agrees.pictures n d in (
        λ l. ap (λ p. (p.label 0).wanted.set) e ∙ mod-eq_of_lt l,
        λ l. ap (λ p. (p.label 0).excluded.set) e ∙ mod-eq_of_lt l,
        ap (λ p. (p.label 0).bottom) e,
      )

  pub one_shown : (t r : Taking) (s : Theory.Taking picture_signature) (n : ℕ) → has defined n ≡ true → Shows t s →
      Took t (part_at tbox (get_or starts n 0)) n r →
      Shows r (take_one picture_signature D s n)
  one_shown t r s n e h w =
      let (a, b, c) = root_shown n (defined_shown n e) in
      record {
        wanted = w.wanted ∙ ap₂ union h.wanted (sym (a w.wanted_below));
        excluded = w.excluded ∙ ap₂ union h.excluded (sym (b w.excluded_below));
        impossible = w.impossible ∙ ap (λ z. pick (eqb (impossible_of (part_at tbox (get_or starts n 0)) 0) 1) 1 z)
            h.impossible
            ∙ marks s.label.bottom (eqb (impossible_of (part_at tbox (get_or starts n 0)) 0) 1)
            ∙ ap (λ z. mark_code (s.label.bottom || z)) (sym c);
        taken = λ k.
            ap (λ z. has z k) w.taken ∙ has_union (set_of t.taken) (2 ^ n) k
            ∙ ap₂ (λ x y. x || y) (h.taken k) (has_power n k) ∙ turned (member k s.taken) (eqb k n);
      }
    where
      marks : (a b : Bool) → pick b 1 (mark_code a) ≡ mark_code (a || b)
      marks true true = refl
      marks true false = refl
      marks false true = refl
      marks false false = refl

      turned : (a b : Bool) → (a || b) ≡ (b || a)
      turned true true = refl
      turned true false = refl
      turned false true = refl
      turned false false = refl

-- ---- rounds

pub round_none : (D : Definitions picture_signature) (s : Theory.Taking picture_signature) (k : ℕ) →
    next_wanted picture_signature D s ≡ name_count → take_in picture_signature D k s ≡ s
round_none D s zero e = refl
round_none D s (suc k) e =
    ap (λ b. pick b (take_in picture_signature D k (take_one picture_signature D s (next_wanted picture_signature D s))) s)
    (le-ltb (next_wanted picture_signature D s) name_count (omega arith))

pub round_one : (D : Definitions picture_signature) (s : Theory.Taking picture_signature) (k n : ℕ) →
    n ≡ next_wanted picture_signature D s → n < name_count →
    take_in picture_signature D (suc k) s ≡ take_in picture_signature D k (take_one picture_signature D s n)
round_one D s k n e l =
    ap (λ b. pick b (take_in picture_signature D k (take_one picture_signature D s (next_wanted picture_signature D s))) s)
    (lt-ltb (next_wanted picture_signature D s) name_count (omega arith))
    ∙ ap (λ z. take_in picture_signature D k (take_one picture_signature D s z)) (sym e)

pub taken_below : (a n r : ℕ) → a < 2 ^ name_count → n < name_count → r ≡ union a (2 ^ n) → r < 2 ^ name_count
taken_below a n r l b e =
    let h : 2 ^ n ≤ 2 ^ 63 = pow_mono {j = 63} (omega arith) in
    subst (λ z. z < 2 ^ name_count) (sym e) (union_below a (2 ^ n) l (omega arith))

-- only defined names are taken in
pub known_none : (defined a : ℕ) → a ≡ none → (k : ℕ) → has a k ≡ true → has defined k ≡ true
known_none defined a e k h = absurd (false≢true (sym (has_none k) ∙ ap (λ z. has z k) (sym e) ∙ h))

pub known_next : (defined a n r : ℕ) → r ≡ union a (2 ^ n) → ((k : ℕ) → has a k ≡ true → has defined k ≡ true) →
    has defined n ≡ true → (k : ℕ) → has r k ≡ true → has defined k ≡ true
known_next defined a n r e before here k h =
    by_test (eqb k n) (λ t. ap (has defined) (eqb-true k n t) ∙ here)
    (λ f. before k (plain (has a k) (eqb k n) f (sym (has_union a (2 ^ n) k ∙ ap (λ z. has a k || z) (has_power n k))
    ∙ ap (λ z. has z k) (sym e) ∙ h)))
  where
    plain : (a b : Bool) → b ≡ false → (a || b) ≡ true → a ≡ true
    plain true b f t = refl
    plain false b f t = absurd (false≢true (sym f ∙ t))

-- ---- the name that is found

first_most : (q : ℕ → Bool) (o n : ℕ) → first_from q o n ≤ o + n
first_most q o zero = omega arith
first_most q o (suc n) = chosen (λ z. z ≤ o + suc n) (q o) o (first_from q (suc o) n) (λ t. omega arith)
    (λ t. omega (arith, first_most q (suc o) n))

pub name_below : (s : Taking) (defined r : ℕ) → r ≡ first_from (wanting_in s defined) 0 name_count →
    (r ≡ name_count → ⊥) → r < name_count
name_below s defined r e z = omega (arith, z, first_most (wanting_in s defined) 0 name_count)

pub name_defined : (s : Taking) (defined r : ℕ) → r ≡ first_from (wanting_in s defined) 0 name_count → r < name_count →
    has defined r ≡ true
name_defined s defined r e l =
    let t : T (wanting_in s defined r) =
    subst (λ z. T (wanting_in s defined z)) (sym e) (first_found (wanting_in s defined) 0 name_count (omega arith)) in
    is_true (has defined r) (and_left (has defined r) (has (set_of s.wanted) r && not (has (set_of s.taken) r)) t)

pub name_found : (s : Taking) (defined r : ℕ) → r ≡ first_from (wanting_in s defined) 0 name_count →
    (r ≡ name_count → ⊥) → (r < name_count) × (has defined r ≡ true)
name_found s defined r e z =
    let l = name_below s defined r e z in
    (l, name_defined s defined r e l)

-- ---- the loop

-- what has been taken in so far is, once the rounds that are left are over, all that is taken in
abbrev pub Onward : List ℕ → List ℕ → ℕ → Taking → Taking → ℕ → Type 0
Onward tbox starts defined start s left =
    (D : Definitions picture_signature) (t : Theory.Taking picture_signature) → Agrees D tbox starts defined →
    Shows start t →
    (u : Theory.Taking picture_signature) × Shows s u
    × (take_in picture_signature D left u ≡ take_in picture_signature D name_count t)

pub onward_stop : (tbox starts : List ℕ) (defined : ℕ) (start s : Taking) (left r : ℕ) →
    Onward tbox starts defined start s left →
    r ≡ first_from (wanting_in s defined) 0 name_count → r ≡ name_count →
    (D : Definitions picture_signature) (t : Theory.Taking picture_signature) → Agrees D tbox starts defined →
    Shows start t → Shows s (take_in picture_signature D name_count t)
onward_stop tbox starts defined start s left r on e z D t a h =
    let (u, w, x) = on D t a h in
    subst (λ k. Shows s k)
    (sym (round_none D u left (sym (next_shown D tbox starts defined a s u w) ∙ sym e ∙ z)) ∙ x) w

pub onward_next : (tbox starts : List ℕ) (defined : ℕ) (start s f : Taking) (left n : ℕ) →
    Onward tbox starts defined start s left → 0 < left →
    n ≡ first_from (wanting_in s defined) 0 name_count → n < name_count →
    Took s (part_at tbox (get_or starts n 0)) n f →
    Onward tbox starts defined start f (left - 1)
onward_next tbox starts defined start s f left n on pos e l took D t a h =
    let (u, w, x) = on D t a h in
    let more : suc (left - 1) ≡ left = omega arith in (
      take_one picture_signature D u n,
      one_shown D tbox starts defined a s f u n (name_defined s defined n e l) w took,
      sym (round_one D u (left - 1) n (e ∙ next_shown D tbox starts defined a s u w) l)
          ∙ ap (λ k. take_in picture_signature D k u) more ∙ x,
    )

pub onward_done : (tbox starts : List ℕ) (defined : ℕ) (start s : Taking) (left : ℕ) →
    Onward tbox starts defined start s left → left ≡ 0 →
    (D : Definitions picture_signature) (t : Theory.Taking picture_signature) → Agrees D tbox starts defined →
    Shows start t → Shows s (take_in picture_signature D name_count t)
onward_done tbox starts defined start s left on z D t a h =
    let (u, w, x) = on D t a h in
    subst (λ k. Shows s k) (sym (ap (λ k. take_in picture_signature D k u) z) ∙ x) w
