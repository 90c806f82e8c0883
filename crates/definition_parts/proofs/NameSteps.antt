-- Names of a set one after the other, as a walk that has one at hand.
--   Walk                   the name that is next is the lowest that is left, and from there on all of the set are left
--   walk_held              it is in the set
--   walk_start, walk_next  before the first; from one to the next
--   walk_later             the next is later
--   walk_between           between the two there is none
--   step_lowest, step_low,
--   step_struck            a step of `NameWalk::next` gives the lowest name, and leaves the others
--   names_none             where it gives none, the lowest is past the names
use Prim.Native.Nat.{◌<◌, ◌^◌, ◌≤◌, ℕ}
use native.Mathlib.Nat.{eq-or-lt_of_le}
use native.Mathlib.Omega.{arith}
use borrow.Author.Tests.{eq-eqb, lt-ltb, ltb-false, ltb-true, ne_eqb}
use lib.Count.{count_trailing_zeros, trailing_le}
use lib.Dec.{eqb, ltb}
use lib.ListN.{drop, get_or, length}
use mathlib.Core.Bool.{◌&&◌, false, false≢true, not, true}
use mathlib.Core.List.{[], ◌∷◌}
use mathlib.Core.Logic.{⊎_elim}
use mathlib.Core.Path.{◌∙◌, ◌≡◌, ap, refl, subst, sym}
use Rattle.table.specs.Layout.{name_count}
use Rattle.table.specs.NameSet.{complement, has, intersection}
use Rattle.table.proofs.Bools.{by_test}
use Rattle.table.proofs.Lowest.{lowest_clear, lowest_set}
use Rattle.table.proofs.SetsBelow.{and_all}
use Rattle.table.proofs.Tests.{and_none}
use Rattle.ale.specs.Rows.{member}
use Rattle.definition_parts.specs.Names.{names_of}
use Rattle.definition_parts.proofs.NameWalks.{Lowest, Struck, names_end, names_member, names_next, struck_has}

pub record Walk (set left name : ℕ) : Type 0 where
  pub lowest : Lowest left name
  pub same : (k : ℕ) → name ≤ k → k < name_count → has left k ≡ has set k

pub walk_held : (set left name : ℕ) → Walk set left name → name < name_count → has set name ≡ true
walk_held set left name w low = sym (w.same name (omega arith) low) ∙ w.lowest.1.1 low

pub walk_start : (set name : ℕ) → Lowest set name → Walk set set name
walk_start set name l = record { lowest = l; same = λ k _ _. refl }

module _ (set left name next to : ℕ) (w : Walk set left name) (low : name < name_count) (struck : Struck left name next)
    (l : Lowest next to) where
  -- up to the name none is left
  gone : (k : ℕ) → k ≤ name → has next k ≡ false
  gone k b =
      ⊎_elim
      (λ (e : k ≡ name). struck k (omega arith) ∙ rw (eq-eqb k name e) (and_none (has left k)))
      (λ (s : k < name). struck k (omega arith) ∙ rw (w.lowest.1.0 k s))
      (eq-or-lt_of_le {n = k} {m = name} b)

  -- after it all are
  kept : (k : ℕ) → name < k → k < name_count → has next k ≡ has set k
  kept k a b =
      struck k b
      ∙ rw (ne_eqb k name (λ e. omega arith)) (and_all (has left k))
      ∙ w.same k (omega arith) b

  pub walk_later : name < to
  walk_later =
      by_test (ltb name to) (ltb-true name to)
      (λ f.
      let past = ltb-false name to f in
      absurd (false≢true (sym (gone to (omega arith)) ∙ l.1.1 (omega arith))))

  pub walk_next : Walk set next to
  walk_next = record { lowest = l; same = λ k a b. kept k (omega (arith, walk_later)) b }

  pub walk_between : (k : ℕ) → name < k → k < to → has set k ≡ false
  walk_between k a b = sym (kept k a (omega (arith, l.0))) ∙ l.1.0 k b

-- ---- the steps of the iterator

has_is : (set m : ℕ) → m < name_count → member m (names_of set) ≡ has set m
has_is set m l = names_member set m ∙ ap (λ b. b && has set m) (lt-ltb m name_count l)

module _ (left name next : ℕ) (is : names_of left ≡ name ∷ names_of next) where
  abbrev first : ℕ
  first = count_trailing_zeros 64 left

  lowest : Lowest left first
  lowest = (omega (arith, trailing_le 64 left), (λ k l. lowest_clear left k l, λ l. lowest_set left l))

  low : first < name_count
  low =
      by_test (ltb first name_count) (ltb-true first name_count)
      (λ f.
      let past = ltb-false first name_count f in
      absurd (omega (arith, ap length (sym is ∙ names_end left first lowest past))))

  abbrev rest : ℕ
  rest = intersection left (complement (2 ^ first))

  same : name ∷ names_of next ≡ first ∷ names_of rest
  same = sym is ∙ names_next left first rest lowest low (struck_has left first low)

  name_is : name ≡ first
  name_is = ap (λ s. get_or s 0 0) same

  pub step_lowest : Lowest left name
  step_lowest = subst (Lowest left) (sym name_is) lowest

  pub step_low : name < name_count
  step_low = omega (arith, name_is, low)

  pub step_struck : Struck left name next
  step_struck m l =
      sym (has_is next m l) ∙ ap (λ s. member m (drop 1 s)) same ∙ has_is rest m l
      ∙ struck_has left first low m l ∙ ap (λ n. has left m && not (eqb m n)) (sym name_is)

pub names_none : (left : ℕ) → names_of left ≡ [] → Lowest left name_count
names_none left is = (omega arith, (λ k l. sym (has_is left k l) ∙ ap (member k) is, λ l. absurd (omega arith)))
