-- Names of a set one by one, by rising number, each struck out of those that are left.
--   Lowest                 the lowest name of a set, or past the names: what `Names::first` answers
--   Struck                 a set without one name: what `without` answers
--   struck_has             an intersection with the complement of the set of one name is such a set
--   names_end, names_next  there is none; the lowest, then those that are left without it
--   names_member           the names of a set are those that it has
--   Walk                   the names that are left are names of the set
--   walk_all, walk_next    all of them are; and so are those after the next
--   walk_held              the next is in the set
use Prim.Native.Nat.{◌+◌, ◌-◌, ◌<◌, ◌^◌, ◌≤◌, suc, ℕ}
use native.Mathlib.Nat.{eq-or-lt_of_le}
use native.Mathlib.Omega.{arith}
use borrow.Author.Tests.{eq-eqb, lt-ltb, ltb-true, ne_eqb}
use lib.Dec.{eqb, ltb}
use lib.Pow.{pow-lt}
use mathlib.Core.Bool.{Bool, ◌&&◌, ◌||◌, false, not, true}
use mathlib.Core.List.{List, [], ◌++◌, ◌∷◌}
use mathlib.Core.Logic.{⊎_elim}
use mathlib.Core.Path.{◌∙◌, ◌≡◌, ap, refl, sym}
use Rattle.table.specs.Layout.{name_count}
use Rattle.table.specs.NameSet.{complement, has, intersection}
use Rattle.table.specs.Pick.{pick}
use Rattle.table.proofs.Bools.{both, false_is, is_true, true_is}
use Rattle.table.proofs.NameSets.{has_complement, has_intersection, has_power}
use Rattle.table.proofs.SetsBelow.{and_all}
use Rattle.table.proofs.Tests.{and_none}
use Rattle.ale.specs.Rows.{filter_below, filter_from, member}
use Rattle.ale.proofs.RowLists.{
  filter_below_in,
  filter_below_out,
  filter_from_none,
  filter_from_same,
  filter_from_split,
}
use Rattle.definition_parts.specs.Names.{names_of}

abbrev pub Lowest : ℕ → ℕ → Type 0
Lowest set r = (r ≤ name_count) × (((k : ℕ) → k < r → has set k ≡ false) × (r < name_count → has set r ≡ true))

abbrev pub Struck : ℕ → ℕ → ℕ → Type 0
Struck set name r = (m : ℕ) → m < name_count → has r m ≡ (has set m && not (eqb m name))

pub struck_has : (set name : ℕ) → name < name_count → Struck set name (intersection set (complement (2 ^ name)))
struck_has set name low m l =
    has_intersection set (complement (2 ^ name)) m
    ∙ ap (λ (b : Bool). has set m && b)
    (has_complement (2 ^ name) m (pow-lt low) ∙ rw (lt-ltb m name_count l, has_power name m))

-- ---- those from a name on

abbrev names_from : ℕ → ℕ → List ℕ
names_from set o = filter_from (has set) o (name_count - o)

names_skip : (set r : ℕ) → r ≤ name_count → ((k : ℕ) → k < r → has set k ≡ false) → names_of set ≡ names_from set r
unfolding names_of
names_skip set r l none =
    filter_from_split (has set) 0 r (name_count - r) name_count r (omega arith) (omega arith)
    ∙ ap (λ z. z ++ names_from set r)
    (filter_from_none (has set) 0 r (λ j p q. false_is (has set j) (none j (omega arith))))

names_first : (set n : ℕ) → n < name_count → has set n ≡ true → names_from set n ≡ n ∷ names_from set (n + 1)
names_first set n l h =
    ap (filter_from (has set) n) (let e : name_count - n ≡ suc (name_count - (n + 1)) = omega arith in e)
    ∙ ap (λ b. pick b (n ∷ filter_from (has set) (suc n) (name_count - (n + 1)))
    (filter_from (has set) (suc n) (name_count - (n + 1)))) h
    ∙ ap (λ z. n ∷ filter_from (has set) z (name_count - (n + 1))) (let e : suc n ≡ n + 1 = omega arith in e)

pub names_end : (set r : ℕ) → Lowest set r → name_count ≤ r → names_of set ≡ []
names_end set r low past =
    names_skip set r low.0 low.1.0
    ∙ ap (filter_from (has set) r) (let e : name_count - r ≡ 0 = omega arith in e)

pub names_next : (set name next : ℕ) → Lowest set name → name < name_count → Struck set name next →
    names_of set ≡ name ∷ names_of next
names_next set name next low l struck =
    names_skip set name low.0 low.1.0
    ∙ names_first set name l (low.1.1 l)
    ∙ ap (λ z. name ∷ z) (filter_from_same (has set) (has next) (name + 1) (name_count - (name + 1)) after
    ∙ sym (names_skip next (name + 1) (omega arith) gone))
  where
    after : (k : ℕ) → name + 1 ≤ k → k < name + 1 + (name_count - (name + 1)) → has set k ≡ has next k
    after k a b =
        sym (struck k (omega arith) ∙ rw (ne_eqb k name (λ e. omega arith)) (and_all (has set k)))

    gone : (k : ℕ) → k < name + 1 → has next k ≡ false
    gone k b =
        ⊎_elim
        (λ (e : k ≡ name). struck k (omega arith) ∙ rw (eq-eqb k name e) (and_none (has set k)))
        (λ (s : k < name). struck k (omega arith) ∙ rw (low.1.0 k s))
        (eq-or-lt_of_le {n = k} {m = name} (omega arith))

-- ---- a walk

-- tests that hold of the same are equal
pub same_test : (a b : Bool) → (a ≡ true → b ≡ true) → (b ≡ true → a ≡ true) → a ≡ b
same_test true b f g = sym (f refl)
same_test false true f g = g refl
same_test false false f g = refl

pub member_filter : (q : ℕ → Bool) (n j : ℕ) → member j (filter_below q n) ≡ (ltb j n && q j)
member_filter q n j =
    same_test (member j (filter_below q n)) (ltb j n && q j)
    (λ e.
    let (t, l) = filter_below_out q n j (true_is (member j (filter_below q n)) e) in
    rw (lt-ltb j n l, is_true (q j) t))
    (λ e. let (l, t) = both (ltb j n) (q j) e in
    is_true (member j (filter_below q n)) (filter_below_in q n j (true_is (q j) t) (ltb-true j n l)))

pub names_member : (set m : ℕ) → member m (names_of set) ≡ (ltb m name_count && has set m)
unfolding names_of
names_member set m = member_filter (has set) name_count m

pub record Walk (set : ℕ) (left : List ℕ) : Type 0 where
  pub held : (m : ℕ) → member m left ≡ true → (m < name_count) × (has set m ≡ true)

pub walk_all : (set : ℕ) → Walk set (names_of set)
walk_all set = record {
  held = λ m e.
      let (l, h) = both (ltb m name_count) (has set m) (sym (names_member set m) ∙ e) in
      (ltb-true m name_count l, h);
}

module _ (set name : ℕ) (left next : List ℕ) (w : Walk set left) (is : left ≡ name ∷ next) where
  pub walk_held : (name < name_count) × (has set name ≡ true)
  walk_held =
      w.held name (ap (member name) is ∙ ap (λ (b : Bool). b || member name next) (eq-eqb name name refl))

  pub walk_next : Walk set next
  walk_next = record { held = λ m e. w.held m (ap (member m) is ∙ or_later (eqb m name) (member m next) e) }
    where
      or_later : (a b : Bool) → b ≡ true → (a || b) ≡ true
      or_later true b e = refl
      or_later false b e = e
