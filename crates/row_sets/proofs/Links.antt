-- Laws of what hangs from each row, along its links.
--   successor_hangs, hangs_successor                a row that hangs from row c
--   Walked, walk_none, walk_next, walk_done         a walk along the rows that hang from row c, each added to a set
use Prim.Native.Nat.{◌+◌, ◌<◌, ◌≤◌, ℕ}
use borrow.Author.Tests.{eq-eqb, eqb-false, eqb-true, le-ltb, lt-ltb, ltb-false, ltb-true, ne_eqb, not-true}
use lib.Dec.{eqb, ltb}
use mathlib.Core.Bool.{Bool, ◌&&◌, ◌||◌, false, not, true}
use mathlib.Core.List.{List}
use lib.ListN.{get_or}
use mathlib.Core.Path.{◌∙◌, ◌≡◌, ap, refl, subst, sym}
use native.Mathlib.Omega.{arith}
use Rattle.table.proofs.Bools.{both, by_test}
use Rattle.table.specs.Bounds.{max_rows}
use Rattle.table.specs.Fields.{parent_of, role_of}
use Rattle.table_rows.specs.Links.{Linked, Nearest}
use Rattle.table.specs.NameSet.{has}
use Rattle.row_sets.specs.declared.rows.Successors.{Successors}
use Rattle.row_sets.specs.Rows.{Hung, hangs, holds}

pub successor_hangs : (s : List ℕ) (c k : ℕ) → (k ≡ 0 → ⊥) → parent_of s k ≡ c → hangs s (λ i. eqb i c) k ≡ true
unfolding hangs
successor_hangs s c k z e = rw (ne_eqb k 0 z, eq-eqb (parent_of s k) c e)

pub hangs_successor : (s : List ℕ) (c k : ℕ) → hangs s (λ i. eqb i c) k ≡ true → (k ≡ 0 → ⊥) × (parent_of s k ≡ c)
unfolding hangs
hangs_successor s c k h =
    let (a, b) = both (not (eqb k 0)) (eqb (parent_of s k) c) h in (eqb-false k 0 (not-true (eqb k 0) a), eqb-true (parent_of s k) c b)

pub record Walked (s : List ℕ) (rows c j : ℕ) (old successors : Successors) : Type 0 where
  pub low : ℕ
  pub next : Nearest (parent_of s) rows c low j
  pub set_is : (k : ℕ) → k < rows → holds successors.set k ≡ ((hangs s (λ i. eqb i c) k && ltb k low) || holds old.set k)
  pub roles_kept : (i : ℕ) → has old.roles i ≡ true → has successors.roles i ≡ true
  pub roles_met : (k : ℕ) → k < rows → k < low → hangs s (λ i. eqb i c) k ≡ true → has successors.roles (role_of s k) ≡ true

and_none : (a : Bool) → (a && false) ≡ false
and_none true = refl
and_none false = refl

and_all : (a : Bool) → (a && true) ≡ a
and_all true = refl
and_all false = refl

or_true : (a b : Bool) → b ≡ true → (a || b) ≡ true
or_true true b e = refl
or_true false b e = e

module _ (s : List ℕ) (rows c : ℕ) (old : Successors) where
  abbrev follows : ℕ → Bool
  follows k = hangs s (λ i. eqb i c) k

  pub walk_none : (links : List ℕ) (j : ℕ) → Linked (parent_of s) rows max_rows links → c < rows → j ≡ get_or links c 0 → Walked s rows c j old old
  walk_none links j linked l first =
      record {
        low = 1;
        next = subst (λ n. Nearest (parent_of s) rows c 1 n) (sym first) (linked.lowest c l);
        set_is = λ k l. sym (ap (λ (b : Bool). b || holds old.set k) (none k));
        roles_kept = λ i h. h;
        roles_met = λ k l b h. absurd ((hangs_successor s c k h).0 (omega arith));
      }
    where
      none : (k : ℕ) → (follows k && ltb k 1) ≡ false
      none k =
          by_test (follows k) (λ h. let z = (hangs_successor s c k h).0 in rw h (le-ltb k 1 (omega (arith, z)))) (λ h. rw h)

  module _ (j : ℕ) (successors : Successors) (w : Walked s rows c j old successors) where
    pub walk_next : (links : List ℕ) (r : Successors) (n : ℕ) → (j ≡ 0 → ⊥) → Linked (parent_of s) rows max_rows links → n ≡ get_or links (max_rows + j) 0 → rows ≤ max_rows → ((k : ℕ) → k < max_rows → holds r.set k ≡ (eqb k j || holds successors.set k)) → ((i : ℕ) → has r.roles i ≡ (eqb i (role_of s j) || has successors.roles i)) → Walked s rows c n old r
    walk_next links r n z linked next most sets roles =
        record {
          low = j + 1;
          next = on;
          set_is = λ k l. sets k (omega arith) ∙ ap (λ (b : Bool). eqb k j || b) (w.set_is k l) ∙ joins k l;
          roles_kept = λ i h. roles i ∙ or_true (eqb i (role_of s j)) (has successors.roles i) (w.roles_kept i h);
          roles_met = λ k l b h.
              roles (role_of s k)
              ∙ by_test (ltb k w.low)
              (λ e. or_true (eqb (role_of s k) (role_of s j)) (has successors.roles (role_of s k)) (w.roles_met k l (ltb-true k w.low e) h))
              (λ e. let (y, p) = hangs_successor s c k h in
              let m = (w.next.first k y (ltb-false k w.low e) l p).1 in
              let same : k ≡ j = omega arith in
              rw (eq-eqb (role_of s k) (role_of s j) (ap (role_of s) same)));
        }
      where
        hung : (w.low ≤ j) × (j < rows) × (parent_of s j ≡ c)
        hung = w.next.hung z

        on : Nearest (parent_of s) rows c (j + 1) n
        on =
            subst (λ m. Nearest (parent_of s) rows c (j + 1) m) (sym next)
            (subst (λ m. Nearest (parent_of s) rows m (j + 1) (get_or links (max_rows + j) 0)) hung.2 (linked.later j z hung.1))

        joins : (k : ℕ) → k < rows → (eqb k j || ((follows k && ltb k w.low) || holds old.set k)) ≡ ((follows k && ltb k (j + 1)) || holds old.set k)
        joins k l =
            by_test (eqb k j)
            (λ e. let same = eqb-true k j e in
            let h : follows k ≡ true = successor_hangs s c k (λ y. z (sym same ∙ y)) (ap (parent_of s) same ∙ hung.2) in
            rw (e, h, lt-ltb k (j + 1) (omega arith)))
            (λ e. let u = eqb-false k j e in
            by_test (follows k)
            (λ h. let (y, p) = hangs_successor s c k h in
            by_test (ltb k w.low)
            (λ b. let m = ltb-true k w.low b in let o = hung.0 in rw (e, h, b, lt-ltb k (j + 1) (omega arith)))
            (λ b. let m = (w.next.first k y (ltb-false k w.low b) l p).1 in rw (e, h, b, le-ltb k (j + 1) (omega (arith, u)))))
            (λ h. rw (e, h)))

    pub walk_done : j ≡ 0 → Hung s rows c old successors
    walk_done z =
        record {
          set_is = λ k l. w.set_is k l ∙ ap (λ (b : Bool). b || holds old.set k) (whole k l);
          roles_kept = w.roles_kept;
          roles_met = λ k l h. w.roles_met k l (all k l h) h;
        }
      where
        all : (k : ℕ) → k < rows → follows k ≡ true → k < w.low
        all k l h =
            let (y, p) = hangs_successor s c k h in
            by_test (ltb k w.low) (λ e. ltb-true k w.low e) (λ e. absurd ((w.next.first k y (ltb-false k w.low e) l p).0 z))

        whole : (k : ℕ) → k < rows → (follows k && ltb k w.low) ≡ follows k
        whole k l = by_test (follows k) (λ h. rw h (lt-ltb k w.low (all k l h))) (λ h. rw h)
