-- Links give exactly the rows that hang from a row, in row order. A walk along them is at a row j, or at 0, where it ends.
--   child_of                  row j hangs from row c, as `successorOf` of a table with these parents
--   ahead                    the rows from row j on that hang from row c; none where the walk is at its end
--   follow                   the rows along the links from row j on, of which there are at most so many
--   OnChain                  a walk along the rows that hang from row c may be at j
--   chain_first, chain_next  what the walk has ahead: at first all rows that hang from c, then the row it is at and what is ahead of the next
--   chain_on_first, chain_on_next, chain_rises   it stays on the chain, and goes on to greater rows
--   children_linked          so the links are followed to the rows that hang from c
use Prim.Native.Nat.{◌+◌, ◌-◌, ◌<◌, ◌≤◌, suc, zero, ℕ}
use borrow.Author.Tests.{eq-eqb, eqb-false, eqb-true, ne_eqb}
use lib.Dec.{eqb, eqb→eq}
use lib.ListN.{get_or}
use mathlib.Core.Bool.{Bool, ◌&&◌, not}
use mathlib.Core.List.{List, [], ◌++◌, ◌∷◌}
use mathlib.Core.Path.{◌∙◌, ◌≡◌, ap, subst, sym}
use native.Mathlib.Omega.{arith}
use Rattle.ale.specs.Rows.{filter_below, filter_from}
use Rattle.table.specs.Pick.{pick}
use Rattle.table_rows.specs.Links.{Linked, Nearest}
use Rattle.ale.proofs.RowLists.{filter_from_none, filter_from_split}
use Rattle.ale.proofs.TableLaws.{not_zero}
use Rattle.ale.proofs.Tests.{and_left, and_right, refute}
use Rattle.table.proofs.Bools.{by_test}

abbrev pub child_of : (ℕ → ℕ) → ℕ → ℕ → Bool
child_of parent c j = not (eqb j 0) && eqb (parent j) c

abbrev pub ahead : (ℕ → ℕ) → ℕ → ℕ → ℕ → List ℕ
ahead parent rows c j = pick (eqb j 0) [] (filter_from (child_of parent c) j (rows - j))

abbrev pub follow : List ℕ → ℕ → ℕ → ℕ → List ℕ
follow links width zero j = []
follow links width (suc n) j = pick (eqb j 0) [] (j ∷ follow links width n (get_or links (width + j) 0))

abbrev pub OnChain : (ℕ → ℕ) → ℕ → ℕ → ℕ → Type 0
OnChain parent rows c j = (j ≡ 0 → ⊥) → (j < rows) × (parent j ≡ c)

module _ (parent : ℕ → ℕ) (rows c : ℕ) where
  -- between a row and the nearest none hangs from c
  gap_none : (from r n : ℕ) → Nearest parent rows c from r → ((k : ℕ) → from ≤ k → k < from + n → (k < rows) × ((r ≡ 0 → ⊥) → k < r)) →
      filter_from (child_of parent c) from n ≡ []
  gap_none from r n near short =
      filter_from_none (child_of parent c) from n (λ k a b. refute (child_of parent c k) (λ t.
      let z = not_zero k (and_left (not (eqb k 0)) (eqb (parent k) c) t) in
      let e = eqb→eq (parent k) c (and_right (not (eqb k 0)) (eqb (parent k) c) t) in
      let (l, m) = short k a b in
      let (u, o) = near.first k z a l e in
      let s = m u in
      omega arith))

  nearest_ahead : (from r : ℕ) → Nearest parent rows c from r → filter_from (child_of parent c) from (rows - from) ≡ ahead parent rows c r
  nearest_ahead from r near =
      by_test (eqb r 0)
      (λ e. rw e (gap_none from r (rows - from) near (λ k a b. (omega arith, λ u. absurd (u (eqb-true r 0 e))))))
      (λ e.
      let u = eqb-false r 0 e in
      let (a, l, h) = near.hung u in
      rw e (filter_from_split (child_of parent c) from (r - from) (rows - r) (rows - from) r (omega arith) (omega arith)
      ∙ ap (λ (s : List ℕ). s ++ filter_from (child_of parent c) r (rows - r)) (gap_none from r (r - from) near (λ k d b. (omega arith, λ _. omega arith)))))

  module _ (width : ℕ) (links : List ℕ) (linked : Linked parent rows width links) where
    pub chain_first : c < rows → filter_below (child_of parent c) rows ≡ ahead parent rows c (get_or links c 0)
    chain_first l =
        let e : rows ≡ suc (rows - 1) = omega arith in
        ap (λ n. filter_below (child_of parent c) n) e ∙ nearest_ahead 1 (get_or links c 0) (linked.lowest c l)

    pub chain_on_first : c < rows → OnChain parent rows c (get_or links c 0)
    chain_on_first l u = let (a, b, e) = (linked.lowest c l).hung u in (b, e)

    module _ (j : ℕ) (z : j ≡ 0 → ⊥) (on : OnChain parent rows c j) where
      nearest_next : Nearest parent rows c (j + 1) (get_or links (width + j) 0)
      nearest_next = subst (λ n. Nearest parent rows n (j + 1) (get_or links (width + j) 0)) (on z).1 (linked.later j z (on z).0)

      pub chain_next : ahead parent rows c j ≡ j ∷ ahead parent rows c (get_or links (width + j) 0)
      chain_next =
          let l = (on z).0 in
          let left : rows - j ≡ suc (rows - suc j) = omega arith in
          let step : suc j ≡ j + 1 = omega arith in
          rw (ne_eqb j 0 z, left, ne_eqb j 0 z, eq-eqb (parent j) c (on z).1)
          (ap (λ (s : List ℕ). j ∷ s) (ap (λ n. filter_from (child_of parent c) n (rows - n)) step ∙ nearest_ahead (j + 1) (get_or links (width + j) 0) nearest_next))

      pub chain_on_next : OnChain parent rows c (get_or links (width + j) 0)
      chain_on_next u = let (a, b, e) = nearest_next.hung u in (b, e)

      pub chain_rises : (get_or links (width + j) 0 ≡ 0 → ⊥) → j < get_or links (width + j) 0
      chain_rises u = let r = (nearest_next.hung u).0 in omega arith

    follow_ahead : (n j : ℕ) → OnChain parent rows c j → ((j ≡ 0 → ⊥) → rows ≤ n + j) → follow links width n j ≡ ahead parent rows c j
    follow_ahead zero j on enough =
        by_test (eqb j 0) (λ e. rw e) (λ e. let u = eqb-false j 0 e in let l = (on u).0 in let m = enough u in absurd (omega arith))
    follow_ahead (suc n) j on enough =
        by_test (eqb j 0) (λ e. rw e) (λ e.
        let u = eqb-false j 0 e in
        let k = get_or links (width + j) 0 in
        let m = enough u in
        sym (chain_next j u on
        ∙ rw e (ap (λ (s : List ℕ). j ∷ s) (sym (follow_ahead n k (chain_on_next j u on) (λ v. let r = chain_rises j u on v in omega arith))))))

    pub children_linked : c < rows → follow links width rows (get_or links c 0) ≡ filter_below (child_of parent c) rows
    children_linked l = follow_ahead rows (get_or links c 0) (chain_on_first l) (λ u. omega arith) ∙ sym (chain_first l)
