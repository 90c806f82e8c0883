-- The search along links: the first row of a chain that passes a test. Both loops of the search are such walks, over the rows of either table.
--   first_of                                  the first number of a list that passes, or `none`
--   first_filtered                           the first of a range that passes two tests: of those that pass one, the first that passes the other
--   first_failing_is                            the first that fails a test passes its opposite
--   chain_less                               a walk along a chain rises, so it ends
--   successors_ahead                         at first it has all rows that hang from a row of a table ahead
--   WalkAt                                   a walk that is at row j: what is found is the first of the rows that are still ahead
--   walk_start, walk_next, walk_less         before the loop, and one turn more, which brings its end nearer
--   walk_found, walk_end                     where it stops
use Prim.Native.Nat.{◌+◌, ◌-◌, ◌<◌, suc, zero, ℕ}
use borrow.Author.Tests.{eq-eqb}
use lib.Dec.{eqb}
use lib.ListN.{get_or}
use mathlib.Core.Bool.{Bool, ◌&&◌, false, not, true}
use mathlib.Core.List.{List, [], ◌∷◌}
use mathlib.Core.Path.{◌∙◌, ◌≡◌, ap, refl, sym}
use native.Mathlib.Omega.{arith}
use Rattle.table.proofs.Bools.{by_test}
use Rattle.table_rows.proofs.Links as rising
use Rattle.table.specs.Bounds.{max_rows}
use Rattle.table.specs.Fields.{parent_of}
use Rattle.table_rows.specs.Links.{Linked}
use Rattle.table.specs.Pick.{pick}
use Rattle.row_sets.proofs.LinkLists.{OnChain, ahead, chain_first, chain_next, chain_on_first, chain_on_next, chain_rises, child_of}
use Rattle.ale.specs.PictureSignature.{picture_signature}
use Rattle.ale.specs.Rows.{filter_below, filter_from, first_from}
use Rattle.ale.specs.Table.{ParentsFirst, successor_rows}
use Rattle.meaning.specs.Meaning.{picture_table}
use Rattle.homomorphism_search.specs.Search.{first_failing}
use Rattle.row_sets.specs.Rows.{Checked, LinkedTable}

abbrev pub first_of : (ℕ → Bool) → List ℕ → ℕ → ℕ
first_of q [] none = none
first_of q (v ∷ s) none = pick (q v) v (first_of q s none)

pub first_filtered : (p q r : ℕ → Bool) → ((v : ℕ) → r v ≡ (p v && q v)) → (o n end : ℕ) → end ≡ o + n →
    first_from r o n ≡ first_of q (filter_from p o n) end
first_filtered p q r same o zero end stop = omega arith
first_filtered p q r same o (suc n) end stop =
    let later = first_filtered p q r same (suc o) n end (omega arith) in
    rw (same o) (by_test (p o) (λ e. rw e (ap (λ z. pick (q o) o z) later)) (λ e. rw e later))

pub first_failing_is : (f q : ℕ → Bool) → ((v : ℕ) → f v ≡ not (q v)) → (s : List ℕ) → first_failing f s ≡ first_of q s 0
first_failing_is f q opposite [] = refl
first_failing_is f q opposite (v ∷ s) =
    rw (opposite v) (by_test (q v) (λ e. rw e) (λ e. rw e (first_failing_is f q opposite s)))

-- at first a walk has all rows that hang from row u ahead
pub successors_ahead : (s links : List ℕ) (rows u : ℕ) → LinkedTable s rows links → u < rows →
    successor_rows picture_signature (picture_table s) u ≡ ahead (parent_of s) rows u (get_or links u 0)
successors_ahead s links rows u table l =
    ap (λ m. filter_below (child_of (parent_of s) u) m) (sym table.checked.counted) ∙ chain_first (parent_of s) rows u max_rows links table.linked l

-- a walk along a chain rises, so it ends
pub chain_less : (parent : ℕ → ℕ) (rows c width : ℕ) (links : List ℕ) → Linked parent rows width links → (j : ℕ) → (j ≡ 0 → ⊥) →
    OnChain parent rows c j → (k : ℕ) → k ≡ get_or links (width + j) 0 →
    pick (eqb k 0) 0 (rows + 1 - k) < pick (eqb j 0) 0 (rows + 1 - j)
chain_less parent rows c width links linked j z on k e =
    rw e (rising.walk_less rows j (get_or links (width + j) 0) z (on z).0 (λ u. let r = chain_rises parent rows c width links linked j z on u in omega arith))

pub record WalkAt (parent : ℕ → ℕ) (rows i : ℕ) (q : ℕ → Bool) (none found j : ℕ) : Type 0 where
  pub on : OnChain parent rows i j
  pub rest : found ≡ first_of q (ahead parent rows i j) none

module _ {parent : ℕ → ℕ} {rows i width : ℕ} {links : List ℕ} (linked : Linked parent rows width links) {q : ℕ → Bool} {none found : ℕ} where
  pub walk_start : (j : ℕ) → i < rows → found ≡ first_of q (filter_below (child_of parent i) rows) none → j ≡ get_or links i 0 →
      WalkAt parent rows i q none found j
  walk_start j l all first =
      rw first
      (record {
        on = chain_on_first parent rows i width links linked l;
        rest = all ∙ ap (λ (s : List ℕ). first_of q s none) (chain_first parent rows i width links linked l);
      })

  module _ {j : ℕ} (z : j ≡ 0 → ⊥) (at : WalkAt parent rows i q none found j) where
    walk_turn : found ≡ pick (q j) j (first_of q (ahead parent rows i (get_or links (width + j) 0)) none)
    walk_turn = at.rest ∙ ap (λ (s : List ℕ). first_of q s none) (chain_next parent rows i width links linked j z at.on)

    pub walk_next : (k : ℕ) → k ≡ get_or links (width + j) 0 → q j ≡ false → WalkAt parent rows i q none found k
    walk_next k next fails =
        rw next
        (record { on = chain_on_next parent rows i width links linked j z at.on; rest = walk_turn ∙ rw fails })

    pub walk_less : (k : ℕ) → k ≡ get_or links (width + j) 0 → pick (eqb k 0) 0 (rows + 1 - k) < pick (eqb j 0) 0 (rows + 1 - j)
    walk_less k next = chain_less parent rows i width links linked j z at.on k next

    pub walk_found : q j ≡ true → found ≡ j
    walk_found passes = walk_turn ∙ rw passes

pub walk_end : {parent : ℕ → ℕ} {rows i : ℕ} {q : ℕ → Bool} {none found j : ℕ} → WalkAt parent rows i q none found j → j ≡ 0 → found ≡ none
walk_end {j = j} at z = at.rest ∙ rw (eq-eqb j 0 z)

-- in a checked table every parent stands before its row
pub checked_parents : {t : List ℕ} {rows : ℕ} → Checked t rows → ParentsFirst picture_signature (picture_table t)
checked_parents checked y l later = checked.parents y later (rw checked.counted l)
