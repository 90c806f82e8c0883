-- Laws of the walk over the rows of a set that collects the values of those that pass a test.
--   skip          the rows of a set before one row are those before a later one, if it has none between
--   more          and with row j of the set those before the next
--   FoundTo, found_none, found_row, found_done   a row that passes, of those before one
--   Gathered      those of the rows before one have been collected
--   gather_none   before the first
--   gather_yes    row j is the next that passes
--   gather_done   no row that is left passes: all have been
use Prim.Native.Nat.{◌+◌, ◌<◌, ◌≤◌, ℕ}
use borrow.Author.Tests.{eqb-false, eqb-true, le-ltb, lt-ltb, ltb-false, ltb-true}
use lib.Dec.{eqb, ltb}
use mathlib.Core.Bool.{Bool, ◌&&◌, ◌||◌, false, true}
use mathlib.Core.List.{List}
use mathlib.Core.Path.{◌∙◌, ◌≡◌, ap}
use native.Mathlib.Omega.{arith}
use Rattle.row_sets.specs.declared.values.Values.{Values}
use Rattle.row_sets.specs.Labels.{Added, Valued}
use Rattle.row_sets.specs.Rows.{Checked, Found, also}
use Rattle.row_sets.proofs.LabelLaws.{valued_same, valued_with}
use Rattle.table.proofs.Bools.{by_test}

-- the test of the rows before j, and before n where none between passes
pub skip : (p : ℕ → Bool) (j n k : ℕ) → j ≤ n → (j ≤ k → k < n → p k ≡ false) → (ltb k j && p k) ≡ (ltb k n && p k)
skip p j n k l fails =
    by_test (ltb k j) (λ e. let m = ltb-true k j e in rw (e, lt-ltb k n (omega arith)))
    (λ e. let m = ltb-false k j e in
    by_test (ltb k n) (λ f. rw (e, f, fails m (ltb-true k n f))) (λ f. rw (e, f)))

-- with row j, which passes
pub more : (p : ℕ → Bool) (j k : ℕ) → p j ≡ true → (eqb k j || (ltb k j && p k)) ≡ (ltb k (j + 1) && p k)
more p j k yea =
    by_test (eqb k j)
    (λ e. let same = eqb-true k j e in rw (e, lt-ltb k (j + 1) (omega arith), ap p same ∙ yea))
    (λ e. let other = eqb-false k j e in rw e (skip p j (j + 1) k (omega arith) (λ a b. absurd (omega (arith, other)))))

-- one of the rows before `from` that pass, or the number of rows if none does
pub record FoundTo (p : ℕ → Bool) (rows from first : ℕ) : Type 0 where
  pub found : first < rows → p first ≡ true
  pub none : rows ≤ first → (k : ℕ) → k < rows → k < from → p k ≡ false

pub found_none : (p : ℕ → Bool) (rows first : ℕ) → first ≡ rows → FoundTo p rows 0 first
found_none p rows first e = record { found = λ l. absurd (omega arith); none = λ _ k l b. absurd (omega arith) }

pub found_row : (p : ℕ → Bool) (rows from j first : ℕ) → first ≡ j → j < rows → p j ≡ true → FoundTo p rows from first
found_row p rows from j first e l yea =
    record { found = λ _. ap p e ∙ yea; none = λ out. absurd (omega arith) }

pub found_done : (p : ℕ → Bool) (rows from first : ℕ) → ((k : ℕ) → from ≤ k → k < rows → k < rows → p k ≡ false) → FoundTo p rows from first → Found p rows first
found_done p rows from first fails f =
    record {
      found = f.found;
      none = λ out k b. by_test (ltb k from) (λ e. f.none out k b (ltb-true k from e)) (λ e. fails k (ltb-false k from e) b b);
    }

pub record Gathered (s : List ℕ) (rows : ℕ) (p : ℕ → Bool) (from : ℕ) (values : Values) : Type 0 where
  pub valued : Valued s rows (λ k. ltb k from && p k) values
  pub first : FoundTo p rows from values.first

module _ (s : List ℕ) (rows : ℕ) (p : ℕ → Bool) (checked : Checked s rows) where
  pub gather_none : (v : Values) → v.first ≡ rows → Valued s rows (λ k. false) v → Gathered s rows p 0 v
  gather_none v first valued =
      record {
        valued = valued_same s rows (λ k. false) (λ k. ltb k 0 && p k) v checked (λ k l. rw (le-ltb k 0 (omega arith))) valued;
        first = found_none p rows v.first first;
      }

  module _ (from : ℕ) (v : Values) (g : Gathered s rows p from v) where
    pub gather_yes : (j : ℕ) (r : Values) → from ≤ j → ((k : ℕ) → from ≤ k → k < j → k < rows → p k ≡ false) → j < rows → p j ≡ true →
        Added s rows j v r → Gathered s rows p (j + 1) r
    gather_yes j r onward fails l yea added =
        record {
          valued = valued_same s rows (also j (λ k. ltb k from && p k)) (λ k. ltb k (j + 1) && p k) r checked
              (λ k b. ap (λ (t : Bool). eqb k j || t) (skip p from j k onward (λ x y. fails k x y b)) ∙ more p j k yea)
              (valued_with s rows (λ k. ltb k from && p k) v j r l g.valued added);
          first = found_row p rows (j + 1) j r.first added.first_is l yea;
        }

    pub gather_done : from ≤ rows → ((k : ℕ) → from ≤ k → k < rows → k < rows → p k ≡ false) → (Found p rows v.first) × (Valued s rows p v)
    gather_done onward fails = (
      found_done p rows from v.first fails g.first,
      valued_same s rows (λ k. ltb k from && p k) p v checked
          (λ k b. skip p from rows k onward (λ x y. fails k x y b) ∙ rw (lt-ltb k rows b)) g.valued,
    )
