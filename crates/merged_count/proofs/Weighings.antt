-- What hangs below each row is summed up from the last row back.
--   WeighedFrom   what the rows from j on add to it
--   weigh_none    before the last row
--   weigh_next    row k
--   weigh_done    at the end
--   Low           each of the sums fits a byte
--   low_none, low_next   before the last row, and after a sum that fits one
--   times_is      how often what hangs below a row is counted, without a branch
--   small         a byte that often is no large number
use Prim.Native.Nat.{◌*◌, ◌+◌, ◌-◌, ◌<◌, ◌≤◌, suc, zero, ℕ}
use borrow.Author.Tests.{eq-eqb, eqb-false, eqb-true, le-leb, leb-false, leb-true, lt-leb, ne_eqb}
use lib.Dec.{eqb, leb}
use lib.ListN.{get_or, length, length-set, set}
use lib.Seq.{get_or-set_other}
use mathlib.Core.Bool.{Bool, ◌&&◌, false, true}
use mathlib.Core.List.{List}
use mathlib.Core.Path.{◌∙◌, ◌≡◌, ap, refl, subst, sym}
use native.Mathlib.Nat.{mul-le-mul}
use native.Mathlib.Omega.{arith}
use Rattle.table.proofs.Bools.{by_test}
use Rattle.table.specs.Bounds.{max_rows}
use Rattle.table.specs.Fields.{parent_of}
use Rattle.table.specs.Pick.{pick}
use Rattle.table_rows.proofs.Stores.{stored}
use Rattle.table_rows.specs.Links.{Zeros}
use Rattle.row_sets.specs.Rows.{Checked, hangs}
use Rattle.merged_count.specs.Bound.{Weighed, share_of, times_of, total}
use Rattle.merged_count.proofs.Totals.{total_none, total_same}

-- the rows from k on that pass a test
abbrev from : ℕ → (ℕ → Bool) → ℕ → Bool
from k q c = leb k c && q c

from_none : (q : ℕ → Bool) (f : ℕ → ℕ) (k n : ℕ) → n ≤ k → total (from k q) f n ≡ 0
from_none q f k n l = total_none (from k q) f n (λ c b. rw (lt-leb k c (omega arith)))

from_next : (q : ℕ → Bool) (f : ℕ → ℕ) (k n : ℕ) → k < n →
    total (from k q) f n ≡ total (from (suc k) q) f n + pick (q k) (f k) 0
from_next q f k zero l = absurd (omega arith)
from_next q f k (suc n) l =
    by_test (eqb n k)
    (λ e. let same = eqb-true n k e in
    let this = from_none q f k n (omega arith) in
    let next = from_none q f (suc k) n (omega arith) in
    rw (le-leb k n (omega arith), lt-leb (suc k) n (omega arith), this, next, same))
    (λ e. let other = eqb-false n k e in
    let less = from_next q f k n (omega (arith, other)) in
    rw (le-leb k n (omega arith), le-leb (suc k) n (omega (arith, other))) (omega arith))

pub record WeighedFrom (s : List ℕ) (rows : ℕ) (keys somes : List ℕ) (j : ℕ) (below : List ℕ) : Type 0 where
  pub most : j ≤ rows
  pub size : length below ≡ max_rows
  pub weight : (i : ℕ) → i < rows →
      get_or below i 0 ≡ total (from j (hangs s (λ c. eqb c i))) (share_of s keys somes below) rows

pub weigh_none : (s : List ℕ) (rows : ℕ) (keys somes below : List ℕ) → Zeros max_rows below →
    WeighedFrom s rows keys somes rows below
weigh_none s rows keys somes below empty =
    record {
      most = omega arith;
      size = empty.size;
      weight = λ i l. empty.zeros i ∙ sym (from_none _ _ rows rows (omega arith));
    }

-- row k: its parent, what hangs below it, how often that is counted, and what hangs below the parent so far
module _ (s : List ℕ) (rows : ℕ) (keys somes : List ℕ) (k j above weight often old : ℕ) (below : List ℕ)
    (checked : Checked s rows) (under : j ≡ suc k) (later : k ≡ 0 → ⊥) (is : above ≡ parent_of s k) (before : above < k)
    (weight_is : weight ≡ get_or below k 0) (often-is : often ≡ times_of s keys somes k)
    (old-is : old ≡ get_or below above 0) (from-j : WeighedFrom s rows keys somes j below) where
  abbrev sum : ℕ
  sum = old + (1 + weight * often)

  abbrev more : List ℕ
  more = set below above sum

  abbrev share : ℕ → ℕ
  share = share_of s keys somes below

  -- what hangs below the rows from k on is summed up already
  share_same : (c : ℕ) → k ≤ c → share_of s keys somes more c ≡ share c
  share_same c l = ap (λ n. 1 + n * times_of s keys somes c) (get_or-set_other below above c sum 0 (λ same. omega arith))

  sum_is : sum ≡ get_or below above 0 + share k
  sum_is = rw (weight_is, often-is, old-is)

  module _ (i : ℕ) where
    abbrev hung : ℕ → Bool
    hung = hangs s (λ c. eqb c i)

    hung_k : hung k ≡ eqb above i
    unfolding hangs
    hung_k = rw (ne_eqb k 0 later, is)

    weight_more : get_or more i 0 ≡ get_or below i 0 + pick (hung k) (share k) 0
    weight_more =
        let few = checked.most in
        let most = from-j.most in
        let size = from-j.size in
        rw hung_k
        (stored (λ v. v ≡ get_or below i 0 + pick (eqb above i) (share k) 0) below above sum i (omega arith)
        (λ same. rw (eq-eqb above i (sym same), same) sum_is)
        (λ other. rw (ne_eqb above i (λ e. other (sym e))) (omega arith)))

    total_more : i < rows → get_or more i 0 ≡ total (from k hung) (share_of s keys somes more) rows
    total_more l =
        let most = from-j.most in
        let so_far = subst (λ n. get_or below i 0 ≡ total (from n hung) share rows) under (from-j.weight i l) in
        let same = total_same (from k hung) (from k hung) (share_of s keys somes more) share rows
        (λ c b. by_test (leb k c) (λ e. rw (share_same c (leb-true k c e))) (λ e. rw e)) in
        omega (arith, weight_more, so_far, same, from_next hung share k rows (omega arith))

  pub weigh_next : WeighedFrom s rows keys somes k more
  weigh_next =
      let most = from-j.most in
      record {
        most = omega arith;
        size = length-set below above sum ∙ from-j.size;
        weight = total_more;
      }

abbrev pub Low : List ℕ → Type 0
Low below = (i : ℕ) → get_or below i 0 < 256

pub low_none : (below : List ℕ) → Zeros max_rows below → Low below
low_none below empty = λ i. omega (arith, empty.zeros i)

pub low_next : (below : List ℕ) (above sum : ℕ) → above < length below → sum < 256 → Low below → Low (set below above sum)
low_next below above sum inside fits low = λ i. stored (λ v. v < 256) below above sum i inside (λ same. fits) (λ other. low i)

root_hangs : (s : List ℕ) (q : ℕ → Bool) → hangs s q 0 ≡ false
unfolding hangs
root_hangs s q = refl

pub weigh_done : (s : List ℕ) (rows : ℕ) (keys somes : List ℕ) (j : ℕ) (below : List ℕ) → j ≤ 1 →
    WeighedFrom s rows keys somes j below → Weighed s rows keys somes below
weigh_done s rows keys somes j below end from-j =
    record {
      weight = λ i l.
          from-j.weight i l
          ∙ total_same _ _ (share_of s keys somes below) (share_of s keys somes below) rows
          (λ c b. ap (λ (t : Bool). pick t (share_of s keys somes below c) 0) (all (λ x. eqb x i) c));
    }
  where
    all : (q : ℕ → Bool) (c : ℕ) → from j (hangs s q) c ≡ hangs s q c
    all q c =
        by_test (leb j c) (λ e. rw e)
        (λ e. let less = leb-false j c e in
        let first : c ≡ 0 = omega arith in rw e (sym (ap (hangs s q) first ∙ root_hangs s q)))

pub times_is : (b : Bool) (some n : ℕ) → some ≡ pick b 1 0 → 1 + (1 - some) * n ≡ pick b 1 (1 + n)
times_is true some n e = rw e (omega arith)
times_is false some n e = rw e (omega arith)

pub small : (a b : ℕ) → a < 256 → b ≤ 256 → a * b ≤ 65280
small a b l m = mul-le-mul {n₂ = 255} {m₂ = 256} (omega arith) m
