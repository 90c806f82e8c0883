-- Rows get their keys from row 1 up, and the some-rows among them are counted.
--   KeyedTo    the rows before j have their keys, and their some-rows are counted
--   key_none   before row 1
--   key_room   where row j is yet to come, a byte has room for one more
--   key_next   row j
--   key_done   at the end
use Prim.Native.Nat.{◌+◌, ◌<◌, ◌≤◌, suc, zero, ℕ}
use borrow.Author.Tests.{eq-eqb, ne_eqb}
use lib.Dec.{eqb}
use lib.ListN.{get_or, length, length-set, set}
use lib.Seq.{get_or-set_other, get_or-set_same}
use mathlib.Core.Bool.{Bool, ◌&&◌, false, not}
use mathlib.Core.List.{List}
use mathlib.Core.Path.{◌∙◌, ◌≡◌, ap, refl, subst, sym}
use native.Mathlib.Omega.{arith}
use Rattle.table.proofs.Bools.{by_test}
use Rattle.table.specs.Bounds.{max_rows}
use Rattle.table.specs.Fields.{kind_of, parent_of, role_of}
use Rattle.table.specs.Layout.{kind_exists}
use Rattle.table.specs.Pick.{pick}
use Rattle.table_rows.proofs.Stores.{stored}
use Rattle.row_sets.specs.Rows.{Checked}
use Rattle.merged_count.specs.Bound.{Keyed, Tallied, below_key, key_count, some_of, total}
use Rattle.merged_count.specs.Weighing.{Blank, Filled}
use Rattle.merged_count.proofs.Totals.{total_same}

pub record KeyedTo (s : List ℕ) (rows j : ℕ) (keys somes : List ℕ) : Type 0 where
  pub some : 0 < j
  pub most : j ≤ rows
  pub keys_size : length keys ≡ max_rows
  pub somes_size : length somes ≡ key_count
  pub filled : Filled s j keys somes

pub key_none : (s : List ℕ) (rows : ℕ) (keys somes : List ℕ) → Blank s rows keys somes → KeyedTo s rows 1 keys somes
key_none s rows keys somes blank =
    record {
      some = omega arith;
      most = omega (arith, blank.checked.some);
      keys_size = blank.no_keys.size;
      somes_size = blank.no_somes.size;
      filled = record {
        keyed = record {
          key_is = λ j later l. absurd (omega (arith, later));
          key_below = λ j l. omega (arith, blank.no_keys.zeros j);
        };
        tallied = record { tally = λ k l. blank.no_somes.zeros k };
      };
    }

-- fewer rows than n pass where row 0 does not
few : (q : ℕ → Bool) (n : ℕ) → q 0 ≡ false → 0 < n → total q (λ _. 1) n < n
few q zero first some = absurd (omega arith)
few q (suc zero) first some = rw first (omega arith)
few q (suc (suc n)) first some =
    let less = few q (suc n) first (omega arith) in
    by_test (q (suc n)) (λ e. rw e (omega arith)) (λ e. rw e (omega arith))

pub key_room : (s : List ℕ) (rows j k : ℕ) (keys somes : List ℕ) → KeyedTo s rows j keys somes → k < key_count →
    get_or somes k 0 < j
key_room s rows j k keys somes to l =
    omega (arith, to.filled.tallied.tally k l, few (some_of s keys k) j refl to.some)

-- row j: its parent, the parent's key, its role, its key, and 1 if it is a some-row
module _ (s : List ℕ) (rows j above old role key new : ℕ) (keys somes : List ℕ) (checked : Checked s rows)
    (inside : j < rows) (to : KeyedTo s rows j keys somes) (above-is : above ≡ parent_of s j)
    (old-is : old ≡ get_or keys above 0) (role-is : role ≡ role_of s j) (is : key ≡ below_key old role)
    (low : key < key_count) (New-is : new ≡ pick (eqb (kind_of s j) kind_exists) 1 0) where
  abbrev more : List ℕ
  more = set keys j key

  abbrev counted : List ℕ
  counted = set somes key (get_or somes key 0 + new)

  room : j < length keys
  room = omega (arith, to.keys_size, checked.most)

  before : (i : ℕ) → i < j → get_or more i 0 ≡ get_or keys i 0
  before i l = get_or-set_other keys j i key 0 (λ same. omega arith)

  key_here : (i : ℕ) → i ≡ j → key ≡ below_key (get_or keys (parent_of s i) 0) (role_of s i)
  key_here i same = rw (is, old-is, above-is, role-is, same)

  keyed : Keyed s (j + 1) more
  keyed =
      record {
        key_is = λ i later l.
            let up = checked.parents i later (omega arith) in
            rw (before (parent_of s i) (omega arith))
            (stored (λ v. v ≡ below_key (get_or keys (parent_of s i) 0) (role_of s i)) keys j key i room (key_here i)
            (λ other. to.filled.keyed.key_is i later (omega (arith, other))));
        key_below = λ i l.
            stored (λ v. v < key_count) keys j key i room (λ same. low)
            (λ other. to.filled.keyed.key_below i (omega (arith, other)));
      }

  row_counted : (k : ℕ) → pick (some_of s more k j) 1 0 ≡ pick (eqb key k) new 0
  row_counted k =
      let later : eqb j 0 ≡ false = ne_eqb j 0 (λ z. omega (arith, to.some)) in
      rw (later, get_or-set_same keys j key 0 room, New-is)
      (by_test (eqb (kind_of s j) kind_exists) (λ e. rw e) (λ e. rw e (by_test (eqb key k) (λ f. rw f) (λ f. rw f))))

  counted_at : (k : ℕ) → get_or counted k 0 ≡ get_or somes k 0 + pick (eqb key k) new 0
  counted_at k =
      stored (λ v. v ≡ get_or somes k 0 + pick (eqb key k) new 0) somes key _ k (omega (arith, to.somes_size))
      (λ same. rw (eq-eqb key k (sym same)) (ap (λ i. get_or somes i 0 + new) (sym same)))
      (λ other. rw (ne_eqb key k (λ e. other (sym e))) (omega arith))

  tallied : Tallied s (j + 1) more counted
  tallied =
      record {
        tally = λ k l.
            let test : ℕ → ℕ → ℕ = λ i n. pick (not (eqb i 0) && (eqb (kind_of s i) kind_exists && eqb n k)) 1 0 in
            let one : ℕ → ℕ = λ _. 1 in
            let sooner = total_same (some_of s more k) (some_of s keys k) one one j (λ i b. ap (test i) (before i b)) in
            let next : j + 1 ≡ suc j = omega arith in
            omega (
              arith,
              counted_at k,
              to.filled.tallied.tally k l,
              sooner,
              row_counted k,
              ap (total (some_of s more k) one) next,
            );
      }

  pub key_next : KeyedTo s rows (j + 1) more counted
  key_next =
      record {
        some = omega arith;
        most = omega arith;
        keys_size = length-set keys j key ∙ to.keys_size;
        somes_size = length-set somes key _ ∙ to.somes_size;
        filled = record { keyed = keyed; tallied = tallied };
      }

pub key_done : (s : List ℕ) (rows j : ℕ) (keys somes : List ℕ) → rows ≤ j → KeyedTo s rows j keys somes →
    Filled s rows keys somes
key_done s rows j keys somes last to =
    let most = to.most in
    let end : j ≡ rows = omega arith in subst (λ n. Filled s n keys somes) end to.filled
