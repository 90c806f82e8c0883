-- An upper bound on the merged rows, by sums over the file rows. Nobody has to believe these.
--   total      the sum of f over the rows below n that pass a test
--   key_count   as many keys as there are
--   below_key   the key of a row, by that of its parent and its role
--   Keyed      each row after the first has its key; the first has any
--   some_of     the some-rows of one key
--   Tallied    for each key their number
--   times_of    how often what hangs below a row may stand in the merged table: once below a some-row; below an all-row
--              once, and once more beside each some-row of its key
--   share_of    what a row adds to what hangs below its parent, by what hangs below it
--   Weighed    what hangs below each row at most
use Rattle.std.specs.Prelude.{◌%◌, ◌*◌, ◌+◌, ◌<◌, suc, zero, ℕ, eqb, get_or, Bool, ◌&&◌, not, List, ◌≡◌}
use Rattle.table.specs.Fields.{kind_of, parent_of, role_of}
use Rattle.table.specs.Layout.{kind_exists}
use Rattle.table.specs.Pick.{pick}
use Rattle.row_sets.specs.Rows.{hangs}

abbrev pub total : (ℕ → Bool) → (ℕ → ℕ) → ℕ → ℕ
total q f zero = 0
total q f (suc n) = total q f n + pick (q n) (f n) 0

abbrev pub key_count : ℕ
key_count = 1024

unfoldable pub below_key : ℕ → ℕ → ℕ
below_key key role = (9 * key + role + 1) % key_count

pub record Keyed (s : List ℕ) (rows : ℕ) (keys : List ℕ) : Type 0 where
  pub key_is : (j : ℕ) → (j ≡ 0 → ⊥) → j < rows → get_or keys j 0 ≡ below_key (get_or keys (parent_of s j) 0) (role_of s j)
  pub key_below : (j : ℕ) → j < rows → get_or keys j 0 < key_count

abbrev pub some_of : List ℕ → List ℕ → ℕ → ℕ → Bool
some_of s keys k j = not (eqb j 0) && (eqb (kind_of s j) kind_exists && eqb (get_or keys j 0) k)

pub record Tallied (s : List ℕ) (rows : ℕ) (keys somes : List ℕ) : Type 0 where
  pub tally : (k : ℕ) → k < key_count → get_or somes k 0 ≡ total (some_of s keys k) (λ _. 1) rows

abbrev pub times_of : List ℕ → List ℕ → List ℕ → ℕ → ℕ
times_of s keys somes j = pick (eqb (kind_of s j) kind_exists) 1 (1 + get_or somes (get_or keys j 0) 0)

abbrev pub share_of : List ℕ → List ℕ → List ℕ → List ℕ → ℕ → ℕ
share_of s keys somes below j = 1 + get_or below j 0 * times_of s keys somes j

pub record Weighed (s : List ℕ) (rows : ℕ) (keys somes below : List ℕ) : Type 0 where
  pub weight : (i : ℕ) → i < rows →
      get_or below i 0 ≡ total (hangs s (λ j. eqb j i)) (share_of s keys somes below) rows
