-- Sets of file rows, and what hangs from them. A set is a test of row numbers; the code has some of them as words. Nobody has to
-- believe these.
--   Checked                what the code needs of a readable picture of so many rows
--   also                   a set with one row more
--   hangs                  row j hangs from a row of the set
--   of_kind, of_role         those of one kind; those of one role
--   word_of, holds          the words of a set that the code has; whether it holds row j
--   Next                   the lowest row of such a set from one on
--   Masked, Surveyed       the table of the rows of each role and kind; the picture with these tables
--   Hung                   what hangs from a set with row c, and its roles
--   Known                  row 0 hangs from none, and the code has the roles of those that hang
--   Found                  a row that passes a test, or the number of rows if there is none
use Rattle.std.specs.Prelude.{◌*◌, ◌+◌, ◌/◌, ◌%◌, ◌<◌, ◌≤◌, ℕ, eqb, get_or, length, Bool, ◌&&◌, ◌||◌, false, not, true, List, ◌≡◌}
use Rattle.table.specs.Bounds.{max_rows}
use Rattle.table.specs.Fields.{kind_of, parent_of, role_of}
use Rattle.table.specs.Layout.{kind_exists, kind_for_all, «place», roles}
use Rattle.table_rows.specs.Links.{Linked}
use Rattle.table.specs.NameSet.{has}
use Rattle.table.specs.Pick.{pick}
use Rattle.picture.specs.Readable.{row_count}
use Rattle.row_sets.specs.declared.rows.Successors.{Successors}
use Rattle.row_sets.specs.declared.rows.RowSet.{RowSet}

pub record Checked (s : List ℕ) (rows : ℕ) : Type 0 where
  pub some : 0 < rows
  pub most : rows ≤ max_rows
  pub whole : place rows 0 ≤ length s
  pub counted : rows ≡ row_count s
  pub parents : (j : ℕ) → (j ≡ 0 → ⊥) → j < rows → parent_of s j < j
  pub kinds : (j : ℕ) → (j ≡ 0 → ⊥) → j < rows → (kind_of s j ≡ kind_exists → ⊥) → kind_of s j ≡ kind_for_all
  pub roles_below : (j : ℕ) → j < rows → role_of s j < roles

-- what hangs from each row is linked
pub record LinkedTable (t : List ℕ) (rows : ℕ) (links : List ℕ) : Type 0 where
  pub checked : Checked t rows
  pub linked : Linked (parent_of t) rows max_rows links

abbrev pub also : ℕ → (ℕ → Bool) → ℕ → Bool
also c q j = eqb j c || q j

unfoldable pub hangs : List ℕ → (ℕ → Bool) → ℕ → Bool
hangs s q j = not (eqb j 0) && q (parent_of s j)

abbrev pub of_kind : List ℕ → ℕ → (ℕ → Bool) → ℕ → Bool
of_kind s kind p j = eqb (kind_of s j) kind && p j

abbrev pub of_role : List ℕ → ℕ → (ℕ → Bool) → ℕ → Bool
of_role s role p j = eqb (role_of s j) role && p j

abbrev pub word_of : RowSet → ℕ → ℕ
word_of r i = pick (eqb i 0) r.a (pick (eqb i 1) r.b (pick (eqb i 2) r.c r.d))

unfoldable pub holds : RowSet → ℕ → Bool
holds r j = has (word_of r (j / 64)) (j % 64)

pub record Next (set : RowSet) (from rows r : ℕ) : Type 0 where
  pub onward : from ≤ r
  pub between : (k : ℕ) → from ≤ k → k < r → k < rows → holds set k ≡ false
  pub held : r < rows → holds set r ≡ true

pub record Masked (s : List ℕ) (rows : ℕ) (masks : List ℕ) : Type 0 where
  pub masked : (j role kind : ℕ) → j < rows → role < roles → kind < 2 →
      has (get_or masks (4 * (2 * role + kind) + j / 64) 0) (j % 64) ≡ (eqb (role_of s j) role && eqb (kind_of s j % 2) kind)

pub record Surveyed (s : List ℕ) (rows : ℕ) (links masks : List ℕ) : Type 0 where
  pub checked : Checked s rows
  pub linked : Linked (parent_of s) rows max_rows links
  pub masked : Masked s rows masks

pub record Hung (s : List ℕ) (rows c : ℕ) (successors r : Successors) : Type 0 where
  pub set_is : (k : ℕ) → k < rows → holds r.set k ≡ (hangs s (λ i. eqb i c) k || holds successors.set k)
  pub roles_kept : (i : ℕ) → has successors.roles i ≡ true → has r.roles i ≡ true
  pub roles_met : (k : ℕ) → k < rows → hangs s (λ i. eqb i c) k ≡ true → has r.roles (role_of s k) ≡ true

pub record Known (s : List ℕ) (rows : ℕ) (successors : Successors) : Type 0 where
  pub rootless : holds successors.set 0 ≡ false
  pub known : (j : ℕ) → j < rows → holds successors.set j ≡ true → has successors.roles (role_of s j) ≡ true

pub record Found (passes : ℕ → Bool) (rows first : ℕ) : Type 0 where
  pub found : first < rows → passes first ≡ true
  pub none : rows ≤ first → (j : ℕ) → j < rows → passes j ≡ false
