-- The label of a row, read and written.
--   LabelRead    a row's label, with nothing taken in
--   relabelled   the row with another label, without the defined names
use Rattle.std.specs.Prelude.{ℕ, List, ◌≡◌}
use Rattle.table.specs.Fields.{excluded_of, impossible_of, kind_of, parent_of, role_of, row_of, wanted_of}
use Rattle.table.specs.NameSet.{complement, intersection, none}
use Rattle.table.specs.NameValues.{set_of}
use Rattle.unfold_rows.specs.declared.take.Taking.{Taking}

pub record LabelRead (s : List ℕ) (k : ℕ) (r : Taking) : Type 0 where
  pub wanted : set_of r.wanted ≡ wanted_of s k
  pub excluded : set_of r.excluded ≡ excluded_of s k
  pub impossible : r.impossible ≡ impossible_of s k
  pub taken : set_of r.taken ≡ none

abbrev pub relabelled : List ℕ → ℕ → Taking → ℕ → List ℕ
relabelled s i t defined =
    row_of (parent_of s i) (kind_of s i) (role_of s i) t.impossible
    (intersection (set_of t.wanted) (complement defined)) (set_of t.excluded)
