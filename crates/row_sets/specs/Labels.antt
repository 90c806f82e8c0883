-- Labels of sets of rows, and what else the code has of a set. Nobody has to believe these.
--   LabelIs   a label of the code stands for one of the theory
--   Joined    a label with that of row j
--   Added     the same of all that the code has of a set
--   Valued    the label of a set, what hangs from it, and the roles of that
--   OfSome    the same of some set
use Rattle.std.specs.Prelude.{◌<◌, ◌^◌, ℕ, eqb, Bool, ◌||◌, List, ◌≡◌}
use Rattle.table.specs.Fields.{excluded_of, impossible_of, wanted_of}
use Rattle.table.specs.Layout.{name_count}
use Rattle.table.specs.NameSet.{union}
use Rattle.table.specs.NameValues.{set_of}
use Rattle.ale.specs.Merged.{label_of_set}
use Rattle.ale.specs.PictureSignature.{picture_signature}
use Rattle.ale.specs.Rows.{filter_below}
use Rattle.ale.specs.Tree as tree
use Rattle.meaning.specs.Meaning.{picture_table}
use Rattle.row_sets.specs.Rows.{Hung, Known, hangs, holds}
use Rattle.row_sets.specs.declared.label.Label.{Label}
use Rattle.row_sets.specs.declared.values.Values.{Values}

pub record LabelIs (r : Label) (l : tree.Label picture_signature) : Type 0 where
  pub wanted_is : set_of r.wanted ≡ l.wanted.set
  pub excluded_is : set_of r.excluded ≡ l.excluded.set
  pub bottom_is : eqb r.bottom 1 ≡ l.bottom

pub record Joined (s : List ℕ) (j : ℕ) (label r : Label) : Type 0 where
  pub wanted_joins : set_of r.wanted ≡ union (wanted_of s j) (set_of label.wanted)
  pub excluded_joins : set_of r.excluded ≡ union (excluded_of s j) (set_of label.excluded)
  pub bottom_joins : eqb r.bottom 1 ≡ (eqb (impossible_of s j) 1 || eqb label.bottom 1)
  pub wanted_fits : wanted_of s j < 2 ^ name_count
  pub excluded_fits : excluded_of s j < 2 ^ name_count

pub record Added (s : List ℕ) (rows j : ℕ) (values r : Values) : Type 0 where
  pub label_joins : Joined s j values.label r.label
  pub first_is : r.first ≡ j
  pub successors_join : Hung s rows j values.successors r.successors

pub record Valued (s : List ℕ) (rows : ℕ) (q : ℕ → Bool) (values : Values) : Type 0 where
  pub label_is : LabelIs values.label (label_of_set picture_signature (picture_table s) (filter_below q rows))
  pub successors_are : (j : ℕ) → j < rows → holds values.successors.set j ≡ hangs s q j
  pub known : Known s rows values.successors

abbrev pub OfSome : List ℕ → ℕ → Values → Type 0
OfSome s rows values = (q : ℕ → Bool) × Valued s rows q values
