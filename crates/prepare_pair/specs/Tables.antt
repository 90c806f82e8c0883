-- Where the two tables stand in the work space. Nobody has to believe these.
--   HalvesRoom          what making both tables in the halves needs
--   PairRoom            what asking 14, or the questions of the definitions book, before that needs
--   UnfoldedHalves, UnfoldedPair   what making and asking need of pictures that are unfolded on the way
--   tables_of            the rows of both normal tables
--   both_merged          14 of both
--   tables_under, halves_under, merged_under   the rows, the halves and 14 of the unfolded pictures
--   opened_asked         the questions of the definitions book, and 14
--   read_under           and before these 2 to 13 of both
--   work_under           the work space: both tables where all that is answered yes with 1; else nothing written
--   first_in, second_in   the tables of so many rows in the work space
--   TablesIn            they are there, each as the code needs it
--   NormalTables        two parts that are the normal tables of two pictures, each as the code needs it
use Rattle.std.specs.Prelude.{ℕ, ◌≤◌, drop, length, take, Bool, List, ◌≡◌}
use Rattle.table.specs.Bounds.{Bounded, picture_size}
use Rattle.table.specs.Layout.{end_size, «place»}
use Rattle.table.specs.NameValues.{set_of}
use Rattle.table.specs.declared.layout.Limits.{Limits}
use Rattle.picture.specs.Asked.{and_then, kept, Asked}
use Rattle.picture.specs.Readable.{Readable}
use Rattle.picture.specs.declared.answer.Input.TheVariants.{First, Second}
use Rattle.meaning.specs.NormalTable.{merged_count, normal_file}
use Rattle.normal.specs.Call.{merged_asked}
use Rattle.normal_writer.specs.Tables.{table_rows}
use Rattle.row_sets.specs.Rows.{Checked}
use Rattle.workspace.specs.Prepare.{Acceptable, halves_put, work_size}
use Rattle.definition_parts.specs.declared.opened.Tbox.{Tbox}
use Rattle.definitions.specs.Asked.{definitions_asked}
use Rattle.definitions.specs.Unfolded.{unfolded_file}
use Rattle.under.specs.Asked.{pair_asked_under}
use Rattle.under.specs.Given.{pair, under_asked}
use Rattle.unfold_tables.specs.Ready.{Unfolding}
use Rattle.prepare_pair.specs.declared.prepare.Pair.{Pair}

pub record HalvesRoom (limits : Limits) (first second work : List ℕ) : Type 0 where
  pub bounded : Bounded limits
  pub accepted : Acceptable limits first second
  pub space : work_size limits ≤ length work

pub record PairRoom (limits : Limits) (first second work : List ℕ) : Type 0 where
  pub bounded : Bounded limits
  pub first_readable : Readable limits first
  pub second_readable : Readable limits second
  pub space : work_size limits ≤ length work

pub record UnfoldedPair (limits : Limits) (tbox : Tbox) (first second work : List ℕ) : Type 0 where
  pub first_ready : Unfolding limits tbox.bytes.now tbox.starts.now (set_of tbox.defined) first
  pub second_ready : Unfolding limits tbox.bytes.now tbox.starts.now (set_of tbox.defined) second
  pub space : work_size limits ≤ length work

pub record UnfoldedHalves (limits : Limits) (tbox : Tbox) (first second work : List ℕ) : Type 0 where
  pub pair : UnfoldedPair limits tbox first second work
  pub first_few : merged_count limits (unfolded_file limits tbox.bytes.now first) ≤ limits.rows
  pub second_few : merged_count limits (unfolded_file limits tbox.bytes.now second) ≤ limits.rows

abbrev pub tables_of : Limits → List ℕ → List ℕ → Pair
tables_of limits first second = record { first = table_rows limits first; second = table_rows limits second }

abbrev pub both_merged : Limits → List ℕ → List ℕ → Asked
both_merged limits first second = and_then (merged_asked limits First first) (merged_asked limits Second second)

module _ (limits : Limits) (tbox first second : List ℕ) where
  abbrev pub tables_under : Pair
  tables_under = tables_of limits (unfolded_file limits tbox first) (unfolded_file limits tbox second)

  abbrev pub halves_under : List ℕ → List ℕ
  halves_under work = halves_put limits (unfolded_file limits tbox first) (unfolded_file limits tbox second) work

  abbrev pub merged_under : Asked
  merged_under = both_merged limits (unfolded_file limits tbox first) (unfolded_file limits tbox second)

  abbrev pub opened_asked : Asked
  opened_asked = and_then (definitions_asked limits tbox (pair first second)) merged_under

  abbrev pub read_under : Asked
  read_under = and_then (under_asked limits tbox (pair first second)) merged_under

  abbrev pub work_under : Bool → List ℕ → List ℕ
  work_under enough work = kept (pair_asked_under limits tbox enough first second) (halves_under work) work

abbrev pub first_in : Pair → List ℕ → List ℕ
first_in pair work = take (place pair.first end_size) work

abbrev pub second_in : Limits → Pair → List ℕ → List ℕ
second_in limits pair work = take (place pair.second end_size) (drop (picture_size limits) work)

pub record TablesIn (limits : Limits) (work : List ℕ) (pair : Pair) : Type 0 where
  pub room : work_size limits ≤ length work
  pub first_fits : place pair.first end_size ≤ picture_size limits
  pub second_fits : place pair.second end_size ≤ picture_size limits
  pub first_checked : Checked (first_in pair work) pair.first
  pub second_checked : Checked (second_in limits pair work) pair.second

pub record NormalTables (limits : Limits) (first second : List ℕ) (pair : Pair) (s t : List ℕ) : Type 0 where
  pub accepted : Acceptable limits first second
  pub first_is : s ≡ normal_file limits first
  pub second_is : t ≡ normal_file limits second
  pub first_checked : Checked s pair.first
  pub second_checked : Checked t pair.second
