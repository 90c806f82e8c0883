-- The table under construction, as the theory has it. The definitions of the theory are a variable, so that nothing of
-- them is in the code.
--   raw_row, mixed          the rows after i of them have come up: these are unfolded, the others as they were copied
--   Standing               the table has these rows
--   Capped                 it has them if they are not more than the limit, and else more rows than the limit
--   Pictures               the pictures of some names are those that the code finds
--   Attachable, Attached   definitions hung to row i, which has come up, by rising name: what is asked before, what has
--                          been done
--   Rising, Risen          the same of row i coming up
--   Growable, Unfolded     the same of the whole picture
--   Filed                  the same with the end field behind the rows: a picture file
use Rattle.std.specs.Prelude.{◌+◌, ◌<◌, ◌≤◌, suc, zero, ℕ, get_or, length, take, true, List, [], ◌∷◌, ◌≡◌}
use Rattle.table.specs.Bounds.{Bounded, max_rows}
use Rattle.table.specs.Layout.{end_size, name_count, «place»}
use Rattle.table.specs.NameSet.{has}
use Rattle.table.specs.declared.layout.Limits.{Limits}
use Rattle.ale.specs.Encoding.{Row}
use Rattle.ale.specs.PictureSignature.{picture_signature}
use Rattle.ale.specs.Rows.{filter_below}
use Rattle.ale.specs.Table.{Table}
use Rattle.tbox.specs.Definitions.{Definitions}
use Rattle.tbox.specs.Unfold.{Origin, attach, grown, unfold_rows, unfolded_row, visit}
use Rattle.picture.specs.Readable.{Readable, row_count}
use Rattle.meaning.specs.File.{file_of, rows_from}
use Rattle.meaning.specs.Meaning.{picture_table}
use Rattle.definition_parts.specs.Parts.{Agrees, part_at}
use Rattle.table_rows.specs.Rows.{prefix}

abbrev pub raw_row : Origin picture_signature → Row picture_signature
raw_row o = record {
  parent = o.parent;
  kind = o.table.kind o.row;
  role = o.table.role o.row;
  label = o.table.label o.row;
}

module _ (D : Definitions picture_signature) where
  abbrev pub mixed : ℕ → List (Origin picture_signature) → List (Row picture_signature)
  mixed i [] = []
  mixed zero (o ∷ w) = raw_row o ∷ mixed zero w
  mixed (suc i) (o ∷ w) = unfolded_row picture_signature D o ∷ mixed i w

  pub record Standing (i : ℕ) (v : List (Origin picture_signature)) (rows : ℕ) (out : List ℕ) : Type 0 where
    pub count : rows ≡ length v
    pub bytes : prefix rows out ≡ rows_from 0 (mixed i v)

  pub record Capped (limit i : ℕ) (v : List (Origin picture_signature)) (rows : ℕ) (out : List ℕ) : Type 0 where
    pub few : length v ≤ limit → Standing i v rows out
    pub many : limit < length v → limit < rows

  abbrev pub Pictures : List ℕ → List ℕ → ℕ → Type 0
  Pictures tbox starts names =
      (n : ℕ) → has names n ≡ true → D.picture n ≡ picture_table (part_at tbox (get_or starts n 0))

pub record Attachable (defined taken limit rows : ℕ) (out : List ℕ) : Type 0 where
  pub known : (n : ℕ) → has taken n ≡ true → has defined n ≡ true
  pub started : rows ≤ limit + 1
  pub small : limit ≤ max_rows
  pub room : place limit 0 ≤ length out

pub record Attached (tbox starts : List ℕ) (taken i limit rows : ℕ) (d : List ℕ) (r : ℕ) (e : List ℕ) : Type 0 where
  pub same_length : length e ≡ length d
  pub capped : (D : Definitions picture_signature) (v : List (Origin picture_signature)) →
      Pictures D tbox starts taken → i < length v → Capped D limit (suc i) v rows d →
      Capped D limit (suc i) (attach picture_signature D v i (filter_below (has taken) name_count)) r e

pub record Rising (i limit rows : ℕ) (out : List ℕ) : Type 0 where
  pub here : i < rows
  pub within : rows ≤ limit
  pub small : limit ≤ max_rows
  pub room : place limit 0 ≤ length out

pub record Risen (tbox starts : List ℕ) (defined i limit rows : ℕ) (d : List ℕ) (r : ℕ) (e : List ℕ) : Type 0 where
  pub same_length : length e ≡ length d
  pub capped : (D : Definitions picture_signature) (p : Table picture_signature) (v : List (Origin picture_signature)) →
      Agrees D tbox starts defined → Standing D i v rows d →
      Capped D limit (suc i) (visit picture_signature D p v i) r e

pub record Growable (picture : List ℕ) (rows limit : ℕ) (out : List ℕ) : Type 0 where
  pub limits : Limits
  pub bounded : Bounded limits
  pub readable : Readable limits picture
  pub counted : rows ≡ row_count picture
  pub within : rows ≤ limit
  pub small : limit ≤ max_rows
  pub room : place limit 0 ≤ length out

pub record Unfolded (picture tbox starts : List ℕ) (defined limit r : ℕ) (d e : List ℕ) : Type 0 where
  pub same_length : length e ≡ length d
  pub few : (D : Definitions picture_signature) → Agrees D tbox starts defined →
      length (grown picture_signature D (picture_table picture) limit) ≤ limit →
      (r ≡ length (grown picture_signature D (picture_table picture) limit))
      × (prefix r e ≡ rows_from 0 (unfold_rows picture_signature D limit (picture_table picture)))
  pub many : (D : Definitions picture_signature) → Agrees D tbox starts defined →
      limit < length (grown picture_signature D (picture_table picture) limit) → limit < r

pub record Filed (picture tbox starts : List ℕ) (defined limit r : ℕ) (d e : List ℕ) : Type 0 where
  pub same_length : length e ≡ length d
  pub few : (D : Definitions picture_signature) → Agrees D tbox starts defined →
      length (grown picture_signature D (picture_table picture) limit) ≤ limit →
      (r ≡ length (grown picture_signature D (picture_table picture) limit))
      × (prefix r e ≡ rows_from 0 (unfold_rows picture_signature D limit (picture_table picture)))
      × (take (place r end_size) e ≡ file_of (unfold_rows picture_signature D limit (picture_table picture)))
  pub many : (D : Definitions picture_signature) → Agrees D tbox starts defined →
      limit < length (grown picture_signature D (picture_table picture) limit) → limit < r
