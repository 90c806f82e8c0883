-- The two tables in the work space, as they are lent to what reads them.
--   first_lies        the first table lies within the work space
--   on_tables         what is true of two normal files is true of the parts that are these files
--   Lending           what `prepare` was lent, gave and left
--   prepared_yes, prepared_no,
--   long_enough       what `prepare` gives says what the questions of the pair answer
--   prepared_in       after `prepare` has given the pair both tables are there, each as the code needs it,
--   prepared_tables   and the parts that are cut out are the normal tables of the unfolded pictures
use Prim.Native.Nat.{ℕ, ◌≤◌}
use native.Mathlib.Omega.{arith}
use lib.ListN.{drop, length, take}
use mathlib.Core.Bool.{Bool, true}
use mathlib.Core.List.{List}
use mathlib.Core.Path.{◌∙◌, ◌≡◌, ap, subst, sym}
use Rattle.std.proofs.Common.{Err, Ok, Result}
use Rattle.table.specs.Bounds.{Bounded, max_rows, picture_size}
use Rattle.table.specs.Layout.{end_size, «place»}
use Rattle.table.specs.declared.layout.Limits.{Limits}
use Rattle.meaning.proofs.Normals.{normal_length, normal_reads, normal_size}
use Rattle.meaning.specs.NormalTable.{normal_file}
use Rattle.row_sets.proofs.Checks.{readable_checked}
use Rattle.row_sets.specs.Rows.{Checked}
use Rattle.picture.proofs.Orders.{given, refused_by}
use Rattle.picture.proofs.Keeping.{kept_yes}
use Rattle.picture.specs.Asked.{on_asked, yes}
use Rattle.picture.specs.declared.answer.Refusal.{Refusal}
use Rattle.workspace.specs.Prepare.{Acceptable, halves_put, work_size}
use Rattle.normal_writer.specs.Tables.{table_rows}
use Rattle.prepare_pair.specs.Tables.{NormalTables, TablesIn, first_in, second_in, tables_of, tables_under, work_under}
use Rattle.prepare_pair.specs.declared.prepare.Pair.{Pair}
use Rattle.definitions.specs.Unfolded.{unfolded_file}
use Rattle.under.proofs.Givens.{acceptable_unfolded}
use Rattle.under.proofs.Orders.{pair_decides, pair_order}
use Rattle.under.specs.Asked.{pair_asked_under}
use Rattle.under.specs.Given.{AcceptableUnder}
use Rattle.workspace.proofs.Preparations.{halves_first, halves_second, length_halves}

pub first_lies : {limits : Limits} {work : List ℕ} {pair : Pair} → TablesIn limits work pair →
    (pair.first ≤ max_rows) × (place pair.first end_size ≤ length work)
first_lies there = (there.first_checked.most, omega (arith, there.room, there.first_fits))

pub on_tables : {limits : Limits} {first second s t : List ℕ} {pair : Pair} →
    NormalTables limits first second pair s t → (P : List ℕ → List ℕ → Type 0) →
    P (normal_file limits first) (normal_file limits second) → P s t
on_tables {limits} {first} {second} {s} {t} tables P h =
    subst (λ x. P x t) (sym tables.first_is) (subst (λ y. P (normal_file limits first) y) (sym tables.second_is) h)

module _ (limits : Limits) (first second work : List ℕ) (bounded : Bounded limits) (pair : Acceptable limits first second) (enough : work_size limits ≤ length work) where
  abbrev p : Pair
  p = tables_of limits first second

  first_is : first_in p (halves_put limits first second work) ≡ normal_file limits first
  first_is =
      ap (λ (k : ℕ). take k (halves_put limits first second work)) (sym (normal_length limits first))
      ∙ halves_first limits first second work pair.first_few pair.second_few

  second_is : second_in limits p (halves_put limits first second work) ≡ normal_file limits second
  second_is =
      ap (λ (k : ℕ). take k (drop (picture_size limits) (halves_put limits first second work))) (sym (normal_length limits second))
      ∙ halves_second limits first second work pair.first_few pair.second_few

  tables_in : TablesIn limits (halves_put limits first second work) (tables_of limits first second)
  tables_in =
      record {
        room = omega (arith, enough, length_halves limits first second work pair.first_few pair.second_few enough);
        first_fits = omega (arith, normal_length limits first, normal_size limits first pair.first_few);
        second_fits = omega (arith, normal_length limits second, normal_size limits second pair.second_few);
        first_checked = subst (λ s. Checked s (table_rows limits first)) (sym first_is)
            (readable_checked limits (normal_file limits first) (table_rows limits first) (normal_reads limits first pair.first_few bounded) bounded);
        second_checked = subst (λ s. Checked s (table_rows limits second)) (sym second_is)
            (readable_checked limits (normal_file limits second) (table_rows limits second) (normal_reads limits second pair.second_few bounded) bounded);
      }

-- what `prepare` was lent, gave and left; b is the answer to 1
pub record Lending (limits : Limits) (b : Bool) (tbox first second old work : List ℕ) (answer : Result Pair Refusal) : Type 0 where
  pub bounded : Bounded limits
  pub long : b ≡ true → work_size limits ≤ length old
  pub is : answer ≡ on_asked (pair_asked_under limits tbox b first second)
      (Ok (tables_under limits tbox first second))
  pub written : work ≡ work_under limits tbox first second b old

module _ {limits : Limits} {b : Bool} {tbox first second old work : List ℕ} {answer : Result Pair Refusal} {pair : Pair}
    (l : Lending limits b tbox first second old work answer) (tables : answer ≡ Ok pair) where
  abbrev u : List ℕ
  u = unfolded_file limits tbox first

  abbrev v : List ℕ
  v = unfolded_file limits tbox second

  pub prepared_yes : (pair_asked_under limits tbox b first second ≡ yes) × (tables_of limits u v ≡ pair)
  prepared_yes =
      let (all, same) = given (Ok (tables_of limits u v)) pair (pair_asked_under limits tbox b first second)
      (sym l.is ∙ tables) in
      (all, cc)

  both_accepted : (b ≡ true) × AcceptableUnder limits tbox first second
  both_accepted =
      (pair_decides limits l.bounded tbox first second b).yes.0
      (pair_order limits l.bounded tbox first second b ∙ prepared_yes.0)

  pub long_enough : b ≡ true
  long_enough = both_accepted.0

  accepted : Acceptable limits u v × (pair ≡ tables_of limits u v)
  accepted = let (all, same) = prepared_yes in
      (acceptable_unfolded limits tbox first second l.bounded both_accepted.1, cc)

  long_work : work_size limits ≤ length old
  long_work = l.long long_enough

  -- what is true of both tables once they are written
  as_written : (P : Pair → List ℕ → Type 0) → P (tables_of limits u v) (halves_put limits u v old) → P pair work
  as_written P h =
      let halves : work ≡ halves_put limits u v old = l.written
      ∙ kept_yes (halves_put limits u v old) old (pair_asked_under limits tbox b first second) prepared_yes.0 in
      subst (λ q. P q work) (sym accepted.1) (subst (λ w. P (tables_of limits u v) w) (sym halves) h)

  pub prepared_in : TablesIn limits work pair
  prepared_in =
      as_written (λ q w. TablesIn limits w q) (tables_in limits u v old l.bounded accepted.0 long_work)

  pub prepared_tables : {s t : List ℕ} → s ≡ first_in pair work → t ≡ second_in limits pair work →
      NormalTables limits u v pair s t
  prepared_tables e f =
      record {
        accepted = accepted.0;
        first_is = e ∙ as_written (λ q w. first_in q w ≡ normal_file limits u)
            (first_is limits u v old l.bounded accepted.0 long_work);
        second_is = f ∙ as_written (λ q w. second_in limits q w ≡ normal_file limits v)
            (second_is limits u v old l.bounded accepted.0 long_work);
        first_checked = subst (λ x. Checked x pair.first) (sym e) prepared_in.first_checked;
        second_checked = subst (λ x. Checked x pair.second) (sym f) prepared_in.second_checked;
      }

pub prepared_no : {limits : Limits} {b : Bool} {tbox first second old work : List ℕ} {answer : Result Pair Refusal} →
    Lending limits b tbox first second old work answer → (r : Refusal) → answer ≡ Err r →
    pair_asked_under limits tbox b first second ≡ Err r
prepared_no {limits} {b} {tbox} {first} {second} l r refused =
    refused_by (Ok (tables_under limits tbox first second)) r
    (λ e. let z : ◌≡◌ {A = ℕ} 0 1 = cc in omega arith) (pair_asked_under limits tbox b first second)
    (sym l.is ∙ refused)
