-- Laws of the check as the code makes it.
--   asks_individuals, asks_first, asks_second    21 is answered no; 22 is; they are answered yes, and 23 decides
--   check_map, check_refutation, check_neither   the answer by the form of the file
--   tables_check                                 the parts of the work space that are the normal files decide what the
--                                                definition asks of the pictures
--   prepared_call                                the call, by what the questions before the evidence answer
use Prim.Native.Nat.{ℕ}
use lib.Dec.{leb}
use lib.ListN.{length}
use mathlib.Core.Bool.{Bool, false, not, true}
use mathlib.Core.List.{List}
use mathlib.Core.Path.{◌∙◌, ◌≡◌, ap, refl, sym}
use Rattle.std.proofs.Common.{Err, Ok, Result}
use Rattle.table.specs.Bounds.{Bounded}
use Rattle.table.specs.Range.{each}
use Rattle.table.specs.declared.layout.Limits.{Limits}
use Rattle.picture.specs.Asked.{and_then, asked, on_asked, Asked}
use Rattle.picture.specs.Readable.{row_count}
use Rattle.meaning.specs.Meaning.{picture_table, picture_tree}
use Rattle.meaning.specs.NormalTable.{normal_file}
use Rattle.countermodel.specs.Individual.{individual_ok, refutation_form}
use Rattle.countermodel.specs.Layout.{individual_count}
use Rattle.countermodel.specs.Model.{model_tree, row_tree}
use Rattle.homomorphism.specs.Layout.{image_of}
use Rattle.model_check.specs.ModelRows.{fits_row}
use Rattle.workspace.specs.Prepare.{Acceptable, work_size}
use Rattle.prepare_pair.proofs.TablesIn.{on_tables}
use Rattle.prepare_pair.specs.Tables.{NormalTables, work_under}
use Rattle.prepare_pair.specs.declared.prepare.Pair.{Pair}
use Rattle.evidence.proofs.NormalTables.{fits_picture}
use Rattle.evidence.proofs.Refutations.{refutation_asked_same}
use Rattle.evidence.specs.Call.{evidence_asked, evidence_kind}
use Rattle.evidence.specs.Check.{check_asked, refutation_asked}
use Rattle.evidence.specs.Form.{map_form}
use Rattle.evidence.specs.Map.{map_asked, refusal_by}
use Rattle.evidence.specs.declared.check.Taken.TheVariants.{Map, Refutation}
use Rattle.definitions.specs.Unfolded.{unfolded_file}
use Rattle.under.proofs.Asked.{verify_asked_is, verify_work_asked}
use Rattle.under.specs.Asked.{pair_asked_under}
use Rattle.under.specs.Calls.{verify_under, verify_work_under}
use Rattle.evidence.specs.declared.check.Taken.{Taken}
use Rattle.picture.specs.declared.answer.Refusal.{Refusal}
use Rattle.evidence_check.specs.Tables.{check_in}

-- ---- on two tables

module _ (first second e : List ℕ) where
  -- what the code has read of the individuals: a says that 21 is answered yes of each
  module _ (n : ℕ) (a : Bool) (counted : n ≡ individual_count e) (passes : a ≡ each (individual_ok e) n 0) where
    abbrev Asks : Asked → Type 0
    Asks answer = refutation_asked (row_tree (picture_table first) 0) (row_tree (picture_table second) 0) e ≡ answer

    refutation_read : (b c : Bool) → b ≡ fits_row first 0 e 0 → c ≡ fits_row second 0 e 0 →
        Asks (and_then (asked a (refusal_by 21)) (and_then (asked b (refusal_by 22)) (asked (not c) (refusal_by 23))))
    unfolding refutation_asked fits_row
    refutation_read b c fits fits-second =
        let all : a ≡ each (individual_ok e) (individual_count e) 0 =
        passes ∙ ap (λ (m : ℕ). each (individual_ok e) m 0) counted in
        rw (sym all, sym fits, sym fits-second)

    pub asks_individuals : a ≡ false → Asks (Err (refusal_by 21))
    asks_individuals h = refutation_read _ _ refl refl ∙ simp h

    module _ (passed : a ≡ true) (b : Bool) (fits : b ≡ fits_row first 0 e 0) where
      pub asks_first : b ≡ false → Asks (Err (refusal_by 22))
      asks_first h = refutation_read b _ fits refl ∙ simp (passed, h)

      pub asks_second : b ≡ true → (c : Bool) → c ≡ fits_row second 0 e 0 → Asks (asked (not c) (refusal_by 23))
      asks_second h c fits-second = refutation_read b c fits fits-second ∙ simp (passed, h)

  module _ (limits : Limits) (m : ℕ) (counted : m ≡ row_count second) where
    abbrev Checks : Result Taken Refusal → Type 0
    Checks answer = check_in limits first second e ≡ answer

    pub check_map : map_form m e ≡ true →
        Checks (on_asked (map_asked (picture_table first) (picture_table second) (image_of e)) (Ok Map))
    unfolding check_in check_asked
    check_map h = let form = rw counted at h in rw form

    module _ (other : map_form m e ≡ false) where
      pub check_refutation : refutation_form limits e ≡ true →
          Checks (on_asked
          (refutation_asked (row_tree (picture_table first) 0) (row_tree (picture_table second) 0) e) (Ok Refutation))
      unfolding check_in check_asked
      check_refutation h = let form = rw counted at other in rw (form, h)

      pub check_neither : refutation_form limits e ≡ false → Checks (Err (refusal_by 16))
      unfolding check_in check_asked
      check_neither h = let form = rw counted at other in rw (form, h)

-- ---- the normal tables of a pair

module _ (limits : Limits) (first second e : List ℕ) (bounded : Bounded limits)
    (pair : Acceptable limits first second) where
  check_evidence : check_in limits (normal_file limits first) (normal_file limits second) e
      ≡ on_asked (evidence_asked limits first second e) (Ok (evidence_kind limits second e))
  unfolding check_in evidence_asked check_asked
  check_evidence =
      rw (refutation_asked_same (row_tree (picture_table (normal_file limits first)) 0)
      (row_tree (picture_table (normal_file limits second)) 0) (picture_tree limits first) (picture_tree limits second) e
      (fits_picture limits first bounded pair.first_few pair.first_readable (model_tree e 0))
      (fits_picture limits second bounded pair.second_few pair.second_readable (model_tree e 0)))

pub tables_check : {limits : Limits} {first second s t : List ℕ} {pair : Pair} → Bounded limits →
    NormalTables limits first second pair s t → (e : List ℕ) →
    check_in limits s t e ≡ on_asked (evidence_asked limits first second e) (Ok (evidence_kind limits second e))
tables_check {limits} {first} {second} bounded tables e =
    on_tables tables
    (λ s t. check_in limits s t e ≡ on_asked (evidence_asked limits first second e) (Ok (evidence_kind limits second e)))
    (check_evidence limits first second e bounded tables.accepted)

-- ---- the call by its tests

module _ (limits : Limits) (bounded : Bounded limits) (tbox first second e work : List ℕ) where
  abbrev pub Gives : Result Taken Refusal → List ℕ → Type 0
  Gives answer space =
      (answer ≡ verify_under limits tbox first second e (length work))
      × (space ≡ verify_work_under limits tbox first second work)

  abbrev u : List ℕ
  u = unfolded_file limits tbox first

  abbrev v : List ℕ
  v = unfolded_file limits tbox second

  -- b is the answer to 1, a what the questions before the evidence answer, `space` what `prepare` has left
  pub prepared_call : (b : Bool) → b ≡ leb (work_size limits) (length work) →
      (a : Asked) → pair_asked_under limits tbox b first second ≡ a → (space : List ℕ) →
      space ≡ work_under limits tbox first second b work →
      Gives (on_asked (and_then a (evidence_asked limits u v e)) (Ok (evidence_kind limits v e))) space
  prepared_call b room a is space written =
      let asks : pair_asked_under limits tbox (leb (work_size limits) (length work)) first second ≡ a =
      ap (λ q. pair_asked_under limits tbox q first second) (sym room) ∙ is in (
        sym (verify_asked_is limits bounded tbox first second e (length work) ∙ rw asks),
        written ∙ ap (λ q. work_under limits tbox first second q work) room
            ∙ sym (verify_work_asked limits bounded tbox first second work),
      )
