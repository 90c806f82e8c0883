-- 01, "Starred ones are proved, gathered into one list with a single theorem over the list": computed from the calls' definitions.
-- Row counts, normal tables, evidence and common pictures are computed; that they are given with all buffers that are long enough, what evidence shows of
-- the meaning, and that a common picture covers both, is by the laws of the calls.
use Prim.Native.Nat.{◌≤◌, ℕ}
use lib.ListN.{length}
use mathlib.Core.List.{List}
use mathlib.Core.Path.{◌∙◌, ◌≡◌, ap, refl, subst}
use native.Mathlib.Omega.{arith}
use Rattle.countermodel.specs.Individual.{individual_head, individual_ok, refutation_form}
use Rattle.countermodel.specs.Layout.{individual_count}
use Rattle.countermodel.specs.Writing.{individual_bytes, refutation_file}
use Rattle.evidence.proofs.Soundness.{map_covers, refutation_fails}
use Rattle.evidence.specs.Call.{evidence_asked, verify_answer}
use Rattle.evidence.specs.Check.{check_asked, refutation_asked}
use Rattle.evidence.specs.Form.{map_form}
use Rattle.evidence.specs.Map.{map_asked, row_asked}
use Rattle.homomorphism.specs.Map.{lowest_map, map_file}
use Rattle.lcs.proofs.Commons.{lcs_covers_first, lcs_covers_second}
use Rattle.lcs.specs.Call.{lcs_answer}
use Rattle.lcs.specs.Product.{lcs_count, lcs_file, lcs_tree}
use Rattle.meaning.specs.Covering.{Covers, covers}
use Rattle.meaning.specs.NormalTable.{merged_count, merged_tree, normal_file, normal_tree_of}
use Rattle.picture.specs.Asked.{asked_from, read_asked}
use Rattle.picture.specs.Depth.{depth, depth_in}
use Rattle.picture.specs.Questions.{end_field, field_at, kind_ok, length_for, parent_ok, role_ok, row_field, tag_ok, value_field}
use Rattle.picture.specs.Read.{answer_of, reading_of, scan_from}
use Rattle.picture.specs.Readable.{row_count}
use Rattle.subsumption.specs.Verdict.{evidence_of, map_of, refutation_of, verdict_of}
use Rattle.table.specs.Bounds.{Bounded, bench_limits, picture_size}
use Rattle.table.specs.Fields.{end_bytes, ends_at, row_of}
use Rattle.table.specs.Number.{be, be_bytes}
use Rattle.table.specs.Put.{put, zeros}
use Rattle.table.specs.Range.{each}
use Rattle.table.specs.declared.layout.Limits.{Limits}
use Rattle.normal.specs.Call.{merged_asked}
use Rattle.definitions.proofs.Empty.{empty_definable, empty_unfolds, end_count, end_form}
use Rattle.definitions.specs.Unfolded.{unfolded_file}
use Rattle.workspace.specs.Lent.{lent_asked}
use Rattle.workspace.specs.Prepare.{pair_asked, work_size}
use Rattle.interface.specs.Calls.{validate_word}
use Rattle.interface.specs.Starred.{empty, k10_first, k10_second, k11_first, k11_second, k12_first, k12_normal, k12_normal_again, k2_first, k2_normal, k3_first, k3_normal, k4_first, k4_normal, k5_first, k6_first, k6_added_first, k6_added_normal, k7_first, k7_map, k7_refutation, k7_second, k8_first, k8_map, k8_other, k8_refutation, k8_second, k9_common, k9_first, k9_second, starred}
use Rattle.interface.specs.StarredClaims.{WritesNormal, WritesCommon, AllHold, Holds, subsumes, subsumes_not}
use Rattle.interface.specs.Word.{common_word, outcome, outcome_no, outcome_yes, value_word, verified_word}
use Rattle.interface.proofs.EmptySubsumes.{empty_subsumes}
use Rattle.interface.proofs.Answers.{lcs_shape, normalize_shape}
use Rattle.interface.proofs.Conditions.{common_shown}
use Rattle.interface.proofs.EmptyBooks.{empty_words}
use Rattle.interface.proofs.EndFields.{end_itself, map_end, of_pictures, refutation_end, takes_map_end}
use Rattle.interface.proofs.EndFields.{takes_refutation_end, writes_evidence}
use Rattle.interface.proofs.Shapes.{shape_given}
use Rattle.interface.proofs.Words.{bench_bounded, validate_readable}
use lib.Dec.{leb}
use borrow.Author.Tests.{leb-true}
use mathlib.Core.Bool.{false, true}

-- evidence that is computed and taken with a work space of the length laid down is so with all buffers that are long
-- enough, and shows what the two pictures mean
module _ (limits : Limits) (bounded : Bounded limits) (first second e : List ℕ)
    (is : evidence_of limits first second ≡ e) where
  abbrev space : List ℕ
  space = zeros (work_size limits)

  -- what the check without a definitions book answers
  abbrev checked : ℕ
  checked = verified_word (verify_answer limits first second e (length space))

  shown : verdict_of limits first second ≡ true → checked ≡ value_word outcome_yes 0 →
      Holds limits (subsumes first second e)
  shown decided taken =
      let (pair, map) = map_end limits bounded first second e space taken in (
        writes_evidence limits bounded first second pair e is true decided,
        takes_map_end limits bounded first second pair e map,
        map_covers limits first second e bounded pair map,
      )

  shown_not : verdict_of limits first second ≡ false → checked ≡ value_word outcome_no 0 →
      Holds limits (subsumes_not first second e)
  shown_not decided taken =
      let (pair, refuting) = refutation_end limits bounded first second e space taken in (
        writes_evidence limits bounded first second pair e is false decided,
        takes_refutation_end limits bounded first second pair e refuting,
        refutation_fails limits first second e bounded pair refuting,
      )

-- a normal table that is computed stands in any result buffer that is long enough
shown_normal : (limits : Limits) → Bounded limits → (first table : List ℕ) → outcome (validate_word limits first)
    ≡ outcome_yes →
    leb (merged_count limits first) limits.rows ≡ true → normal_file limits first ≡ table →
    WritesNormal limits first table
shown_normal limits bounded first table opened few is result long =
    let small = leb-true (merged_count limits first) limits.rows few in
    let readable = validate_readable limits first bounded opened in
    let itself = end_itself limits bounded first in
    let same : normal_file limits (unfolded_file limits end_bytes first) ≡ table = rw itself is in
    let (told, work, left) = shape_given _ _ _ _ _
    (normalize_shape limits bounded end_bytes first result _ _ (record { word_is = refl; buffer_is = refl })) (
      omega arith,
      long,
      record {
        definable = empty_definable end_bytes end_count end_form limits;
        readable = readable;
        unfolds = empty_unfolds end_bytes end_count limits first readable;
        few = rw itself small;
      },
    ) in
    (told ∙ ap (λ (e : List ℕ). value_word outcome_yes (length e)) same, left ∙ ap (λ (e : List ℕ). put result 0 e) same)

-- a common picture that is given with buffers of the lengths laid down stands in any result buffer that is long enough,
-- and covers both
module _ (limits : Limits) (bounded : Bounded limits) (first second table : List ℕ)
    (is : lcs_file limits first second ≡ table) where
  -- what the call without a definitions book answers
  abbrev answered : ℕ
  answered =
      common_word
      (lcs_answer limits first second (length (zeros (work_size limits))) (length (zeros (picture_size limits))))

  shown_common : outcome answered ≡ outcome_yes →
      WritesCommon limits first second table × Covers limits table first × Covers limits table second
  shown_common told =
      let same_word = (empty_words limits bounded).lcs first second (length (zeros (work_size limits)))
      (length (zeros (picture_size limits))) in
      let (a, b, (pair, few)) = common_shown limits bounded end_bytes first second (zeros (work_size limits))
      (zeros (picture_size limits)) (ap outcome same_word ∙ told) in
      let own = of_pictures limits bounded first second (λ s t. lcs_count limits s t ≤ limits.rows) few in
      let same : lcs_file limits (unfolded_file limits end_bytes first) (unfolded_file limits end_bytes second) ≡ table =
      rw (end_itself limits bounded first, end_itself limits bounded second) is in (
        λ work result enough long.
            let (told, space, left) = shape_given _ _ _ _ _
            (lcs_shape limits bounded end_bytes first second work result _ _ _
            (record { word_is = refl; work_is = refl; result_is = refl }))
            (enough, long, (pair, few)) in (
              told ∙ ap (λ (e : List ℕ). value_word outcome_yes (length e)) same,
              left ∙ ap (λ (e : List ℕ). put result 0 e) same,
            ),
        subst (λ e. Covers limits e first) is (lcs_covers_first limits first second own bounded),
        subst (λ e. Covers limits e second) is (lcs_covers_second limits first second own bounded),
      )

pub starred_hold : AllHold bench_limits starred
unfolding be be_bytes row_of end_bytes ends_at depth_in depth tag_ok length_for kind_ok role_ok parent_ok value_field row_field end_field field_at scan_from reading_of answer_of validate_word row_count merged_tree merged_count normal_tree_of normal_file
    each individual_count individual_head refutation_form individual_ok map_form row_asked asked_from map_asked
    refutation_asked check_asked evidence_asked read_asked merged_asked pair_asked lent_asked verify_answer
    covers verdict_of map_of lowest_map map_file refutation_of refutation_file individual_bytes evidence_of zeros
    lcs_tree lcs_count lcs_file lcs_answer
starred_hold = (
  empty_subsumes,
  (
    (refl, refl, shown_normal bench_limits bench_bounded k2_first k2_normal refl refl refl),
    (
      (refl, refl, shown_normal bench_limits bench_bounded k3_first k3_normal refl refl refl),
      (
        (refl, refl, shown_normal bench_limits bench_bounded k4_first k4_normal refl refl refl),
        (
          (refl, refl, shown_normal bench_limits bench_bounded k5_first empty refl refl refl),
          (
            (refl, refl, shown_normal bench_limits bench_bounded k6_first k6_first refl refl refl),
            (
              (refl, refl, shown_normal bench_limits bench_bounded k6_added_first k6_added_normal refl refl refl),
              (
                shown bench_limits bench_bounded k7_first k7_second k7_map refl refl refl,
                (
                  shown_not bench_limits bench_bounded k7_second k7_first k7_refutation refl refl refl,
                  (
                    shown bench_limits bench_bounded k8_first k8_second k8_map refl refl refl,
                    (
                      shown_not bench_limits bench_bounded k8_first k8_other k8_refutation refl refl refl,
                      (
                        (refl, shown_common bench_limits bench_bounded k9_first k9_second k9_common refl refl),
                        (
                          (refl, shown_common bench_limits bench_bounded k10_first k10_second empty refl refl),
                          (
                            (refl, shown_common bench_limits bench_bounded k11_first k11_second k11_second refl refl),
                            (
                              (refl, refl, shown_normal bench_limits bench_bounded k12_first k12_normal refl refl refl),
                              (
                                (
                                  refl,
                                  refl,
                                  shown_normal bench_limits bench_bounded k12_normal k12_normal_again refl
                                      refl refl,
                                ),
                                tt,
                              ),
                            ),
                          ),
                        ),
                      ),
                    ),
                  ),
                ),
              ),
            ),
          ),
        ),
      ),
    ),
  ),
)
