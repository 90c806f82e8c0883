-- K1: one empty row subsumes every picture. Whatever fits a picture fits it; and its one row is sent to row 0, whose label carries no less than nothing.
--   empty_counted              it has one row
--   empty_tree                 its tree is one node without names and without a mark
--   empty_rows, empty_label_is    its normal table is one such row
--   empty_map                  so the map of one row is one to any normal table
--   empty_evidence, empty_writes   it is the one that is written,
--   empty_taken                and the check takes it
--   empty_covers               what fits a picture fits the empty row
--   empty_subsumes             all of these
use Prim.Native.Nat.{◌<◌, ◌≤◌, ℕ}
use lib.Dec.{T}
use mathlib.Core.Bool.{true}
use mathlib.Core.List.{List}
use mathlib.Core.Path.{◌≡◌, refl, subst, sym}
use native.Mathlib.Omega.{arith}
use Rattle.ale.proofs.Concepts.{subsumed_concepts}
use Rattle.ale.proofs.Structures.{satisfies_empty_label}
use Rattle.ale.proofs.Tests.{or_right}
use Rattle.ale.specs.Homomorphism.{label_within}
use Rattle.ale.specs.Interpretation.{structure_of}
use Rattle.ale.specs.PictureSignature.{picture_signature}
use Rattle.ale.specs.RowMap.{IsHomomorphism, bottom_at, label_agrees}
use Rattle.ale.specs.Structure.{Fits}
use Rattle.ale.specs.Table.{Table}
use Rattle.ale.specs.Tree.{Label, top}
use Rattle.evidence.proofs.NormalTables.{normal_some}
use Rattle.evidence.specs.Form.{map_form}
use Rattle.homomorphism.specs.Layout.{image_of}
use Rattle.homomorphism.specs.Map.{lowest_map, map_file}
use Rattle.meaning.specs.Meaning.{picture_table, picture_tree}
use Rattle.meaning.specs.NormalTable.{merged_count, merged_tree, normal_file, normal_tree_of}
use Rattle.picture.specs.Depth.{depth, depth_in}
use Rattle.picture.specs.Questions.{end_field, field_at, kind_ok, length_for, parent_ok, role_ok, row_field, tag_ok, value_field}
use Rattle.picture.specs.Read.{answer_of, reading_of, scan_from}
use Rattle.picture.specs.Readable.{Readable, row_count}
use Rattle.meaning.specs.Covering.{Covers}
use Rattle.subsumption.proofs.Writers.{verdict_covers}
use Rattle.subsumption.specs.Verdict.{evidence_of, map_of, verdict_of}
use Rattle.table.specs.Bounds.{bench_limits, max_rows}
use Rattle.table.specs.Fields.{end_bytes, ends_at, row_of}
use Rattle.table.specs.Number.{be, be_bytes}
use Rattle.workspace.specs.Prepare.{Acceptable}
use Rattle.interface.specs.Calls.{validate_word}
use Rattle.interface.specs.Starred.{empty, k1, k1_map}
use Rattle.interface.specs.StarredClaims.{HasRows, Holds, TakesEvidence, WritesEvidence}
use Rattle.interface.specs.Word.{outcome_yes}
use Rattle.interface.proofs.EndFields.{takes_map_end, writes_evidence}
use Rattle.interface.proofs.Words.{bench_bounded}

abbrev q : Table picture_signature
q = picture_table (normal_file bench_limits empty)

empty_tree : picture_tree bench_limits empty ≡ top picture_signature
unfolding be be_bytes end_bytes row_count
empty_tree = refl

empty_rows : q.rows ≡ 1
unfolding be be_bytes row_of end_bytes row_count merged_tree normal_tree_of normal_file
empty_rows = refl

-- the label of its one row
module _ (l : Label picture_signature) where
  empty_label_is : T (label_within picture_signature (q.label 0) l)
  unfolding be be_bytes row_of end_bytes row_count merged_tree normal_tree_of normal_file
  empty_label_is = tt

empty_readable : Readable bench_limits empty
unfolding be be_bytes end_bytes depth_in depth tag_ok length_for kind_ok role_ok parent_ok value_field row_field end_field field_at scan_from reading_of
empty_readable = record { rows = 1; reads = refl }

empty_counted : HasRows bench_limits empty 1
unfolding be be_bytes end_bytes depth_in depth tag_ok length_for kind_ok role_ok parent_ok value_field row_field end_field field_at scan_from reading_of answer_of validate_word
empty_counted = refl

empty_few : merged_count bench_limits empty ≤ max_rows
unfolding be be_bytes end_bytes row_count merged_tree merged_count
empty_few = omega arith

empty_form : map_form q.rows k1_map ≡ true
unfolding be be_bytes row_of end_bytes row_count merged_tree normal_tree_of normal_file map_form ends_at
empty_form = refl

empty_image : image_of k1_map 0 ≡ 0
unfolding be be_bytes end_bytes
empty_image = refl

module _ (first : List ℕ) (few : merged_count bench_limits first ≤ max_rows) where
  abbrev p : Table picture_signature
  p = picture_table (normal_file bench_limits first)

  only : (i : ℕ) → i < q.rows → 0 ≡ i
  only i l = omega (arith, empty_rows)

  empty_map : IsHomomorphism picture_signature p q (image_of k1_map)
  empty_map =
      let some : 0 < p.rows = normal_some bench_limits first bench_bounded few in
      record {
        inside = λ i l. subst (λ j. image_of k1_map j < p.rows) (only i l) (omega (arith, empty_image));
        root = empty_image;
        labels = λ i l. subst (λ j. T (label_agrees picture_signature p q j (image_of k1_map j))) (only i l)
            (or_right (bottom_at picture_signature p (image_of k1_map 0)) (label_within picture_signature (q.label 0) (p.label (image_of k1_map 0))) (empty_label_is (p.label (image_of k1_map 0))));
        edges = λ i l z. absurd (z (sym (only i l)));
      }

  -- what is written where the verdict is yes
  empty_evidence : verdict_of bench_limits first empty ≡ true → evidence_of bench_limits first empty ≡ k1_map
  unfolding be be_bytes row_of end_bytes row_count merged_tree normal_tree_of normal_file evidence_of map_of lowest_map map_file
  empty_evidence yes-is = rw yes-is

  -- and so it is, as the empty row covers the picture
  module _ (readable : Readable bench_limits first) (covers : Covers bench_limits empty first) where
    abbrev pair : Acceptable bench_limits first empty
    pair = record { first_readable = readable; second_readable = empty_readable; first_few = few; second_few = empty_few }

    empty_writes : WritesEvidence bench_limits first empty outcome_yes k1_map
    empty_writes =
        let decided = (verdict_covers bench_limits first empty bench_bounded pair).0 covers in
        writes_evidence bench_limits bench_bounded first empty pair k1_map (empty_evidence decided) true decided

    empty_taken : TakesEvidence bench_limits first empty outcome_yes k1_map
    empty_taken =
        takes_map_end bench_limits bench_bounded first empty pair k1_map
        (record { form = empty_form; maps = empty_map })

-- whatever fits a picture fits the empty row
empty_covers : (first : List ℕ) → Covers bench_limits empty first
empty_covers first =
    (subsumed_concepts picture_signature (picture_tree bench_limits first) (picture_tree bench_limits empty)).0
    (λ I x l f.
    subst (λ t. Fits picture_signature (structure_of picture_signature I) t x) (sym empty_tree)
    (satisfies_empty_label picture_signature (structure_of picture_signature I) x, tt))

pub empty_subsumes : Holds bench_limits k1
empty_subsumes = (
  empty_counted,
  λ first readable.
      let covers = empty_covers first in
      (covers, λ few. (empty_writes first few readable covers, empty_taken first few readable covers)),
)
