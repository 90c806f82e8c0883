-- What we write is evidence, for any two acceptable pictures: a map where the second picture covers the first, else a refutation.
--   homomorphism_agrees              images that agree on the rows with those of a homomorphism are one
--   verdict_covers, verdict_fails    the verdict is yes exactly if the second covers the first (003, Theorem 41, and Table 1), else no
--   map_written                      where it is yes, our file is a map of the two normal tables
--   refutation_written               where it is no, our file is a refutation, whose individual 0 fits the first and not the second
--   yes_written, no_written          so the evidence is a map of the pair if the verdict is yes, else a refutation
--   map_size, refutation_size, evidence_size_is      it is never longer than the length laid down
--   map_bytes_is, refutation_bytes, evidence_bytes   and it is bytes
use Prim.Native.Nat.{◌*◌, ◌<◌, ◌^◌, ◌≤◌, ℕ}
use borrow.Author.Tests.{eq-eqb}
use lib.Dec.{T}
use lib.ListN.{get_or, length}
use mathlib.Core.Bool.{false, true}
use mathlib.Core.List.{List}
use mathlib.Core.Logic.{◌↔◌}
use mathlib.Core.Path.{◌∙◌, ◌≡◌, subst, sym}
use native.Mathlib.Omega.{arith}
use Rattle.ale.proofs.CountermodelRoles.{countermodel_known}
use Rattle.ale.proofs.LowestMap.{lowest_homomorphism}
use Rattle.ale.proofs.Sizes.{countermodel_bound}
use Rattle.ale.proofs.Subsumption.{not_subsumed}
use Rattle.ale.specs.Countermodel.{countermodel, encoded_inhabited, numbered}
use Rattle.ale.specs.Encoding.{encode, encoded}
use Rattle.ale.specs.Homomorphism.{maps_to}
use Rattle.ale.specs.Interpretation.{structure_of}
use Rattle.ale.specs.PictureSignature.{picture_signature}
use Rattle.ale.specs.RowMap.{IsHomomorphism, edge_agrees, image, label_agrees}
use Rattle.ale.specs.Signature.{Signature}
use Rattle.ale.specs.Structure.{Fits}
use Rattle.ale.specs.Table.{KnownRoles, ParentsFirst, Table}
use Rattle.ale.specs.Tree.{Tree}
use Rattle.countermodel.proofs.Individuals.{within_most}
use Rattle.countermodel.proofs.Refutables.{length_refutation_file, refutation_file_count, refutation_file_fits, refutation_file_form, refutation_file_passes}
use Rattle.countermodel.specs.Layout.{individual_count, individuals_within}
use Rattle.countermodel.specs.Model.{row_tree}
use Rattle.countermodel.specs.Writing.{refutation_file}
use Rattle.evidence.proofs.NormalTables.{normal_row_tree, normal_rows, normal_some}
use Rattle.evidence.specs.Form.{map_form}
use Rattle.evidence.specs.Taken.{MapOf, RefutationOf}
use Rattle.homomorphism.proofs.MapFiles.{length_map_file, map_file_ends, map_file_image, map_file_says, map_file_tag}
use Rattle.homomorphism.specs.Layout.{image_of, map_tag}
use Rattle.homomorphism.specs.Map.{lowest_map, map_file}
use Rattle.meaning.proofs.Coverings.{covers_exactly, covers_not}
use Rattle.meaning.proofs.Normals.{normal_count, normal_readable}
use Rattle.meaning.proofs.Pictures.{picture_known, picture_parents}
use Rattle.meaning.specs.Covering.{Covers, covers}
use Rattle.meaning.specs.Meaning.{picture_table, picture_tree}
use Rattle.meaning.specs.NormalTable.{merged_count, normal_file, normal_tree_of}
use Rattle.table.proofs.Bools.{by_test, false_is, true_is}
use Rattle.table.specs.Bounds.{Bounded}
use Rattle.table.specs.Layout.{length_offset, number_size}
use Rattle.table.specs.Number.{Bytes, be}
use Rattle.table.specs.declared.layout.Limits.{Limits}
use Rattle.workspace.specs.Prepare.{Acceptable}
use Rattle.subsumption.specs.Verdict.{evidence_of, evidence_size, map_of, refutation_of, verdict_of}
use Rattle.subsumption.proofs.EvidenceBytes.{bytes_map, bytes_refutation}

pub homomorphism_agrees : (S : Signature) (p q : Table S) (im new : ℕ → ℕ) → ParentsFirst S q → 0 < q.rows →
    ((i : ℕ) → i < q.rows → new i ≡ im i) → IsHomomorphism S p q im → IsHomomorphism S p q new
homomorphism_agrees S p q im new up some same h =
    record {
      inside = λ i l. omega (arith, same i l, h.inside i l);
      root = same 0 some ∙ h.root;
      labels = λ i l. subst (λ v. T (label_agrees S p q i v)) (sym (same i l)) (h.labels i l);
      edges = λ i l z.
          let above = up i l z in
          subst (λ u. T (edge_agrees S p q i u (new i))) (sym (same (q.parent i) (omega arith)))
          (subst (λ v. T (edge_agrees S p q i (im (q.parent i)) v)) (sym (same i l)) (h.edges i l z));
    }

module _ (limits : Limits) (first second : List ℕ) (bounded : Bounded limits) (pair : Acceptable limits first second) where
  abbrev p : Table picture_signature
  p = picture_table (normal_file limits first)

  abbrev q : Table picture_signature
  q = picture_table (normal_file limits second)

  -- ---- the verdict

  pub verdict_covers : Covers limits second first ↔ (verdict_of limits first second ≡ true)
  unfolding verdict_of
  verdict_covers = covers_exactly limits first second pair.first_readable pair.second_readable

  pub verdict_fails : (verdict_of limits first second ≡ false) ↔ (Covers limits second first → ⊥)
  unfolding verdict_of
  verdict_fails = covers_not limits first second pair.first_readable pair.second_readable

  -- ---- the map

  normal_few : (s : List ℕ) → merged_count limits s ≤ limits.rows → (picture_table (normal_file limits s)).rows ≤ limits.rows
  normal_few s few = omega (arith, normal_rows limits s bounded few, normal_count limits s)

  parents : (s : List ℕ) → merged_count limits s ≤ limits.rows → ParentsFirst picture_signature (picture_table (normal_file limits s))
  parents s few = picture_parents limits (normal_file limits s) (normal_readable limits s few bounded)

  lowest : verdict_of limits first second ≡ true → IsHomomorphism picture_signature p q (image picture_signature p q)
  unfolding verdict_of covers
  lowest e =
      let trees = subst (λ d. T (maps_to picture_signature d (row_tree p 0))) (sym (normal_row_tree limits second bounded pair.second_few))
      (subst (λ v. T (maps_to picture_signature (normal_tree_of limits second) v)) (sym (normal_row_tree limits first bounded pair.first_few))
      (true_is (verdict_of limits first second) e)) in
      lowest_homomorphism picture_signature p q (parents first pair.first_few) (parents second pair.second_few)
      (normal_some limits first bounded pair.first_few) trees (normal_some limits second bounded pair.second_few)

  pub map_written : verdict_of limits first second ≡ true → MapOf limits first second (map_of limits first second)
  unfolding map_of lowest_map map_form
  map_written e =
      let im = image picture_signature p q in
      let few = normal_few first pair.first_few in
      let few₂ = normal_few second pair.second_few in
      let h = lowest e in
      record {
        form =
            rw (
              map_file_ends q.rows im,
              eq-eqb (get_or (map_file q.rows im) 0 0) map_tag (map_file_tag q.rows im),
              eq-eqb (be (map_file q.rows im) length_offset number_size) (number_size * q.rows) (map_file_says q.rows im (omega (arith, bounded.0))),
            );
        maps =
            homomorphism_agrees picture_signature p q im (image_of (map_file q.rows im)) (parents second pair.second_few)
            (normal_some limits second bounded pair.second_few) (λ i l. map_file_image q.rows im i l (omega (arith, bounded.0, h.inside i l))) h;
      }

  -- ---- the refutation

  abbrev b : Tree picture_signature
  b = countermodel picture_signature (normal_tree_of limits second) (normal_tree_of limits first)

  pub individuals_few : length (encode picture_signature b) ≤ individuals_within limits
  unfolding normal_tree_of
  individuals_few =
      let count = normal_count limits first in
      countermodel_bound picture_signature (picture_table first) (picture_table second) limits.depth limits.rows (omega (arith, pair.first_few))

  numbers_fit : length (encode picture_signature b) ≤ 256 ^ number_size
  numbers_fit = omega (arith, individuals_few, within_most limits bounded)

  known : KnownRoles picture_signature (encoded picture_signature b)
  unfolding normal_tree_of
  known = countermodel_known picture_signature (omega arith) (picture_table first) (picture_table second) limits.depth limits.depth

  refutes : verdict_of limits first second ≡ false →
      let I = structure_of picture_signature (numbered picture_signature b) in
      Fits picture_signature I (picture_tree limits first) 0 × (Fits picture_signature I (picture_tree limits second) 0 → ⊥)
  unfolding verdict_of covers normal_tree_of
  refutes e =
      not_subsumed picture_signature (picture_table first) (picture_table second)
      (picture_known limits first pair.first_readable) (picture_known limits second pair.second_readable) limits.depth limits.depth
      (false_is (verdict_of limits first second) e)

  pub refutation_written : verdict_of limits first second ≡ false → RefutationOf limits first second (refutation_of limits first second)
  unfolding refutation_of
  refutation_written e =
      let some : 0 < individual_count (refutation_file b) = omega (arith, refutation_file_count b, encoded_inhabited picture_signature b) in
      let same = refutation_file_fits b numbers_fit some in
      let (fits, fails) = refutes e in
      record {
        form = refutation_file_form b limits individuals_few;
        passed = refutation_file_passes b numbers_fit known;
        some = some;
        fits = (same (picture_tree limits first)).1 fits;
        fails = λ f. fails ((same (picture_tree limits second)).0 f);
      }

  -- ---- it is evidence of its kind

  pub yes_written : verdict_of limits first second ≡ true → MapOf limits first second (evidence_of limits first second)
  unfolding evidence_of
  yes_written e = rw e (map_written e)

  pub no_written : verdict_of limits first second ≡ false →
      RefutationOf limits first second (evidence_of limits first second)
  unfolding evidence_of
  no_written e = rw e (refutation_written e)

  -- ---- its length

  pub map_size : length (map_of limits first second) ≤ evidence_size limits
  unfolding map_of lowest_map
  map_size =
      omega (arith, length_map_file q.rows (image picture_signature p q), normal_few second pair.second_few, normal_some limits second bounded pair.second_few)

  pub refutation_size : length (refutation_of limits first second) ≤ evidence_size limits
  unfolding refutation_of
  refutation_size = omega (arith, length_refutation_file b, individuals_few)

  pub evidence_size_is : length (evidence_of limits first second) ≤ evidence_size limits
  unfolding evidence_of
  evidence_size_is = by_test (verdict_of limits first second) (λ e. rw e map_size) (λ e. rw e refutation_size)

  -- ---- its bytes

  pub map_bytes_is : Bytes (map_of limits first second)
  unfolding map_of lowest_map
  map_bytes_is = bytes_map q.rows (image picture_signature p q)

  pub refutation_bytes : Bytes (refutation_of limits first second)
  unfolding refutation_of
  refutation_bytes = bytes_refutation b (λ k l. omega (arith, known k l))

  pub evidence_bytes : Bytes (evidence_of limits first second)
  unfolding evidence_of
  evidence_bytes = by_test (verdict_of limits first second) (λ e. rw e map_bytes_is) (λ e. rw e refutation_bytes)
