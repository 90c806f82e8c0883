-- Laws of the verdict as the code makes it, from the tables in the work space, and of the call by its tests.
--   settled                              the normal tables of a pair have all that the search and the writers need,
--   evidence_in_is, verdict_in_is              and what they decide is what the definition says of the pictures
--   map_fits, mapped                     a map has room; it is there where the search said yes
--   decided_yes, decided_no              the answer and the evidence over what the search said
--   Gives, prepared_call                 the answer and both buffers, by what the questions answer
--   tables_settled, tables_decided       the same of the parts of the work space that are the normal tables
use Prim.Native.Nat.{◌+◌, ◌≤◌, ℕ}
use lib.ListN.{length}
use mathlib.Core.Bool.{Bool, false, true}
use mathlib.Core.List.{List}
use mathlib.Core.Path.{◌∙◌, ◌≡◌, ap, subst, sym}
use native.Mathlib.Omega.{arith}
use Rattle.std.proofs.Common.{Ok, Result}
use Rattle.ale.specs.Countermodel.{countermodel}
use Rattle.ale.specs.PictureSignature.{picture_signature}
use Rattle.ale.specs.RowMap.{image}
use Rattle.countermodel.proofs.Individuals.{within_most}
use Rattle.refutation_writer.specs.Refuting.{against_tree}
use Rattle.countermodel.specs.Writing.{refutation_file}
use Rattle.refutation_writer.specs.Writing.{RefutationRoom}
use Rattle.prepare_pair.proofs.TablesIn.{on_tables}
use Rattle.prepare_pair.specs.Tables.{NormalTables, work_under}
use Rattle.homomorphism.proofs.MapFiles.{length_map_file}
use Rattle.homomorphism_search.proofs.NormalMaps.{normal_maps}
use Rattle.homomorphism.specs.Layout.{image_place}
use Rattle.homomorphism.specs.Map.{lowest_map}
use Rattle.homomorphism_search.specs.Search.{Found, Mapped, Shallow, row_maps, tree_at}
use Rattle.meaning.proofs.Normals.{normal_meaning, normal_readable}
use Rattle.meaning.proofs.Pictures.{picture_ranked}
use Rattle.meaning.specs.Meaning.{picture_table}
use Rattle.meaning.specs.NormalTable.{normal_file, normal_tree_of}
use Rattle.row_sets.specs.Rows.{Checked}
use Rattle.picture.specs.Asked.{kept, on_asked, Asked}
use Rattle.picture.specs.Depth.{depth}
use Rattle.picture.specs.Readable.{Readable}
use Rattle.table.specs.Fields.{parent_of}
use Rattle.table.specs.Bounds.{Bounded}
use Rattle.table.specs.Layout.{end_size}
use Rattle.table.specs.Pick.{pick}
use Rattle.table.specs.Put.{put}
use Rattle.table.specs.declared.layout.Limits.{Limits}
use Rattle.workspace.specs.Lent.{roomy}
use Rattle.workspace.specs.Prepare.{Acceptable}
use Rattle.prepare_pair.specs.declared.prepare.Pair.{Pair}
use Rattle.subsumption.specs.Call.{verdict_answer}
use Rattle.subsumes.specs.Tables.{Settled, evidence_in, verdict_in}
use Rattle.subsumption.specs.Verdict.{evidence_of, evidence_size, map_of, refutation_of, verdict_of}
use Rattle.subsumption.specs.declared.verdict.Verdict.TheVariants.{No, Yes}
use Rattle.subsumption.proofs.Writers.{individuals_few, map_size}
use Rattle.definitions.specs.Unfolded.{unfolded_file}
use Rattle.under.proofs.Asked.{subsumes_asked_is, subsumes_result_asked, subsumes_work_asked}
use Rattle.under.specs.Asked.{pair_asked_under, subsumes_asked_under}
use Rattle.subsumption.specs.declared.verdict.Verdict.{Verdict}
use Rattle.picture.specs.declared.answer.Refusal.{Refusal}
use Rattle.under.specs.Calls.{subsumes_result_under, subsumes_under, subsumes_work_under}

-- ---- the normal tables of a pair

-- a readable picture's rows stand no deeper than the limit
shallow : (limits : Limits) (s : List ℕ) → Readable limits s → Shallow s limits.depth
shallow limits s readable = record { rank = depth (parent_of s); ranked = picture_ranked limits s readable }

module _ (limits : Limits) (first second : List ℕ) (bounded : Bounded limits) (pair : Acceptable limits first second) where
  first_tree : tree_at (normal_file limits first) limits.depth 0 ≡ normal_tree_of limits first
  first_tree = normal_meaning limits first pair.first_few bounded

  second_tree : tree_at (normal_file limits second) limits.depth 0 ≡ normal_tree_of limits second
  second_tree = normal_meaning limits second pair.second_few bounded

  against_is : against_tree (normal_file limits first) (normal_file limits second) limits.depth 0 0
      ≡ countermodel picture_signature (normal_tree_of limits second) (normal_tree_of limits first)
  unfolding against_tree
  against_is =
      ap (λ t. countermodel picture_signature t (tree_at (normal_file limits first) limits.depth 0)) second_tree
      ∙ ap (λ t. countermodel picture_signature (normal_tree_of limits second) t) first_tree

  maps_is : row_maps (normal_file limits first) (normal_file limits second) limits.depth 0 0 ≡ verdict_of limits first second
  unfolding verdict_of
  maps_is = normal_maps limits first second bounded pair.first_few pair.second_few

  pub settled : (room : ℕ) → evidence_size limits ≤ room → Settled (normal_file limits first) (normal_file limits second) limits.depth room
  unfolding map_of lowest_map
  settled room long =
      let p = picture_table (normal_file limits first) in
      let q = picture_table (normal_file limits second) in
      let few = individuals_few limits first second bounded pair in
      record {
        first_shallow = shallow limits (normal_file limits first) (normal_readable limits first pair.first_few bounded);
        second_shallow = shallow limits (normal_file limits second) (normal_readable limits second pair.second_few bounded);
        map_room = omega (arith, long, map_size limits first second bounded pair, length_map_file q.rows (image picture_signature p q));
        refutation_room = subst (λ t. RefutationRoom t room) (sym against_is) (record {
          most = omega (arith, few, within_most limits bounded);
          fits = omega (arith, few, long);
        });
      }

  pub evidence_in_is : evidence_in (normal_file limits first) (normal_file limits second) limits.depth ≡ evidence_of limits first second
  unfolding evidence_in evidence_of map_of refutation_of
  evidence_in_is =
      ap (λ b. pick b (map_of limits first second) (refutation_file (against_tree (normal_file limits first) (normal_file limits second) limits.depth 0 0))) maps_is
      ∙ ap (λ t. pick (verdict_of limits first second) (map_of limits first second) (refutation_file t)) against_is

  pub verdict_in_is : verdict_in (normal_file limits first) (normal_file limits second) limits.depth ≡ verdict_answer limits first second
  unfolding verdict_in verdict_answer
  verdict_in_is = rw (maps_is, evidence_in_is)

-- ---- on two tables

module _ (s t : List ℕ) (depth : ℕ) where
  pub map_fits : (m room : ℕ) → Checked t m → Settled s t depth room → image_place m + end_size ≤ room
  map_fits m room checked settled = omega (arith, checked.counted, settled.map_room)

  -- what the search said
  module _ (says : Bool) (is : says ≡ row_maps s t depth 0 0) where
    pub mapped : (room : ℕ) (found : List ℕ) → Settled s t depth room → (says ≡ true → Found s t found depth 0 0) → says ≡ true → Mapped s t found
    mapped room found settled kept said =
        record {
          depth = depth;
          first_shallow = settled.first_shallow;
          second_shallow = settled.second_shallow;
          maps = sym is ∙ said;
          images = kept said;
        }

    module _ (n : ℕ) (out end : List ℕ) where
      pub decided_yes : says ≡ true →
          n ≡ length (lowest_map (picture_table s) (picture_table t)) → end ≡ put out 0 (lowest_map (picture_table s) (picture_table t)) →
          (Yes n ≡ verdict_in s t depth) × (end ≡ put out 0 (evidence_in s t depth))
      unfolding verdict_in evidence_in
      decided_yes said long written = let maps = sym is ∙ said in (rw (maps, long), rw maps written)

      pub decided_no : says ≡ false →
          n ≡ length (refutation_file (against_tree s t depth 0 0)) → end ≡ put out 0 (refutation_file (against_tree s t depth 0 0)) →
          (No n ≡ verdict_in s t depth) × (end ≡ put out 0 (evidence_in s t depth))
      unfolding verdict_in evidence_in
      decided_no said long written = let maps = sym is ∙ said in (rw (maps, long), rw maps written)

-- ---- the call by its tests

module _ (limits : Limits) (bounded : Bounded limits) (tbox first second work result : List ℕ) where
  abbrev pub Gives : Result Verdict Refusal → List ℕ → List ℕ → Type 0
  Gives answer space buffer =
      (answer ≡ subsumes_under limits tbox first second (length work) (length result))
      × ((space ≡ subsumes_work_under limits tbox first second work (length result))
      × (buffer ≡ subsumes_result_under limits tbox first second (length work) result))

  abbrev u : List ℕ
  u = unfolded_file limits tbox first

  abbrev v : List ℕ
  v = unfolded_file limits tbox second

  -- b is the answer to 1, a what the questions answer, `space` what `prepare` has left
  pub prepared_call : (b : Bool) → b ≡ roomy limits (evidence_size limits) (length work) (length result) →
      (a : Asked) → pair_asked_under limits tbox b first second ≡ a → (space : List ℕ) →
      space ≡ work_under limits tbox first second b work →
      Gives (on_asked a (Ok (verdict_answer limits u v))) space (kept a (put result 0 (evidence_of limits u v)) result)
  prepared_call b room a is space written =
      let asks : subsumes_asked_under limits tbox first second (length work) (length result) ≡ a =
      ap (λ q. pair_asked_under limits tbox q first second) (sym room) ∙ is in (
        sym (subsumes_asked_is limits bounded tbox first second (length work) (length result) ∙ rw asks),
        (
          written ∙ ap (λ q. work_under limits tbox first second q work) room
              ∙ sym (subsumes_work_asked limits bounded tbox first second work (length result)),
          sym (subsumes_result_asked limits bounded tbox first second (length work) result ∙ rw asks),
        ),
      )

-- ---- the parts of the work space that are the normal tables

module _ {limits : Limits} {first second s t : List ℕ} {pair : Pair} (bounded : Bounded limits)
    (tables : NormalTables limits first second pair s t) where
  pub tables_settled : (room : ℕ) → evidence_size limits ≤ room → Settled s t limits.depth room
  tables_settled room long =
      on_tables tables (λ s t. Settled s t limits.depth room)
      (settled limits first second bounded tables.accepted room long)

  pub tables_decided : (r : Verdict) (out end : List ℕ) → r ≡ verdict_in s t limits.depth →
      end ≡ put out 0 (evidence_in s t limits.depth) →
      (r ≡ verdict_answer limits first second) × (end ≡ put out 0 (evidence_of limits first second))
  tables_decided r out end decides writes = (
    decides ∙ on_tables tables (λ s t. verdict_in s t limits.depth ≡ verdict_answer limits first second)
        (verdict_in_is limits first second bounded tables.accepted),
    writes ∙ ap (λ e. put out 0 e)
        (on_tables tables (λ s t. evidence_in s t limits.depth ≡ evidence_of limits first second)
        (evidence_in_is limits first second bounded tables.accepted)),
  )
