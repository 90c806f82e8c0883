-- Conditions 2 and 3 under a definitions book, of the verdict and of evidence: those without a book, of the unfolded
-- pictures, with covering under the book.
--   kind_shown                    evidence is taken only with room and of an acceptable pair, and is of its kind,
--   map_shown, refutation_shown   so it is a map, or a refutation, of the unfolded pictures, whatever bytes are given
--   verdict_covers_under, verdict_fails_under   the verdict on the unfolded pictures is yes exactly if the second
--                                 covers the first under the book, else no
--   map_covers_under, refutation_fails_under    a map shows that the second covers the first under the book, a
--                                 refutation that it does not, whatever it says of defined names
--   takes_map, takes_refutation   every map and every refutation of the unfolded pictures is taken
--   yes_taken, no_taken           so the evidence of the unfolded pictures is
--   some_map, some_refutation     some bytes are taken as a map exactly if the second covers the first, as a
--                                 refutation exactly if it does not
--   verdict_given_is, evidence_left  with room that verdict is given, and that evidence is in the result buffer,
--   yes_exactly, no_exactly       so yes is answered exactly if the second covers the first, and no exactly if not
--   normal_under                  the normal table of an unfolded picture is fitted by what fits the picture
use Prim.Native.Nat.{◌<◌, ◌≤◌, ℕ}
use lib.ListN.{length}
use mathlib.Core.Bool.{Bool, false, true}
use mathlib.Core.List.{List}
use mathlib.Core.Logic.{◌↔◌, ◌⊎◌, inl, inr}
use mathlib.Core.Path.{◌∙◌, ◌≡◌, ap, sym}
use native.Mathlib.Omega.{arith}
use Rattle.std.proofs.Common.{Ok, Result}
use Rattle.table.proofs.Bools.{by_test}
use Rattle.table.specs.Bounds.{Bounded}
use Rattle.table.specs.Number.{Bytes}
use Rattle.table.specs.Pick.{pick}
use Rattle.table.specs.Put.{put}
use Rattle.table.specs.declared.layout.Limits.{Limits}
use Rattle.ale.proofs.Concepts.{extension_fits, fits_extension}
use Rattle.ale.specs.Interpretation.{Interpretation, structure_of}
use Rattle.ale.specs.PictureSignature.{picture_signature}
use Rattle.picture.proofs.Keeping.{kept_yes}
use Rattle.picture.proofs.Orders.{given, on_yes}
use Rattle.picture.specs.Readable.{Readable}
use Rattle.picture.specs.declared.answer.Refusal.{Refusal}
use Rattle.meaning.proofs.Normals.{normal_file_equivalent}
use Rattle.meaning.specs.Covering.{Covers}
use Rattle.meaning.specs.Meaning.{picture_tree}
use Rattle.meaning.specs.NormalTable.{merged_count, normal_file}
use Rattle.workspace.specs.Prepare.{Acceptable, work_size}
use Rattle.evidence.proofs.Soundness.{TakenAs, evidence_taken, map_covers, map_taken, refutation_fails, refutation_taken}
use Rattle.evidence.specs.Call.{evidence_kind}
use Rattle.evidence.specs.Taken.{MapOf, RefutationOf}
use Rattle.evidence.specs.declared.check.Taken.TheVariants.{Map, Refutation}
use Rattle.subsumption.proofs.Writers.{evidence_bytes, no_written, verdict_covers, verdict_fails, yes_written}
use Rattle.subsumption.specs.Call.{verdict_answer}
use Rattle.subsumption.specs.Verdict.{evidence_of, evidence_size, verdict_of}
use Rattle.subsumption.specs.declared.verdict.Verdict.TheVariants as verdict
use Rattle.subsumption.specs.declared.verdict.Verdict.{Verdict}
use Rattle.definitions.proofs.Coverings.{belongs_unfolded}
use Rattle.definitions.proofs.Unfolds.{unfolded_readable}
use Rattle.definitions.specs.Covering.{Belongs, CoversUnder, RespectsBook}
use Rattle.definitions.specs.Unfolded.{Definable, Unfolds, unfolded_file}
use Rattle.under.specs.Calls.{subsumes_result_under, subsumes_under, verify_under}
use Rattle.under.specs.Given.{AcceptableUnder}
use Rattle.under.proofs.Answers.{pair_yes, verify_yes}
use Rattle.under.proofs.Calls.{pair_all, subsumes_all_is, subsumes_result_all, verify_all_is, verify_all}
use Rattle.evidence.specs.declared.check.Taken.{Taken}
use Rattle.under.proofs.Givens.{acceptable_prepared, acceptable_unfolded, covers_same}

module _ (limits : Limits) (bounded : Bounded limits) (tbox : List ℕ) where
  module _ (first second : List ℕ) where
    abbrev p : List ℕ
    p = unfolded_file limits tbox first

    abbrev q : List ℕ
    q = unfolded_file limits tbox second

    abbrev Covered : Type 0
    Covered = CoversUnder limits tbox second first

    -- ---- evidence, whatever bytes are given

    module _ (e : List ℕ) (room : ℕ) where
      pub kind_shown : (kind : Taken) → verify_under limits tbox first second e room ≡ Ok kind →
          (work_size limits ≤ room) × AcceptableUnder limits tbox first second × TakenAs limits p q e kind
      kind_shown kind h =
          let (all, same) = given (Ok (evidence_kind limits q e)) kind (verify_all limits tbox first second e room)
          (sym (verify_all_is limits tbox first second e room) ∙ h) in
          let is : evidence_kind limits q e ≡ kind = cc in
          let (enough, ok, taken) = (verify_yes limits bounded tbox first second e room).0 all in
          let base = acceptable_unfolded limits tbox first second bounded ok in
          (enough, ok, ((evidence_taken limits p q e bounded base).1 taken, is))

      pub map_shown : verify_under limits tbox first second e room ≡ Ok Map →
          AcceptableUnder limits tbox first second × MapOf limits p q e
      map_shown h =
          let (enough, ok, taken) = kind_shown Map h in
          (ok, (map_taken limits p q e bounded (acceptable_unfolded limits tbox first second bounded ok)).0 taken)

      pub refutation_shown : verify_under limits tbox first second e room ≡ Ok Refutation →
          AcceptableUnder limits tbox first second × RefutationOf limits p q e
      refutation_shown h =
          let (enough, ok, taken) = kind_shown Refutation h in
          let base = acceptable_unfolded limits tbox first second bounded ok in
          (ok, (refutation_taken limits p q e bounded base).0 taken)

    module _ (ok : AcceptableUnder limits tbox first second) where
      abbrev base : Acceptable limits p q
      base = acceptable_unfolded limits tbox first second bounded ok

      same : Covered ↔ Covers limits q p
      same = covers_same limits tbox first second bounded (acceptable_prepared limits tbox first second ok)

      -- ---- the verdict

      pub verdict_covers_under : Covered ↔ (verdict_of limits p q ≡ true)
      verdict_covers_under =
          let (to, from) = verdict_covers limits p q bounded base in
          (λ c. to (same.0 c), λ e. same.1 (from e))

      pub verdict_fails_under : (verdict_of limits p q ≡ false) ↔ (Covered → ⊥)
      verdict_fails_under =
          let (to, from) = verdict_fails limits p q bounded base in
          (λ e c. to e (same.0 c), λ u. from (λ c. u (same.1 c)))

      -- ---- what evidence shows

      pub map_covers_under : (e : List ℕ) → MapOf limits p q e → Covered
      map_covers_under e m = same.1 (map_covers limits p q e bounded base m)

      pub refutation_fails_under : (e : List ℕ) → RefutationOf limits p q e → Covered → ⊥
      refutation_fails_under e r c = refutation_fails limits p q e bounded base r (same.0 c)

      -- ---- with a work space of the length laid down

      module _ (room : ℕ) (enough : work_size limits ≤ room) where
        taken_as : (e : List ℕ) (kind : Taken) → MapOf limits p q e ⊎ RefutationOf limits p q e →
            evidence_kind limits q e ≡ kind → verify_under limits tbox first second e room ≡ Ok kind
        taken_as e kind is h =
            verify_all_is limits tbox first second e room
            ∙ on_yes (Ok (evidence_kind limits q e)) (verify_all limits tbox first second e room)
            ((verify_yes limits bounded tbox first second e room).1 (enough, ok, is)) ∙ ap Ok h

        pub takes_map : (e : List ℕ) → MapOf limits p q e → verify_under limits tbox first second e room ≡ Ok Map
        takes_map e m = taken_as e Map (inl m) ((map_taken limits p q e bounded base).1 m).1

        pub takes_refutation : (e : List ℕ) → RefutationOf limits p q e →
            verify_under limits tbox first second e room ≡ Ok Refutation
        takes_refutation e r = taken_as e Refutation (inr r) ((refutation_taken limits p q e bounded base).1 r).1

        pub yes_taken : verdict_of limits p q ≡ true →
            verify_under limits tbox first second (evidence_of limits p q) room ≡ Ok Map
        yes_taken e = takes_map (evidence_of limits p q) (yes_written limits p q bounded base e)

        pub no_taken : verdict_of limits p q ≡ false →
            verify_under limits tbox first second (evidence_of limits p q) room ≡ Ok Refutation
        no_taken e = takes_refutation (evidence_of limits p q) (no_written limits p q bounded base e)

        -- some bytes are taken as a kind
        abbrev SomeTaken : Taken → Type 0
        SomeTaken kind = (e : List ℕ) × Bytes e × (verify_under limits tbox first second e room ≡ Ok kind)

        pub some_map : SomeTaken Map ↔ Covered
        some_map = (
          λ (e, bytes, h). map_covers_under e (map_shown e room h).1,
          λ c. (
            evidence_of limits p q,
            evidence_bytes limits p q bounded base,
            yes_taken (verdict_covers_under.0 c),
          ),
        )

        pub some_refutation : SomeTaken Refutation ↔ (Covered → ⊥)
        some_refutation = (
          λ (e, bytes, h). refutation_fails_under e (refutation_shown e room h).1,
          λ u. (
            evidence_of limits p q,
            evidence_bytes limits p q bounded base,
            no_taken (verdict_fails_under.1 u),
          ),
        )

        -- ---- and a result buffer of the length laid down

        pub verdict_given_is : (result : ℕ) → evidence_size limits ≤ result →
            subsumes_under limits tbox first second room result ≡ Ok (verdict_answer limits p q)
        verdict_given_is result long =
            subsumes_all_is limits tbox first second room result
            ∙ on_yes (Ok (verdict_answer limits p q))
            (pair_all limits tbox first second (evidence_size limits) room result)
            ((pair_yes limits bounded tbox first second (evidence_size limits) room result).1 (enough, long, ok))

        pub evidence_left : (result : List ℕ) → evidence_size limits ≤ length result →
            subsumes_result_under limits tbox first second room result ≡ put result 0 (evidence_of limits p q)
        evidence_left result long =
            subsumes_result_all limits tbox first second room result
            ∙ kept_yes (put result 0 (evidence_of limits p q)) result
            (pair_all limits tbox first second (evidence_size limits) room (length result))
            ((pair_yes limits bounded tbox first second (evidence_size limits) room (length result)).1
            (enough, long, ok))

        module _ (result : ℕ) (long : evidence_size limits ≤ result) where
          abbrev size : ℕ
          size = length (evidence_of limits p q)

          answers : (v : Bool) → verdict_of limits p q ≡ v →
              subsumes_under limits tbox first second room result ≡ Ok (pick v (verdict.Yes size) (verdict.No size))
          unfolding verdict_answer
          answers v e =
              verdict_given_is result long ∙ ap (λ (b : Bool). Ok (pick b (verdict.Yes size) (verdict.No size))) e

          pub yes_exactly : (subsumes_under limits tbox first second room result ≡ Ok (verdict.Yes size)) ↔ Covered
          yes_exactly = (
            λ h. by_test (verdict_of limits p q) (λ e. verdict_covers_under.1 e)
                (λ e. absurd (other (sym (answers false e) ∙ h))),
            λ c. answers true (verdict_covers_under.0 c),
          )
            where
              other : ◌≡◌ {A = Result Verdict Refusal} (Ok (verdict.No size)) (Ok (verdict.Yes size)) → ⊥
              other is = let z : ◌≡◌ {A = ℕ} 0 1 = cc in omega arith

          pub no_exactly : (subsumes_under limits tbox first second room result ≡ Ok (verdict.No size)) ↔ (Covered → ⊥)
          no_exactly = (
            λ h. by_test (verdict_of limits p q) (λ e. absurd (other (sym (answers true e) ∙ h)))
                (λ e. verdict_fails_under.0 e),
            λ u. answers false (verdict_fails_under.1 u),
          )
            where
              other : ◌≡◌ {A = Result Verdict Refusal} (Ok (verdict.Yes size)) (Ok (verdict.No size)) → ⊥
              other is = let z : ◌≡◌ {A = ℕ} 0 1 = cc in omega arith

  -- ---- one picture

  module _ (s : List ℕ) (ok : Definable limits tbox) (r : Readable limits s) (u : Unfolds limits tbox s) where
    abbrev spelled : List ℕ
    spelled = unfolded_file limits tbox s

    pub normal_under : merged_count limits spelled ≤ limits.rows →
        (I : Interpretation picture_signature) → RespectsBook limits tbox I → (x : ℕ) → x < I.count →
        Belongs limits I (normal_file limits spelled) x ↔ Belongs limits I s x
    normal_under few I h x l =
        let M = structure_of picture_signature I in
        let (to, from) = normal_file_equivalent limits spelled few bounded
        (unfolded_readable limits bounded tbox ok s r u) in
        let (out, back) = belongs_unfolded limits bounded tbox ok s r u I h x l in (
          λ b. out (fits_extension picture_signature M (picture_tree limits spelled) x
              (from I x l (extension_fits picture_signature M (picture_tree limits (normal_file limits spelled)) x b))),
          λ b. fits_extension picture_signature M (picture_tree limits (normal_file limits spelled)) x
              (to I x l (extension_fits picture_signature M (picture_tree limits spelled) x (back b))),
        )
