-- The calls with the end field alone as the definitions book, of pictures that are acceptable without one.
--   end_itself           unfolding changes nothing
--   of_pictures          so what is true of the unfolded pictures is true of the pictures
--   end_pair, pair_end   two pictures are acceptable under it exactly if they are without it
--   map_end, refutation_end             evidence that the call without a book takes is evidence of the pictures
--   takes_map_end, takes_refutation_end     and is taken with every work space that is long enough
--   writes_evidence      the verdict and its evidence, with all buffers that are long enough
use Prim.Native.Nat.{ℕ}
use lib.ListN.{length}
use mathlib.Core.Bool.{Bool}
use mathlib.Core.List.{List}
use mathlib.Core.Path.{◌∙◌, ◌≡◌, ap, refl, subst, sym}
use native.Mathlib.Omega.{arith}
use Rattle.table.specs.Bounds.{Bounded}
use Rattle.table.specs.Fields.{end_bytes}
use Rattle.table.specs.Pick.{pick}
use Rattle.table.specs.Put.{put}
use Rattle.table.specs.declared.layout.Limits.{Limits}
use Rattle.workspace.specs.Prepare.{Acceptable}
use Rattle.evidence.specs.Call.{verify_answer}
use Rattle.evidence.specs.Taken.{MapOf, RefutationOf}
use Rattle.subsumption.specs.Verdict.{evidence_of, verdict_of}
use Rattle.definitions.proofs.Empty.{empty_definable, empty_unfolded, empty_unfolds, end_count, end_form}
use Rattle.definitions.specs.Unfolded.{unfolded_file}
use Rattle.under.proofs.Givens.{acceptable_unfolded}
use Rattle.under.specs.Given.{AcceptableUnder}
use Rattle.interface.specs.StarredClaims.{TakesEvidence, WritesEvidence}
use Rattle.interface.specs.Word.{outcome_no, outcome_yes, value_word, verified_word}
use Rattle.interface.proofs.Answers.{subsumes_shape}
use Rattle.interface.proofs.Conditions.{map_shown, refutation_shown, takes_map, takes_refutation}
use Rattle.interface.proofs.EmptyBooks.{empty_words}
use Rattle.interface.proofs.Shapes.{shape_given}

module _ (limits : Limits) (bounded : Bounded limits) where
  pub end_itself : (s : List ℕ) → unfolded_file limits end_bytes s ≡ s
  end_itself s = empty_unfolded end_bytes end_count limits s

  module _ (first second : List ℕ) where
    -- what is true of the unfolded pictures
    pub of_pictures : (P : List ℕ → List ℕ → Type 0) →
        P (unfolded_file limits end_bytes first) (unfolded_file limits end_bytes second) → P first second
    of_pictures P h =
        subst (λ s. P s second) (end_itself first)
        (subst (λ s. P (unfolded_file limits end_bytes first) s) (end_itself second) h)

    of_unfolded : (P : List ℕ → List ℕ → Type 0) →
        P first second → P (unfolded_file limits end_bytes first) (unfolded_file limits end_bytes second)
    of_unfolded P h =
        subst (λ s. P s (unfolded_file limits end_bytes second)) (sym (end_itself first))
        (subst (λ s. P first s) (sym (end_itself second)) h)

    pub end_pair : Acceptable limits first second → AcceptableUnder limits end_bytes first second
    end_pair pair = record {
      definable = empty_definable end_bytes end_count end_form limits;
      first_readable = pair.first_readable;
      second_readable = pair.second_readable;
      first_unfolds = empty_unfolds end_bytes end_count limits first pair.first_readable;
      second_unfolds = empty_unfolds end_bytes end_count limits second pair.second_readable;
      first_few = rw (end_itself first) pair.first_few;
      second_few = rw (end_itself second) pair.second_few;
    }

    pub pair_end : AcceptableUnder limits end_bytes first second → Acceptable limits first second
    pair_end ok =
        of_pictures (Acceptable limits) (acceptable_unfolded limits end_bytes first second bounded ok)

    module _ (e work : List ℕ) where
      pub map_end : verified_word (verify_answer limits first second e (length work)) ≡ value_word outcome_yes 0 →
          Acceptable limits first second × MapOf limits first second e
      map_end taken =
          let (enough, ok, m) = map_shown limits bounded end_bytes first second e work
          (omega (arith, (empty_words limits bounded).verify first second e (length work) ∙ taken)) in
          (pair_end ok, of_pictures (λ s t. MapOf limits s t e) m)

      pub refutation_end : verified_word (verify_answer limits first second e (length work)) ≡ value_word outcome_no 0 →
          Acceptable limits first second × RefutationOf limits first second e
      refutation_end taken =
          let (enough, ok, r) = refutation_shown limits bounded end_bytes first second e work
          (omega (arith, (empty_words limits bounded).verify first second e (length work) ∙ taken)) in
          (pair_end ok, of_pictures (λ s t. RefutationOf limits s t e) r)

    module _ (pair : Acceptable limits first second) (e : List ℕ) where
      pub takes_map_end : MapOf limits first second e → TakesEvidence limits first second outcome_yes e
      takes_map_end m work enough =
          takes_map limits bounded end_bytes first second e work enough (end_pair pair)
          (of_unfolded (λ s t. MapOf limits s t e) m)

      pub takes_refutation_end : RefutationOf limits first second e → TakesEvidence limits first second outcome_no e
      takes_refutation_end r work enough =
          takes_refutation limits bounded end_bytes first second e work enough (end_pair pair)
          (of_unfolded (λ s t. RefutationOf limits s t e) r)

      -- the word has the verdict and the evidence's length; the result buffer holds the evidence
      pub writes_evidence : evidence_of limits first second ≡ e → (v : Bool) → verdict_of limits first second ≡ v →
          WritesEvidence limits first second (pick v outcome_yes outcome_no) e
      writes_evidence is v decided work result enough long =
          let (told, space, left) = shape_given _ _ _ _ _
          (subsumes_shape limits bounded end_bytes first second work result _ _ _
          (record { word_is = refl; work_is = refl; result_is = refl }))
          (enough, long, end_pair pair) in
          let same = of_unfolded (λ s t. evidence_of limits s t ≡ e) is in
          let verdict-is = of_unfolded (λ s t. verdict_of limits s t ≡ v) decided in (
            told
                ∙ ap (λ b. value_word (pick b outcome_yes outcome_no) (length (evidence_of limits
                (unfolded_file limits end_bytes first) (unfolded_file limits end_bytes second)))) verdict-is
                ∙ ap (λ (l : List ℕ). value_word (pick v outcome_yes outcome_no) (length l)) same,
            left ∙ ap (λ (l : List ℕ). put result 0 l) same,
          )
