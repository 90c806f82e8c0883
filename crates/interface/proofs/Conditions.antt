-- The customer's conditions hold (specs/Conditions): what every call answers, by its shape (Shapes, Answers), put
-- together.
--   condition_1_words    condition 1
--   condition_2_words    condition 2
--   condition_3_words    condition 3, the writer's evidence by `writes-taken`
--   refutation_words     the names in a refutation
--   normal_words         the normal table
--   most_specific_words  the nearest cards
--   conditions_bounded   all of them, at any limits that the code can hold
--   conditions_hold      at paper 01's, with its numbers
use Prim.Native.Nat.{◌<◌, ◌≤◌, ℕ}
use lib.ListN.{length, take}
use mathlib.Core.Bool.{false, true}
use mathlib.Core.List.{List, []}
use mathlib.Core.Logic.{◌↔◌, ◌⊎◌, inl, inr, ⊎_elim}
use mathlib.Core.Path.{◌∙◌, ◌≡◌, ap, refl, subst, sym}
use native.Mathlib.Omega.{arith}
use Rattle.table.proofs.Bools.{by_test}
use Rattle.table.specs.Bounds.{Bounded, bench_limits, picture_size}
use Rattle.table.specs.NameSet.{has}
use Rattle.table.specs.declared.layout.Limits.{Limits}
use Rattle.picture.specs.declared.answer.Input.TheVariants.{Second}
use Rattle.ale.specs.Interpretation.{Equivalent}
use Rattle.ale.specs.PictureSignature.{picture_signature}
use Rattle.meaning.proofs.Normals.{normal_readable, normal_file_equivalent}
use Rattle.meaning.specs.Meaning.{picture_table, picture_tree}
use Rattle.meaning.specs.NormalTable.{normal_file}
use Rattle.workspace.specs.Prepare.{work_size}
use Rattle.countermodel.specs.Individual.{individual_names, refutation_form}
use Rattle.countermodel.specs.Layout.{individual_count}
use Rattle.evidence.proofs.Soundness.{forms_apart}
use Rattle.evidence.specs.Form.{map_form}
use Rattle.evidence.specs.Taken.{MapOf, RefutationOf}
use Rattle.subsumption.proofs.Mentioned.{evidence_mentions}
use Rattle.subsumption.proofs.Writers.{evidence_bytes, evidence_size_is, no_written, yes_written}
use Rattle.subsumption.specs.Mentions.{Excludes, Wants}
use Rattle.subsumption.specs.Verdict.{evidence_of, evidence_size, verdict_of}
use Rattle.lcs.specs.Product.{lcs_count, lcs_file}
use Rattle.book.specs.Form.{card, card_count}
use Rattle.book.specs.Selection.{most_specific_cards}
use Rattle.definitions.proofs.Unfolds.{unfolded_readable}
use Rattle.definitions.specs.Covering.{Belongs, CoversUnder}
use Rattle.definitions.specs.Unfolded.{unfolded_file}
use Rattle.under.proofs.Books.{below_each_under, nearest_under, some_under, together_under}
use Rattle.under.proofs.Commons.{common_refused, common_under}
use Rattle.under.proofs.Conditions.{map_covers_under, normal_under, refutation_fails_under}
use Rattle.under.proofs.Conditions.{verdict_covers_under, verdict_fails_under}
use Rattle.under.proofs.Givens.{acceptable_unfolded}
use Rattle.under.proofs.Ignored.{refutation_ignored}
use Rattle.under.specs.Book.{AcceptableBookUnder, MostSpecificUnder, most_specific_work_under, unfolded_book}
use Rattle.under.specs.Calls.{lcs_result_under, lcs_work_under, normalize_result_under, subsumes_result_under}
use Rattle.under.specs.Calls.{subsumes_work_under, verify_work_under}
use Rattle.under.specs.Description.{LeastCommonUnder}
use Rattle.under.specs.Given.{AcceptableUnder}
use Rattle.interface.specs.Answers.{AcceptableOne, Answers, EitherOutcome, Passes, buffers, lcs_call}
use Rattle.interface.specs.Answers.{most_specific_call, subsumes_call, verify_call}
use Rattle.interface.specs.Calls.{lcs_word}
use Rattle.interface.specs.Conditions.{Condition1Words, Condition2Words, Condition3Words, Conditions, Lengths}
use Rattle.interface.specs.Conditions.{MentionsNone, MostSpecificWords, NormalWords, PaperNumbers}
use Rattle.interface.specs.Conditions.{RefutationWords, Taken, WritesTaken, check_given, common_given}
use Rattle.interface.specs.Conditions.{evidence_written}
use Rattle.interface.specs.Conditions.{most_specific_given, normal_given, picture_written, table_written, verdict_given}
use Rattle.interface.specs.Word.{common_word, outcome, outcome_no, outcome_yes, refused, value, value_word}
use Rattle.interface.proofs.Answers.{cards_shape, lcs_shape, normalize_shape, subsumes_shape, validate_shape}
use Rattle.interface.proofs.Answers.{verify_shape}
use Rattle.interface.proofs.EmptyBooks.{empty_words}
use Rattle.interface.proofs.Places.{place_words}
use Rattle.interface.proofs.Shapes.{result_shown, result_when, shape_answers}
use Rattle.interface.proofs.Undefined.{common_mentions, normal_mentions, unfolded_excludes, unfolded_wants}
use Rattle.interface.proofs.Words.{bench_bounded}

module _ (limits : Limits) (bounded : Bounded limits) where
  pub condition_1_words : Condition1Words limits
  condition_1_words = record {
    validate = λ picture. shape_answers _ _ _ _ _ (validate_shape limits bounded picture);
    normalize = λ tbox picture result word left gives. shape_answers _ _ _ _ _
        (normalize_shape limits bounded tbox picture result word left gives);
    subsumes = λ tbox first second work result word workLeft left gives.
        shape_answers _ _ _ _ _ (subsumes_shape limits bounded tbox first second work result word workLeft left gives);
    lcs = λ tbox first second work result word workLeft left gives.
        shape_answers _ _ _ _ _ (lcs_shape limits bounded tbox first second work result word workLeft left gives);
    verify = λ tbox first second evidence work word left gives.
        shape_answers _ _ _ _ _ (verify_shape limits bounded tbox first second evidence work word left gives);
    most_specific_is = λ tbox case book work word left gives. shape_answers _ _ _ _ _
        (cards_shape limits bounded tbox case book work word left gives);
  }

  -- ---- the verdict and the common picture

  module _ (tbox first second : List ℕ) where
    abbrev p : List ℕ
    p = unfolded_file limits tbox first

    abbrev q : List ℕ
    q = unfolded_file limits tbox second

    module _ (work result : List ℕ) where
      verdict_answers : Answers (subsumes_call limits tbox first second) (buffers work result)
          (buffers (subsumes_work_under limits tbox first second work (length result))
          (subsumes_result_under limits tbox first second (length work) result))
          (verdict_given limits tbox first second work result)
      verdict_answers = condition_1_words.subsumes tbox first second work result _ _ _
          (record { word_is = refl; work_is = refl; result_is = refl })

      common_answers : Answers (lcs_call limits tbox first second) (buffers work result)
          (buffers (lcs_work_under limits tbox first second work (length result))
          (lcs_result_under limits tbox first second (length work) result))
          (common_given limits tbox first second work result)
      common_answers = condition_1_words.lcs tbox first second work result _ _ _
          (record { word_is = refl; work_is = refl; result_is = refl })

      pub common_shown : outcome (common_given limits tbox first second work result) ≡ outcome_yes →
          Passes (lcs_call limits tbox first second) (buffers work result)
      common_shown h = (result_shown _ _ _ _ common_answers (omega (arith, h))).passes

      common_written : outcome (common_given limits tbox first second work result) ≡ outcome_yes →
          (value (common_given limits tbox first second work result) ≡ length (lcs_file limits p q))
          × (picture_written limits tbox first second work result ≡ lcs_file limits p q)
      common_written h =
          let g = result_shown _ _ _ _ common_answers (omega (arith, h)) in (
            g.value_is,
            ap (λ (n : ℕ). take n (lcs_result_under limits tbox first second (length work) result)) g.value_is
                ∙ g.leaves.result.holds,
          )

      common_is : outcome (common_given limits tbox first second work result) ≡ outcome_yes →
          LeastCommonUnder limits tbox first second (value (common_given limits tbox first second work result))
          (picture_written limits tbox first second work result)
      common_is h =
          let (enough, long, (pair, few)) = common_shown h in
          let n = value (common_given limits tbox first second work result) in
          subst (λ l. LeastCommonUnder limits tbox first second n l) (sym (common_written h).1)
          (common_under limits bounded tbox first second pair few n (common_written h).0)

      common_names : outcome (common_given limits tbox first second work result) ≡ outcome_yes →
          MentionsNone tbox (picture_written limits tbox first second work result)
      common_names h =
          let (enough, long, (pair, few)) = common_shown h in
          subst (MentionsNone tbox) (sym (common_written h).1)
          (common_mentions limits bounded tbox first second pair few)

    module _ (pair : AcceptableUnder limits tbox first second) where
      -- yes or no, and so covering or not
      decided : (work result : List ℕ) → Lengths limits (evidence_size limits) work result →
          EitherOutcome (CoversUnder limits tbox second first) (CoversUnder limits tbox second first → ⊥)
          (outcome (verdict_given limits tbox first second work result))
      decided work result long =
          (result_when _ _ _ _ (verdict_answers work result) (long.0, long.1, pair)).outcome_is

      refused_large : (work result : List ℕ) → Lengths limits (picture_size limits) work result →
          (outcome (common_given limits tbox first second work result) ≡ outcome_yes)
          ⊎ ((common_given limits tbox first second work result ≡ refused 15 Second)
          × (limits.rows < lcs_count limits p q))
      unfolding lcs_word
      refused_large work result long =
          let word = common_given limits tbox first second work result in
          ⊎_elim
          (λ e. ⊎_elim (λ given. inl given.outcome_is)
          (λ refused. absurd (omega (arith, ap (λ (w : ℕ). outcome w) (ap common_word e), refused.outcome_is)))
          (common_answers work result))
          (λ (e, many). inr (ap common_word e, many))
          (common_refused limits bounded tbox first second pair (length work) (length result) long.0 long.1)

      pub condition_2_words : Condition2Words limits tbox first second
      condition_2_words = record {
        verdict_yes = λ work result long. (
          λ h. ⊎_elim (λ (o, c). c) (λ (o, u). absurd (omega (arith, h, o))) (decided work result long),
          λ c. ⊎_elim (λ (o, d). o) (λ (o, u). absurd (u c)) (decided work result long),
        );
        verdict_no = λ work result long. (
          λ h. ⊎_elim (λ (o, c). absurd (omega (arith, h, o))) (λ (o, u). u) (decided work result long),
          λ u. ⊎_elim (λ (o, c). absurd (u c)) (λ (o, v). o) (decided work result long),
        );
        verdict_one = λ work result long. ⊎_elim (λ (o, c). inl o) (λ (o, u). inr o) (decided work result long);
        common_least = common_is;
        common_undefined = common_names;
        common_refused = refused_large;
      }

    -- ---- the check

    module _ (evidence work : List ℕ) where
      check_answers : Answers (verify_call limits tbox first second evidence) (buffers work [])
          (buffers (verify_work_under limits tbox first second work) [])
          (check_given limits tbox first second evidence work)
      check_answers = condition_1_words.verify tbox first second evidence work _ _
          (record { word_is = refl; buffer_is = refl })

      -- outcome 1 is given only to a map of an acceptable pair, 2 only to a refutation of one
      pub map_shown : outcome (check_given limits tbox first second evidence work) ≡ outcome_yes →
          (work_size limits ≤ length work) × AcceptableUnder limits tbox first second × MapOf limits p q evidence
      map_shown h =
          let g = result_shown _ _ _ _ check_answers (omega (arith, h)) in
          let (enough, none, (pair, taken)) = g.passes in
          (enough, pair, ⊎_elim (λ (o, m). m) (λ (o, r). absurd (omega (arith, h, o))) g.outcome_is)

      pub refutation_shown : outcome (check_given limits tbox first second evidence work) ≡ outcome_no →
          (work_size limits ≤ length work) × AcceptableUnder limits tbox first second
          × RefutationOf limits p q evidence
      refutation_shown h =
          let g = result_shown _ _ _ _ check_answers (omega (arith, h)) in
          let (enough, none, (pair, taken)) = g.passes in
          (enough, pair, ⊎_elim (λ (o, m). absurd (omega (arith, h, o))) (λ (o, r). r) g.outcome_is)

      map_only : outcome (check_given limits tbox first second evidence work) ≡ outcome_yes →
          CoversUnder limits tbox second first
      map_only h =
          let (enough, pair, m) = map_shown h in map_covers_under limits bounded tbox first second pair evidence m

      refutation_only : outcome (check_given limits tbox first second evidence work) ≡ outcome_no →
          CoversUnder limits tbox second first → ⊥
      refutation_only h =
          let (enough, pair, r) = refutation_shown h in
          refutation_fails_under limits bounded tbox first second pair evidence r

      module _ (enough : work_size limits ≤ length work) (pair : AcceptableUnder limits tbox first second) where
        abbrev rows : ℕ
        rows = (picture_table (normal_file limits q)).rows

        pub takes_map : MapOf limits p q evidence →
            check_given limits tbox first second evidence work ≡ value_word outcome_yes 0
        takes_map m =
            let g = result_when _ _ _ _ check_answers (enough, omega arith, (pair, inl m)) in
            ⊎_elim (λ (o, n). omega (arith, o, g.value_is, g.word_is))
            (λ (o, r). absurd (forms_apart limits rows evidence m.form r.form)) g.outcome_is

        pub takes_refutation : RefutationOf limits p q evidence →
            check_given limits tbox first second evidence work ≡ value_word outcome_no 0
        takes_refutation r =
            let g = result_when _ _ _ _ check_answers (enough, omega arith, (pair, inr r)) in
            ⊎_elim (λ (o, m). absurd (forms_apart limits rows evidence m.form r.form))
            (λ (o, n). omega (arith, o, g.value_is, g.word_is)) g.outcome_is

    module _ (pair : AcceptableUnder limits tbox first second) where
      abbrev evidence : List ℕ
      evidence = evidence_of limits p q

      -- our own evidence is taken
      yes_taken : verdict_of limits p q ≡ true → (work : List ℕ) → work_size limits ≤ length work →
          check_given limits tbox first second evidence work ≡ value_word outcome_yes 0
      yes_taken e work enough =
          takes_map evidence work enough pair
          (yes_written limits p q bounded (acceptable_unfolded limits tbox first second bounded pair) e)

      no_taken : verdict_of limits p q ≡ false → (work : List ℕ) → work_size limits ≤ length work →
          check_given limits tbox first second evidence work ≡ value_word outcome_no 0
      no_taken e work enough =
          takes_refutation evidence work enough pair
          (no_written limits p q bounded (acceptable_unfolded limits tbox first second bounded pair) e)

      some_taken : (kind : ℕ) (work : List ℕ) →
          check_given limits tbox first second evidence work ≡ value_word kind 0 →
          outcome (value_word kind 0) ≡ kind → Taken limits tbox first second work kind
      some_taken kind work e is = (
        evidence,
        evidence_bytes limits p q bounded (acceptable_unfolded limits tbox first second bounded pair),
        ap outcome e ∙ is,
      )

      some_yes : verdict_of limits p q ≡ true → (work : List ℕ) → work_size limits ≤ length work →
          Taken limits tbox first second work outcome_yes
      some_yes e work enough = some_taken outcome_yes work (yes_taken e work enough) refl

      some_no : verdict_of limits p q ≡ false → (work : List ℕ) → work_size limits ≤ length work →
          Taken limits tbox first second work outcome_no
      some_no e work enough = some_taken outcome_no work (no_taken e work enough) refl

      module _ (work result : List ℕ) (long : Lengths limits (evidence_size limits) work result) where
        abbrev word : ℕ
        word = verdict_given limits tbox first second work result

        abbrev written : List ℕ
        written = evidence_written limits tbox first second work result

        is_written : (written ≡ evidence) × (value word ≡ length evidence)
        is_written =
            let g = result_when _ _ _ _ (verdict_answers work result) (long.0, long.1, pair) in (
              ap (λ (n : ℕ). take n (subsumes_result_under limits tbox first second (length work) result)) g.value_is
                  ∙ g.leaves.result.holds,
              g.value_is,
            )

        writes_taken : WritesTaken limits tbox first second word written
        writes_taken =
            let (is, length-is) = is_written in
            let c = condition_2_words pair in
            let base = acceptable_unfolded limits tbox first second bounded pair in
            let rows = (picture_table (normal_file limits q)).rows in
            let apart = forms_apart limits rows written in
            let by-verdict = verdict_covers_under limits bounded tbox first second pair in
            let by-no = verdict_fails_under limits bounded tbox first second pair in
            let yes-form : outcome word ≡ outcome_yes → map_form rows written ≡ true =
            λ h. rw is (yes_written limits p q bounded base
            (by-verdict.0 ((c.verdict_yes work result long).0 h))).form in
            let no_form : outcome word ≡ outcome_no → refutation_form limits written ≡ true =
            λ h. rw is (no_written limits p q bounded base (by-no.1 ((c.verdict_no work result long).0 h))).form in
            let one = c.verdict_one work result long in
            record {
              bytes = rw is (evidence_bytes limits p q bounded base);
              sized = ap length is ∙ sym length-is;
              at_most = omega (arith, length-is, evidence_size_is limits p q bounded base);
              map_exactly = (yes-form, λ m. ⊎_elim (λ h. h) (λ h. absurd (apart m (no_form h))) one);
              refutation_exactly = (no_form, λ m. ⊎_elim (λ h. absurd (apart (yes-form h) m)) (λ h. h) one);
              taken = λ space enough. rw is (⊎_elim
                  (λ h. rw h (yes_taken (by-verdict.0 ((c.verdict_yes work result long).0 h)) space enough))
                  (λ h. rw h (no_taken (by-no.1 ((c.verdict_no work result long).0 h)) space enough)) one);
            }

      pub condition_3_words : Condition3Words limits tbox first second
      condition_3_words = record {
        some_map = λ work enough. (
          λ (e, bytes, h). map_only e work h,
          λ c. some_yes ((verdict_covers_under limits bounded tbox first second pair).0 c) work enough,
        );
        some_refutation = λ work enough. (
          λ (e, bytes, h). refutation_only e work h,
          λ u. some_no ((verdict_fails_under limits bounded tbox first second pair).1 u) work enough,
        );
        one = λ work enough. by_test (verdict_of limits p q) (λ e. inl (some_yes e work enough))
            (λ e. inr (some_no e work enough));
        not_both = λ work (d, b, h) (e, c, k). refutation_only e work k (map_only d work h);
        writer = writes_taken;
      }

    -- ---- the refutation

    -- where the verdict is no, the pair is acceptable, and a name of an individual is one that is mentioned
    module _ (work result : List ℕ)
        (h : outcome (verdict_given limits tbox first second work result) ≡ outcome_no) where
      abbrev refuting : List ℕ
      refuting = evidence_written limits tbox first second work result

      no_shown : AcceptableUnder limits tbox first second
          × ((k n : ℕ) → k < individual_count refuting → has (individual_names refuting k) n ≡ true →
          Wants p n ⊎ Excludes q n)
      no_shown =
          let g = result_shown _ _ _ _ (verdict_answers work result) (omega (arith, h)) in
          let (enough, long, pair) = g.passes in
          let fails : CoversUnder limits tbox second first → ⊥ =
          ⊎_elim (λ (o, c). absurd (omega (arith, h, o))) (λ (o, u). u) g.outcome_is in
          let is : refuting ≡ evidence_of limits p q =
          ap (λ (n : ℕ). take n (subsumes_result_under limits tbox first second (length work) result)) g.value_is
          ∙ g.leaves.result.holds in (
            pair,
            rw is (evidence_mentions limits p q (acceptable_unfolded limits tbox first second bounded pair)
                ((verdict_fails_under limits bounded tbox first second pair).1 fails)),
          )

    pub refutation_words : RefutationWords limits tbox first second
    refutation_words = record {
      names = λ work result h. (no_shown work result h).1;
      undefined = λ work result h k n l e.
          let (pair, mentions) = no_shown work result h in
          ⊎_elim (unfolded_wants limits bounded tbox first pair.definable pair.first_readable
          pair.first_unfolds n)
          (unfolded_excludes limits bounded tbox second pair.definable pair.second_readable
          pair.second_unfolds n) (mentions k n l e);
      ignored = λ evidence other work differ h.
          let (enough, pair, r) = refutation_shown evidence work h in
          ap outcome (takes_refutation other work enough pair
          (refutation_ignored limits bounded tbox first second pair evidence other differ r));
    }

  -- ---- the normal table

  module _ (tbox picture : List ℕ) where
    abbrev s : List ℕ
    s = unfolded_file limits tbox picture

    -- the picture is acceptable, and the normal table of the unfolded one is what is written
    table_shown : (result : List ℕ) → outcome (normal_given limits tbox picture result) ≡ outcome_yes →
        AcceptableOne limits tbox picture × (table_written limits tbox picture result ≡ normal_file limits s)
    table_shown result h =
        let answers = condition_1_words.normalize tbox picture result _ _
        (record { word_is = refl; buffer_is = refl }) in
        let g = result_shown _ _ _ _ answers (omega (arith, h)) in
        let (none, long, ok) = g.passes in (
          ok,
          ap (λ (n : ℕ). take n (normalize_result_under limits tbox picture result)) g.value_is
              ∙ g.leaves.result.holds,
        )

    pub normal_words : NormalWords limits tbox picture
    normal_words = record {
      readable = λ result h. let (ok, is) = table_shown result h in rw is (normal_readable limits s ok.few bounded);
      equivalent = λ result h.
          let (ok, is) = table_shown result h in
          subst (λ t. Equivalent picture_signature (picture_tree limits s) (picture_tree limits t)) (sym is)
          (normal_file_equivalent limits s ok.few bounded
          (unfolded_readable limits bounded tbox ok.definable picture ok.readable ok.unfolds));
      same = λ result h I respects x l.
          let (ok, is) = table_shown result h in
          subst (λ t. Belongs limits I t x ↔ Belongs limits I picture x) (sym is)
          (normal_under limits bounded tbox picture ok.definable ok.readable ok.unfolds ok.few
          I respects x l);
      undefined = λ result h.
          let (ok, is) = table_shown result h in
          subst (MentionsNone tbox) (sym is)
          (normal_mentions limits bounded tbox picture ok.definable ok.readable ok.unfolds ok.few);
    }

  -- ---- the nearest cards

  module _ (tbox case book : List ℕ) where
    cards_answers : (work : List ℕ) → Answers (most_specific_call limits tbox case book) (buffers work [])
        (buffers (most_specific_work_under limits tbox case book work) []) (most_specific_given limits tbox case book work)
    cards_answers work = condition_1_words.most_specific_is tbox case book work _ _
        (record { word_is = refl; buffer_is = refl })

    -- where a word is given, the book is accepted, and it is the word of the definition
    cards_shown : (work : List ℕ) → outcome (most_specific_given limits tbox case book work) ≡ outcome_yes →
        AcceptableBookUnder limits tbox case book
        × (value (most_specific_given limits tbox case book work)
        ≡ most_specific_cards limits (unfolded_file limits tbox case) (unfolded_book limits tbox book))
    cards_shown work h =
        let g = result_shown _ _ _ _ (cards_answers work) (omega (arith, h)) in (g.passes.2, g.value_is)

    nearest_words : (work : List ℕ) → outcome (most_specific_given limits tbox case book work) ≡ outcome_yes →
        (n : ℕ) → (has (value (most_specific_given limits tbox case book work)) n ≡ true)
        ↔ MostSpecificUnder limits tbox case book n
    nearest_words work h n =
        let (acceptable, is) = cards_shown work h in
        subst (λ w. (has w n ≡ true) ↔ MostSpecificUnder limits tbox case book n) (sym is)
        (nearest_under limits bounded tbox case book acceptable n)

    pub most_specific_words : MostSpecificWords limits tbox case book
    most_specific_words = record {
      given_exactly = λ work. (
        λ h. let (enough, none, acceptable) = (result_shown _ _ _ _ (cards_answers work) (omega (arith, h))).passes in
            (enough, acceptable),
        λ (enough, acceptable). (result_when _ _ _ _ (cards_answers work) (enough, omega arith, acceptable)).outcome_is,
      );
      nearest = nearest_words;
      some_card = λ work h.
          let (acceptable, is) = cards_shown work h in
          subst (λ w. (w ≡ 0 → ⊥) ↔ ((k : ℕ) × (k < card_count book) × CoversUnder limits tbox (card book k) case))
          (sym is) (some_under limits bounded tbox case book acceptable);
      below_each = λ work h k l c.
          let (n, most, over) = below_each_under limits bounded tbox case book (cards_shown work h).0 k l c in
          (n, (nearest_words work h n).1 most, over);
      together = λ work h m n k l up down.
          let near = together_under limits bounded tbox case book (cards_shown work h).0 in (
            λ e. (nearest_words work h n).1 (near m n k l up down ((nearest_words work h m).0 e)),
            λ e. (nearest_words work h m).1 (near n m l k down up ((nearest_words work h n).0 e)),
          );
    }

  pub conditions_bounded : Conditions limits
  conditions_bounded = record {
    one = condition_1_words;
    two = condition_2_words;
    three_map = map_only;
    three_refutation = refutation_only;
    three = condition_3_words;
    refutations = refutation_words;
    normal = normal_words;
    cards = most_specific_words;
    places = place_words limits bounded;
    empty = empty_words limits bounded;
  }

pub conditions_hold : Conditions bench_limits × PaperNumbers bench_limits
conditions_hold = (
  conditions_bounded bench_limits bench_bounded,
  record {
    rows = refl;
    depth = refl;
    names = refl;
    work_bytes = refl;
    evidence_bytes = refl;
    picture_bytes = refl;
    book_cards = refl;
    book_tag = refl;
    book_definitions = refl;
    definition_tag_is = refl;
  },
)
