-- A picture that fails at the field after n rows is refused there, by the word of every call, and so is what a
-- definitions book is refused for (specs/Conditions: `PlaceWords`): the first no of the call's questions is that one,
-- and the word is that of the first no.
--   definitions_at   of a call whose given pictures are read, whatever it asks after them
--   pair_at          of a call on two pictures
--   place_words      of the six calls
use Prim.Native.Nat.{◌≤◌, ℕ}
use borrow.Author.Tests.{le-leb}
use lib.Dec.{leb}
use lib.ListN.{length}
use mathlib.Core.Bool.{Bool, true}
use mathlib.Core.List.{List}
use mathlib.Core.Logic.{inl, inr}
use mathlib.Core.Path.{◌∙◌, ◌≡◌, ap, refl}
use native.Mathlib.Omega.{arith}
use Rattle.std.proofs.Common.{Err}
use Rattle.table.specs.Bounds.{Bounded, picture_size}
use Rattle.table.specs.declared.layout.Limits.{Limits}
use Rattle.picture.proofs.Orders.{read_decides}
use Rattle.picture.specs.Asked.{and_then, asked_from, Asked, yes}
use Rattle.picture.specs.Refusal.{refusal_at}
use Rattle.picture.specs.declared.answer.Input.TheVariants.{Card, First, Second}
use Rattle.picture.specs.declared.answer.Refusal.{Refusal}
use Rattle.normal.specs.Call.{merged_asked}
use Rattle.workspace.proofs.Lendings.{room_yes}
use Rattle.workspace.specs.Lent.{roomy}
use Rattle.workspace.specs.Prepare.{work_size}
use Rattle.evidence.specs.Call.{evidence_asked}
use Rattle.subsumption.specs.Verdict.{evidence_size}
use Rattle.lcs.specs.Call.{large_asked}
use Rattle.book.specs.Form.{card_count}
use Rattle.definitions.specs.Asked.{Picture}
use Rattle.definitions.specs.Refusals.{DefinitionsNo}
use Rattle.definitions.specs.Unfolded.{unfolded_file}
use Rattle.under.proofs.Books.{CaseNo, before_decides}
use Rattle.under.proofs.Givens.{UnderNo, lent_decides}
use Rattle.under.specs.Asked.{card_few, pair_asked_under}
use Rattle.under.specs.Given.{one, pair}
use Rattle.interface.specs.Conditions.{DefinitionsAt, PairAt, PlaceWords, most_specific_given, normal_given}
use Rattle.interface.specs.Word.{refusal_word}
use Rattle.interface.proofs.Answers.{cards_shape, lcs_shape, normalize_shape, subsumes_shape, validate_shape}
use Rattle.interface.proofs.Answers.{verify_shape}
use Rattle.interface.proofs.Shapes.{refusal_shown, shape_answers, then_yes}

definitions_at : (limits : Limits) (tbox : List ℕ) (given : List Picture) (word : ℕ) →
    ((r : Refusal) → DefinitionsNo limits tbox given r → word ≡ refusal_word r) →
    DefinitionsAt limits tbox given word
definitions_at limits tbox given word told = record { asked_at = told }

module _ (limits : Limits) (tbox first second : List ℕ) (enough : Bool) (after : Asked) (word : ℕ)
    (long : enough ≡ true)
    (told : (r : Refusal) → and_then (pair_asked_under limits tbox enough first second) after ≡ Err r →
    word ≡ refusal_word r) where
  -- the first no before the first 14 is that of all
  refused_by : (r : Refusal) → UnderNo limits tbox (pair first second) r → word ≡ refusal_word r
  refused_by r one =
      let merged = and_then (merged_asked limits First (unfolded_file limits tbox first))
      (merged_asked limits Second (unfolded_file limits tbox second)) in
      told r (ap (λ a. and_then (and_then a merged) after)
      (((lent_decides limits tbox (pair first second) enough).no r).1 (inr (long, one))))

  pair_at : PairAt limits tbox first second word
  pair_at = record {
    first_at = λ q n f. refused_by (refusal_at q First n) (inl (inl (q, n, f, refl)));
    second_at = λ readable q n f. refused_by (refusal_at q Second n) (inl (inr (readable, inl (q, n, f, refl))));
    definitions_at = λ r s. definitions_at limits tbox (pair first second) word
        (λ n h. refused_by n (inr ((r, (s, tt)), h)));
  }

module _ (limits : Limits) (bounded : Bounded limits) where
  one_at : (tbox picture result : List ℕ) → picture_size limits ≤ length result →
      (r : Refusal) → UnderNo limits tbox (one picture) r → normal_given limits tbox picture result ≡ refusal_word r
  one_at tbox picture result long r refusing =
      refusal_shown _ _ _ _
      (shape_answers _ _ _ _ _
      (normalize_shape limits bounded tbox picture result _ _ (record { word_is = refl; buffer_is = refl }))) r
      (ap (λ a. and_then a (merged_asked limits First (unfolded_file limits tbox picture)))
      (((lent_decides limits tbox (one picture) (leb (picture_size limits) (length result))).no r).1
      (inr (le-leb (picture_size limits) (length result) long, refusing))))

  cards_at : (tbox case book work : List ℕ) → work_size limits ≤ length work →
      (r : Refusal) → CaseNo limits tbox case book r → most_specific_given limits tbox case book work ≡ refusal_word r
  cards_at tbox case book work long r refusing =
      refusal_shown _ _ _ _
      (shape_answers _ _ _ _ _
      (cards_shape limits bounded tbox case book work _ _ (record { word_is = refl; buffer_is = refl }))) r
      (ap (λ a. and_then a (and_then (merged_asked limits First (unfolded_file limits tbox case))
      (asked_from (card_few limits tbox book) (card_count book) 0)))
      (((before_decides limits tbox case book (length work)).no r).1 (inr (long, refusing))))

  pub place_words : PlaceWords limits
  place_words = record {
    validate = λ picture q n f.
        refusal_shown _ _ _ _ (shape_answers _ _ _ _ _ (validate_shape limits bounded picture)) (refusal_at q First n)
        (((read_decides limits First picture).no (refusal_at q First n)).1 (q, n, f, refl));
    normalize = λ tbox picture result long q n f.
        one_at tbox picture result long (refusal_at q First n) (inl (inl (q, n, f, refl)));
    normalize_definitions = λ tbox picture result long readable.
        definitions_at limits tbox (one picture) _ (λ r h. one_at tbox picture result long r (inr ((readable, tt), h)));
    subsumes = λ tbox first second work result (enough, long).
        pair_at limits tbox first second (roomy limits (evidence_size limits) (length work) (length result)) yes _
        (room_yes limits (evidence_size limits) (length work) (length result) enough long)
        (λ r e. refusal_shown _ _ _ _
        (shape_answers _ _ _ _ _
        (subsumes_shape limits bounded tbox first second work result _ _ _
        (record { word_is = refl; work_is = refl; result_is = refl }))) r (then_yes _ ∙ e));
    lcs = λ tbox first second work result (enough, long).
        pair_at limits tbox first second (roomy limits (picture_size limits) (length work) (length result))
        (large_asked limits (unfolded_file limits tbox first) (unfolded_file limits tbox second)) _
        (room_yes limits (picture_size limits) (length work) (length result) enough long)
        (λ r e. refusal_shown _ _ _ _
        (shape_answers _ _ _ _ _
        (lcs_shape limits bounded tbox first second work result _ _ _
        (record { word_is = refl; work_is = refl; result_is = refl }))) r e);
    verify = λ tbox first second evidence work enough.
        pair_at limits tbox first second (leb (work_size limits) (length work))
        (evidence_asked limits (unfolded_file limits tbox first) (unfolded_file limits tbox second) evidence) _
        (le-leb (work_size limits) (length work) enough)
        (λ r e. refusal_shown _ _ _ _
        (shape_answers _ _ _ _ _
        (verify_shape limits bounded tbox first second evidence work _ _
        (record { word_is = refl; buffer_is = refl }))) r e);
    case_at = λ tbox case book work long q n f.
        cards_at tbox case book work long (refusal_at q First n) (inl (q, n, f, refl));
    card_at = λ tbox case book work long readable form k l before q n f.
        cards_at tbox case book work long (refusal_at q (Card k) n)
        (inr (readable, inr (form, inl (k, omega arith, omega arith, (q, n, f, refl), λ j a b. before j b))));
    cards_definitions = λ tbox case book work long readable form cards.
        definitions_at limits tbox _ _ (λ r h. cards_at tbox case book work long r
        (inr (readable, inr (form, inr (λ k a b. cards k (omega arith), h)))));
  }
