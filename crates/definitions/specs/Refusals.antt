-- What the questions of a definitions book refuse, in the statements about them.
--   AllOf           true of every picture of a list
--   FirstOf         true of a picture of a list, something else of each before it
--   PassesAll       a test is passed by the given pictures and by the definitions' pictures
--   FirstFails      it is not, and the refusal names the first picture that fails it, given ones first
--   YesBefore       the questions before a number are answered yes, 2 to 13 coming after 25
--   DefinitionsNo   a question that is answered no, those before it being answered yes, what it names and, of 2 to 13,
--                   where
use Rattle.std.specs.Prelude.{◌<◌, ℕ, Bool, false, true, List, [], ◌∷◌, ◌⊎◌, ◌≡◌}
use Rattle.table.specs.declared.layout.Limits.{Limits}
use Rattle.ale.specs.PictureSignature.{picture_signature}
use Rattle.tbox.specs.Acyclic.{acyclic}
use Rattle.picture.specs.Readable.{FailsAt, Readable}
use Rattle.picture.specs.Refusal.{refusal, refusal_at}
use Rattle.picture.specs.declared.answer.Input.TheVariants.{Definition, Definitions}
use Rattle.picture.specs.declared.answer.Refusal.{Refusal}
use Rattle.definitions.specs.Asked.{Picture}
use Rattle.definitions.specs.Form.{definition_count, definition_file, definitions_form}
use Rattle.definitions.specs.Tbox.{tbox_of}
use Rattle.definitions.specs.Unfolded.{excludes_none, named_once, unfolded_few, unfolded_shallow}

abbrev pub AllOf : (Picture → Type 0) → List Picture → Type 0
AllOf P [] = Unit
AllOf P (p ∷ ps) = P p × AllOf P ps

abbrev pub FirstOf : (Picture → Type 0) → (Picture → Type 0) → List Picture → Type 0
FirstOf before here [] = ⊥
FirstOf before here (p ∷ ps) = here p ⊎ (before p × FirstOf before here ps)

module _ (book : List ℕ) (given : List Picture) where
  abbrev pub PassesAll : (List ℕ → Bool) → Type 0
  PassesAll test =
      AllOf (λ p. test p.file ≡ true) given
      × ((k : ℕ) → k < definition_count book → test (definition_file book k) ≡ true)

  -- a question by its number and its test
  pub data FirstFails (number : ℕ) (test : List ℕ → Bool) : Refusal → Type 0 where
    of_given : (r : Refusal) →
        FirstOf (λ p. test p.file ≡ true) (λ p. (test p.file ≡ false) × (r ≡ refusal number p.input)) given →
        FirstFails number test r
    of_definition : AllOf (λ p. test p.file ≡ true) given →
        (k : ℕ) → k < definition_count book → ((j : ℕ) → j < k → test (definition_file book j) ≡ true) →
        test (definition_file book k) ≡ false → FirstFails number test (refusal number (Definition k))

module _ (limits : Limits) (book : List ℕ) (given : List Picture) where
  pub record YesBefore (number : ℕ) : Type 0 where
    pub form : 25 < number → definitions_form book ≡ true
    pub readable : 25 < number → (k : ℕ) → k < definition_count book → Readable limits (definition_file book k)
    pub once : 26 < number → named_once book ≡ true
    pub excluding : 27 < number → PassesAll book given (excludes_none book)
    pub free : 28 < number → acyclic picture_signature (tbox_of book) ≡ true
    pub few : 29 < number → PassesAll book given (unfolded_few limits book)

  pub data DefinitionsNo : Refusal → Type 0 where
    -- 25
    no_form : definitions_form book ≡ false → DefinitionsNo (refusal 25 Definitions)
    -- 2 to 13 of definition k
    unreadable : definitions_form book ≡ true →
        (k q n : ℕ) → k < definition_count book → ((j : ℕ) → j < k → Readable limits (definition_file book j)) →
        FailsAt limits (definition_file book k) q n → DefinitionsNo (refusal_at q (Definition k) n)
    -- 26
    named_twice : YesBefore 26 → named_once book ≡ false → DefinitionsNo (refusal 26 Definitions)
    -- 27
    excluding : YesBefore 27 → (r : Refusal) → FirstFails book given 27 (excludes_none book) r → DefinitionsNo r
    -- 28
    ring : YesBefore 28 → acyclic picture_signature (tbox_of book) ≡ false → DefinitionsNo (refusal 28 Definitions)
    -- 29
    too_large : YesBefore 29 → (r : Refusal) → FirstFails book given 29 (unfolded_few limits book) r → DefinitionsNo r
    -- 30
    too_deep : YesBefore 30 → (r : Refusal) → FirstFails book given 30 (unfolded_shallow limits book) r → DefinitionsNo r
