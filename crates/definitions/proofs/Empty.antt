-- A definitions book without definitions: its questions are answered yes of all readable pictures, and every picture is
-- its own unfolded picture.
--   end_count, end_form   the end field alone is such a book
--   empty_definable       it is definable
--   empty_unfolds         every readable picture unfolds
--   empty_asked           so all is answered yes
--   empty_unfolded        and nothing changes
use Prim.Native.Nat.{◌%◌, ◌+◌, ◌^◌, suc, zero, ℕ}
use lib.Bits.{and_zero_r, bit_and}
use lib.Dec.{T, eqb}
use mathlib.Core.Bool.{Bool, false, not, true}
use mathlib.Core.List.{List, [], ◌∷◌}
use mathlib.Core.Path.{◌∙◌, ◌≡◌, ap, refl, subst}
use native.Mathlib.Omega.{arith}
use Rattle.table.proofs.Bools.{false_is}
use Rattle.table.proofs.NameSets.{has_none}
use Rattle.table.proofs.Ranges.{at_each, some_same}
use Rattle.table.specs.Fields.{end_bytes, ends_at}
use Rattle.table.specs.Layout.{name_count}
use Rattle.table.specs.NameSet.{has, none, set_below}
use Rattle.table.specs.Number.{be, be_bytes}
use Rattle.table.specs.Range.{each, some}
use Rattle.table.specs.declared.layout.Limits.{Limits}
use Rattle.ale.proofs.Tests.{clash}
use Rattle.ale.specs.PictureSignature.{NameSet, picture_signature}
use Rattle.tbox.proofs.Acyclicity.{acyclic_exactly}
use Rattle.tbox.specs.Acyclic.{acyclic}
use Rattle.tbox.specs.Theory.{Chain, more, one}
use Rattle.fields.specs.Form.{field_count, field_place, field_with, fields_form, fields_from}
use Rattle.picture.specs.Readable.{Readable}
use Rattle.meaning.specs.Meaning.{picture_table}
use Rattle.definitions.specs.Asked.{Picture, definitions_asked}
use Rattle.definitions.specs.Form.{definition_count, definitions_form, name_of}
use Rattle.definitions.specs.Refusals.{AllOf}
use Rattle.definitions.specs.Tbox.{defined_word, tbox_of}
use Rattle.definitions.specs.Unfolded.{Definable, Unfolds, any_defined, excludes_none, named_once, unfolded_file}
use Rattle.definitions.specs.Unfolded.{wants_defined}
use Rattle.definitions.proofs.Idle.{few_own, file_own, shallow_own}
use Rattle.picture.specs.Asked.{yes}
use Rattle.definitions.proofs.Questions.{definable_asked}

-- the set of no definitions
no_definitions : (f : ℕ → ℕ → Bool) (n : ℕ) → set_below (λ m. some (f m) 0 0) n ≡ none
unfolding set_below some
no_definitions f zero = refl
no_definitions f (suc n) = omega (arith, no_definitions f n)

module _ (book : List ℕ) (empty : definition_count book ≡ 0) where
  empty_word : defined_word book ≡ none
  unfolding defined_word
  empty_word =
      ap (λ n. set_below (λ m. some (λ k. eqb (name_of book k) m) n 0) name_count) empty
      ∙ no_definitions (λ m k. eqb (name_of book k) m) name_count

  none_in : (names : NameSet) → any_defined book names ≡ false
  none_in names =
      ap (λ w. not (eqb (bit_and names.set w) none)) empty_word
      ∙ ap (λ z. not (eqb z none)) (and_zero_r names.set)

  empty_idle : (s : List ℕ) → wants_defined book s ≡ false
  unfolding some
  empty_idle s =
      some_same (λ j. any_defined book ((picture_table s).label j).wanted) (λ j. false) (picture_table s).rows 0
      (λ k a b. none_in ((picture_table s).label k).wanted)
      ∙ nowhere (picture_table s).rows 0
    where
      nowhere : (n j : ℕ) → some (λ j. false) n j ≡ false
      nowhere zero j = refl
      nowhere (suc n) j = nowhere n (j + 1)

  pub empty_unfolded : (limits : Limits) (s : List ℕ) → unfolded_file limits book s ≡ s
  empty_unfolded limits s = file_own limits book s (empty_idle s)

  pub empty_unfolds : (limits : Limits) (s : List ℕ) → Readable limits s → Unfolds limits book s
  unfolding excludes_none
  empty_unfolds limits s r = record {
    excluding = at_each (λ j. not (any_defined book ((picture_table s).label j).excluded)) (picture_table s).rows 0
        (λ k a b. ap not (none_in ((picture_table s).label k).excluded));
    few = few_own limits s r book (empty_idle s);
    shallow = shallow_own limits s r book (empty_idle s);
  }

  empty_once : named_once book ≡ true
  unfolding named_once each
  empty_once = rw empty

  empty_free : T (acyclic picture_signature (tbox_of book))
  empty_free = (acyclic_exactly picture_signature (tbox_of book)).1 (λ n w. none_defined n (begins n n w))
    where
      none_defined : (n : ℕ) → T (picture_signature.has (tbox_of book).defined n) → ⊥
      none_defined n t =
          clash (has none n) (subst (λ w. T (has (w % 2 ^ name_count) n)) empty_word t)
          (false_is (has none n) (has_none n))

      begins : (n m : ℕ) → Chain picture_signature (tbox_of book) n m → T (picture_signature.has (tbox_of book).defined n)
      begins n m (one a b d h) = d
      begins n m (more a c b d h w) = d

  module _ (form : definitions_form book ≡ true) where
    pub empty_definable : (limits : Limits) → Definable limits book
    empty_definable limits = record {
      form = form;
      readable = λ k l. absurd (omega (arith, empty));
      once = empty_once;
      free = empty_free;
      unfolds = λ k l. absurd (omega (arith, empty));
    }

    pub empty_asked : (limits : Limits) (given : List Picture) → AllOf (λ p. Readable limits p.file) given →
        definitions_asked limits book given ≡ yes
    empty_asked limits given r = definable_asked limits book given (empty_definable limits) (each_unfolds given r)
      where
        each_unfolds : (ps : List Picture) → AllOf (λ p. Readable limits p.file) ps →
            AllOf (λ p. Unfolds limits book p.file) ps
        each_unfolds [] h = tt
        each_unfolds (p ∷ ps) h = (empty_unfolds limits p.file h.0, each_unfolds ps h.1)

-- ---- the end field alone

pub end_count : definition_count end_bytes ≡ 0
unfolding field_count fields_from field_with field_place end_bytes
end_count = refl

pub end_form : definitions_form end_bytes ≡ true
unfolding definitions_form fields_form field_count fields_from field_with field_place ends_at end_bytes be be_bytes each
end_form = refl
