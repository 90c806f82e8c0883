-- What is answered in all, and what is found.
--   refused_form, refused_reading, refused_names   a no of 25, of 2 to 13, of 26
--   pictures_left                                  where they are answered yes, 27 to 30 are left
--   found_ready                                    where all is yes, what was found is all that unfolding needs
--   opens_empty                                    the end field alone
use Prim.Native.Nat.{◌+◌, ◌<◌, ◌≤◌, suc, zero, ℕ}
use mathlib.Core.Bool.{Bool, false, true}
use mathlib.Core.List.{List}
use mathlib.Core.Path.{◌∙◌, ◌≡◌, ap, refl, sym}
use native.Mathlib.Omega.{arith}
use lib.ListN.{length}
use Rattle.std.proofs.Common.{Err, Ok}
use Rattle.table.specs.Bounds.{Bounded}
use Rattle.table.specs.Fields.{ends_at}
use Rattle.table.specs.Layout.{name_count}
use Rattle.table.specs.NameSet.{none}
use Rattle.table.specs.NameValues.{set_of}
use Rattle.table.specs.declared.layout.Limits.{Limits}
use Rattle.picture.specs.Asked.{and_then, Asked, yes}
use Rattle.picture.specs.Readable.{Readable}
use Rattle.picture.specs.Refusal.{refusal}
use Rattle.picture.specs.declared.answer.Input.TheVariants.{Definitions}
use Rattle.picture.specs.declared.answer.Refusal.{Refusal}
use Rattle.fields.proofs.Forms.{field_first}
use Rattle.fields.specs.Form.{listed}
use Rattle.definitions.proofs.Empty.{empty_asked}
use Rattle.definitions.proofs.Questions.{asked_definable}
use Rattle.definitions.proofs.WellFormed.{DefinitionsOf, form_exactly, form_number}
use Rattle.definitions.specs.Asked.{Picture, asked_of, definitions_asked, definitions_of, question, read_of}
use Rattle.definitions.specs.Form.{definition_count, definitions_form}
use Rattle.definitions.specs.Refusals.{AllOf}
use Rattle.definitions.specs.Unfolded.{named_once}
use Rattle.definitions_reader.proofs.Indexes.{index_all, index_start, indexes_once}
use Rattle.definitions_reader.specs.Index.{Indexes}
use Rattle.definitions_reader.specs.declared.index.Index.{Index}
use Rattle.unfold_tables.specs.Ready.{Ready}
use Rattle.definitions_asked.specs.Asking.{pictures_all}
use Rattle.definitions_asked.specs.Given.{Given, Opens, given_of}
use Rattle.definitions_asked.specs.Lots.{count_of, picture_of}
use Rattle.definitions_asked.specs.declared.lots.Lot.{Lot}

module _ (limits : Limits) (tbox : List ℕ) (given : List Picture) where
  abbrev after_reading : Asked
  after_reading = and_then (question 26 Definitions (named_once tbox)) (pictures_all limits tbox given)

  abbrev after_form : Asked
  after_form = and_then (asked_of (read_of limits) (definitions_of tbox)) after_reading

  pub refused_form : definitions_form tbox ≡ false → definitions_asked limits tbox given ≡ Err (refusal 25 Definitions)
  unfolding definitions_asked
  refused_form e = ap (λ b. and_then (question 25 Definitions b) after_form) e

  module _ (form : definitions_form tbox ≡ true) where
    form_left : definitions_asked limits tbox given ≡ after_form
    unfolding definitions_asked
    form_left = ap (λ b. and_then (question 25 Definitions b) after_form) form

    pub refused_reading : (r : Refusal) → asked_of (read_of limits) (definitions_of tbox) ≡ Err r →
        definitions_asked limits tbox given ≡ Err r
    refused_reading r e = form_left ∙ ap (λ a. and_then a after_reading) e

    module _ (reads : asked_of (read_of limits) (definitions_of tbox) ≡ yes) where
      reading_left : (b : Bool) → named_once tbox ≡ b →
          definitions_asked limits tbox given ≡ and_then (question 26 Definitions b) (pictures_all limits tbox given)
      reading_left b e =
          form_left ∙ ap (λ a. and_then a after_reading) reads
          ∙ ap (λ t. and_then (question 26 Definitions t) (pictures_all limits tbox given)) e

      pub refused_names : named_once tbox ≡ false → definitions_asked limits tbox given ≡ Err (refusal 26 Definitions)
      refused_names e = reading_left false e

      pub pictures_left : named_once tbox ≡ true → definitions_asked limits tbox given ≡ pictures_all limits tbox given
      pictures_left e = reading_left true e

  pub found_ready : Bounded limits → (index : Index) → Indexes tbox index → definitions_asked limits tbox given ≡ yes →
      Ready limits tbox index.starts (set_of index.defined)
  found_ready bounded index so all =
      let definable = (asked_definable limits tbox given all).0 in
      record {
        bounded = bounded;
        definable = definable;
        opened = so.opened limits bounded definable.readable;
        agrees = so.agrees;
      }

-- ---- the end field alone

all_listed : (P : List ℕ → Type 0) (f : ℕ → Picture) (more k : ℕ) →
    ((j : ℕ) → k ≤ j → j < k + more → P (f j).file) → AllOf (λ p. P p.file) (listed f more k)
all_listed P f zero k h = tt
all_listed P f (suc more) k h =
    (h k (omega arith) (omega arith), all_listed P f more (k + 1) (λ j a b. h j (omega arith) (omega arith)))

module _ (tbox : List ℕ) (ends : ends_at tbox 0 ≡ true) where
  alone : DefinitionsOf tbox 0
  alone = record {
    fields = record {
      most = omega arith;
      fields = λ k l. absurd (omega arith);
      ends = ap (ends_at tbox) (field_first tbox) ∙ ends;
    };
    name_byte = λ k l. absurd (omega arith);
    name_below = λ k l. absurd (omega arith);
  }

  none_there : definition_count tbox ≡ 0
  none_there = form_number tbox 0 alone

  has_form : definitions_form tbox ≡ true
  has_form = (form_exactly tbox).1 (0, alone)

  pub opens_empty : (limits : Limits) (first : List ℕ) (rest : Lot) → Given limits first rest → (index : Index) →
      length index.starts ≡ name_count → set_of index.defined ≡ none →
      Opens limits tbox (given_of first rest) (Ok index)
  opens_empty limits first rest given index size empty =
      let read = given.rest_read in
      let all = empty_asked tbox none_there has_form limits (given_of first rest) (
        given.first_read,
        all_listed (Readable limits) (picture_of rest) (count_of rest) 0
            (λ j a b. read.readable j (omega arith)),
      ) in
      let indexed = indexes_once tbox index true (index_all tbox has_form index true 0 (sym none_there)
      (index_start tbox index.starts (set_of index.defined) empty size)) refl in
      (all, found_ready limits tbox (given_of first rest) given.bounded index indexed all)
