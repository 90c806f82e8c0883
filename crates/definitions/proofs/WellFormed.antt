-- What 25 asks, in other words.
--   DefinitionsOf   n definitions stand in the book, no more than it may have, each with a name byte that is a name,
--                   and then the end field, where the file stops
--   form_exactly    25 is answered yes exactly if the book is of n definitions for some n;
--   form_number     and it has that many
--   value_parts     a definition's value is its name byte and then its picture
use Prim.Native.Nat.{◌<◌, ◌≤◌, ℕ}
use borrow.Author.Tests.{le-leb, lt-ltb}
use lib.ListN.{length}
use lib.Seq.{drop-cons}
use mathlib.Core.Bool.{true}
use mathlib.Core.List.{List, ◌∷◌}
use mathlib.Core.Logic.{◌↔◌}
use mathlib.Core.Path.{◌≡◌}
use native.Mathlib.Omega.{arith}
use Rattle.table.proofs.Bools.{both}
use Rattle.table.proofs.Ranges.{at_each}
use Rattle.table.specs.Layout.{end_tag, name_count}
use Rattle.table.specs.Range.{each}
use Rattle.fields.proofs.Forms.{FieldsOf, count_form, form_count}
use Rattle.fields.specs.Form.{field_value, fields_form}
use Rattle.definitions.specs.Form.{definition_count, definition_file, definition_tag, definitions_form, name_of, named}
use Rattle.definitions.proofs.Coverings.{name_below, name_byte}

tag_other : definition_tag ≡ end_tag → ⊥
tag_other e = omega (arith, e)

module _ (book : List ℕ) where
  pub record DefinitionsOf (n : ℕ) : Type 0 where
    pub fields : FieldsOf definition_tag book n
    pub name_byte : (k : ℕ) → k < n → 1 ≤ length (field_value book k)
    pub name_below : (k : ℕ) → k < n → name_of book k < name_count

  pub form_number : (n : ℕ) → DefinitionsOf n → definition_count book ≡ n
  form_number n d = (form_count definition_tag book tag_other n d.fields).1

  pub form_exactly : (definitions_form book ≡ true) ↔ ((n : ℕ) × DefinitionsOf n)
  unfolding definitions_form
  form_exactly = (
    λ h. (
      definition_count book,
      record {
        fields = count_form definition_tag book tag_other
            (both (fields_form definition_tag book) (each (named book) (definition_count book) 0) h).0;
        name_byte = name_byte book h;
        name_below = name_below book h;
      },
    ),
    λ (n, d). rw (form_count definition_tag book tag_other n d.fields).0
        (at_each (named book) (definition_count book) 0 (λ k a b. has_name n d k (omega (arith, form_number n d)))),
  )
    where
      has_name : (n : ℕ) → DefinitionsOf n → (k : ℕ) → k < n → named book k ≡ true
      has_name n d k l =
          rw (
            le-leb 1 (length (field_value book k)) (d.name_byte k l),
            lt-ltb (name_of book k) name_count (d.name_below k l),
          )

  pub value_parts : (k : ℕ) → 1 ≤ length (field_value book k) →
      field_value book k ≡ name_of book k ∷ definition_file book k
  unfolding definition_file
  value_parts k l = drop-cons (field_value book k) 0 0 (omega arith)
