-- A book of the end field alone, as the code finds it.
--   ends_count, ends_form   it has no definitions, and the form of a book
use Prim.Native.Nat.{ℕ}
use borrow.Author.Tests.{eqb-true}
use lib.Dec.{eqb, leb}
use lib.ListN.{get_or, length}
use mathlib.Core.Bool.{◌&&◌, false, true}
use mathlib.Core.List.{List}
use mathlib.Core.Path.{◌≡◌, ap}
use Rattle.table.proofs.Bools.{both}
use Rattle.table.specs.Fields.{ends_at}
use Rattle.table.specs.Layout.{end_length, end_size, end_tag, length_offset, number_size}
use Rattle.table.specs.Number.{be}
use Rattle.table.specs.Range.{each}
use Rattle.fields.specs.Form.{field_count, field_place, field_with, fields_form, fields_from, place_after}
use Rattle.definitions.specs.Form.{definition_count, definition_tag, definitions_form}

module _ (book : List ℕ) (ends : ends_at book 0 ≡ true) where
  no_field : field_with definition_tag book 0 ≡ false
  unfolding field_with ends_at
  no_field =
      let (long, rest) = both (eqb (length book) end_size)
      (eqb (get_or book 0 0) end_tag && eqb (be book length_offset number_size) end_length) ends in
      let (tagged, empty) = both (eqb (get_or book 0 0) end_tag) (eqb (be book length_offset number_size) end_length) rest in
      ap (λ (t : ℕ). eqb t definition_tag && leb (place_after book 0) (length book))
      (eqb-true (get_or book 0 0) end_tag tagged)

  pub ends_count : definition_count book ≡ 0
  unfolding field_count fields_from field_place
  ends_count = rw no_field

  pub ends_form : definitions_form book ≡ true
  unfolding definitions_form fields_form field_place each
  ends_form = rw (ends_count, ends)
