-- 02, U3, "up to 32 fields tag 61, value one name byte and then a picture file, and the end field", and 25, "has the
-- definitions book this form to its last byte (heads, lengths, number of fields, name bytes), names below 64".
--   definition_tag       the tag of a definition
--   definition_count     how many definitions a book has
--   name_of              the name that definition k defines: the first byte of its value
--   definition_file      its picture: the value without that byte
--   named               it has a name byte, and that is a name
--   definitions_form     25
use Rattle.std.specs.Prelude.{ℕ, leb, ltb, drop, get_or, length, Bool, ◌&&◌, List}
use Rattle.table.specs.Layout.{name_count}
use Rattle.table.specs.Range.{each}
use Rattle.fields.specs.Form.{field_count, field_value, fields_form}

abbrev pub definition_tag : ℕ
definition_tag = 0x61

abbrev pub definition_count : List ℕ → ℕ
definition_count book = field_count definition_tag book

abbrev pub name_of : List ℕ → ℕ → ℕ
name_of book k = get_or (field_value book k) 0 0

unfoldable pub definition_file : List ℕ → ℕ → List ℕ
definition_file book k = drop 1 (field_value book k)

abbrev pub named : List ℕ → ℕ → Bool
named book k = leb 1 (length (field_value book k)) && ltb (name_of book k) name_count

-- 25
unfoldable pub definitions_form : List ℕ → Bool
definitions_form book = fields_form definition_tag book && each (named book) (definition_count book) 0
