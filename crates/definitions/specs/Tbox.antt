-- The definitions of a book, by name.
--   defines, defined_word   name n is defined; the defined names as a set
--   place_of                the place of the definition of a name: the first that has it (26: there is no other)
--   tbox_of                 the definitions of the theory
use Rattle.std.specs.Prelude.{ℕ, eqb, Bool, List}
use Rattle.table.specs.Layout.{name_count}
use Rattle.table.specs.NameSet.{set_below}
use Rattle.table.specs.Range.{some}
use Rattle.ale.specs.PictureSignature.{picture_signature}
use Rattle.ale.specs.Rows.{first_from}
use Rattle.tbox.specs.Definitions.{Definitions}
use Rattle.meaning.specs.Meaning.{picture_table, set_at}
use Rattle.definitions.specs.Form.{definition_count, definition_file, name_of}

abbrev pub defines : List ℕ → ℕ → Bool
defines book n = some (λ k. eqb (name_of book k) n) (definition_count book) 0

unfoldable pub defined_word : List ℕ → ℕ
defined_word book = set_below (defines book) name_count

abbrev pub place_of : List ℕ → ℕ → ℕ
place_of book n = first_from (λ k. eqb (name_of book k) n) 0 (definition_count book)

abbrev pub tbox_of : List ℕ → Definitions picture_signature
tbox_of book =
    record { defined = set_at (defined_word book); picture = λ n. picture_table (definition_file book (place_of book n)) }
