-- An opened definitions book, by what the code has of it.
--   picture_of   the picture of a name
--   Agreeing     definitions of the theory are those of the book
use Rattle.std.specs.Prelude.{ℕ, get_or, List}
use Rattle.table.specs.NameValues.{set_of}
use Rattle.ale.specs.PictureSignature.{picture_signature}
use Rattle.tbox.specs.Definitions.{Definitions}
use Rattle.definition_parts.specs.declared.opened.Tbox.{Tbox}
use Rattle.definition_parts.specs.Parts.{Agrees, part_at}

abbrev pub picture_of : Tbox → ℕ → List ℕ
picture_of tbox n = part_at tbox.bytes.now (get_or tbox.starts.now n 0)

abbrev pub Agreeing : Definitions picture_signature → Tbox → Type 0
Agreeing D tbox = Agrees D tbox.bytes.now tbox.starts.now (set_of tbox.defined)
