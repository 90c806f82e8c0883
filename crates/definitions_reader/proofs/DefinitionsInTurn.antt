-- 2 to 13 of the definitions in turn.
--   all_readable       where 2 to 13 are answered yes, the definitions are readable
use Prim.Native.Nat.{ℕ}
use mathlib.Core.List.{List}
use mathlib.Core.Path.{◌∙◌, ◌≡◌, sym}
use Rattle.table.specs.declared.layout.Limits.{Limits}
use Rattle.picture.proofs.ReadInTurn.{read_each}
use Rattle.picture.specs.declared.answer.Input.TheVariants.{Definition}
use Rattle.definitions.specs.Asked.{asked_of, definitions_of, read_of}
use Rattle.definitions.proofs.Questions.{of_definitions_is}
use Rattle.definitions.specs.Form.{definition_count, definition_file}
use Rattle.picture.specs.Asked.{yes}
use Rattle.definitions_reader.specs.Index.{AllReadable}

pub all_readable : (limits : Limits) (tbox : List ℕ) → asked_of (read_of limits) (definitions_of tbox) ≡ yes →
    AllReadable limits tbox
all_readable limits tbox e =
    read_each limits Definition (definition_file tbox) (definition_count tbox)
    (sym (of_definitions_is (read_of limits) tbox) ∙ e)
