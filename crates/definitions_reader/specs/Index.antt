-- What the index of a definitions book says of it.
--   picture_start   where the picture of definition k begins: after its field's head and its name byte
--   AllReadable    2 to 13 of every definition are answered yes
--   Indexes        the defined names, and where each name's picture begins
--   Indexed        26 is answered yes with those, or no with the defined names
use Rattle.std.specs.Prelude.{◌+◌, ◌<◌, ℕ, false, true, List, MatchResult, Result, ◌≡◌}
use Rattle.table.specs.Bounds.{Bounded}
use Rattle.table.specs.Layout.{head_size}
use Rattle.table.specs.NameValues.{set_of}
use Rattle.table.specs.declared.layout.Limits.{Limits}
use Rattle.table.specs.declared.names.Names.{Names}
use Rattle.picture.specs.Readable.{Readable}
use Rattle.fields.specs.Form.{field_place}
use Rattle.definitions.specs.Form.{definition_count, definition_file}
use Rattle.definitions.specs.Tbox.{defined_word, tbox_of}
use Rattle.definitions.specs.Unfolded.{named_once}
use Rattle.definition_parts.specs.Parts.{Agrees, Opened}
use Rattle.definitions_reader.specs.declared.index.Index.{Index}

abbrev pub picture_start : List ℕ → ℕ → ℕ
picture_start tbox k = field_place tbox k + head_size + 1

abbrev pub AllReadable : Limits → List ℕ → Type 0
AllReadable limits tbox = (k : ℕ) → k < definition_count tbox → Readable limits (definition_file tbox k)

pub record Indexes (tbox : List ℕ) (index : Index) : Type 0 where
  pub names : set_of index.defined ≡ defined_word tbox
  pub agrees : Agrees (tbox_of tbox) tbox index.starts (set_of index.defined)
  pub opened : (limits : Limits) → Bounded limits → AllReadable limits tbox →
      Opened tbox index.starts (set_of index.defined)

abbrev pub Indexed : List ℕ → Result Index Names → Type 0
Indexed tbox r =
    MatchResult r
    (λ index. (named_once tbox ≡ true) × Indexes tbox index)
    (λ names. (named_once tbox ≡ false) × (set_of names ≡ defined_word tbox))
