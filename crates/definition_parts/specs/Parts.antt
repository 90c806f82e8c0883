-- The pictures of definitions as parts of the book, as the code finds them: `starts` has for each defined name where
-- its picture begins.
--   part_length_of, part_at   the picture that begins at a place: the length in its field's head less the name byte
--   Part                 a definition's picture begins there, and lies in the book
--   widest_limits        those that the code can hold (table/specs/Bounds: `Bounded`)
--   Opened               each defined name has such a place, and the picture there is readable, at the widest limits
--   Agrees               definitions of the theory are those that the code finds
use Rattle.std.specs.Prelude.{◌+◌, ◌-◌, ◌≤◌, ℕ, T, drop, get_or, length, take, true, List, ◌≡◌, Ok}
use Rattle.table.specs.Bounds.{max_depth, max_rows}
use Rattle.table.specs.Layout.{head_size, length_offset, number_size}
use Rattle.table.specs.NameSet.{has}
use Rattle.table.specs.Number.{be}
use Rattle.table.specs.declared.layout.Limits.{Limits}
use Rattle.ale.specs.PictureSignature.{picture_signature}
use Rattle.tbox.specs.Definitions.{Definitions}
use Rattle.picture.specs.Read.{reading_of}
use Rattle.picture.specs.Readable.{row_count}
use Rattle.meaning.specs.Meaning.{picture_table}

abbrev pub part_length_of : List ℕ → ℕ → ℕ
part_length_of tbox at = be tbox (at - head_size - 1 + length_offset) number_size - 1

abbrev pub part_at : List ℕ → ℕ → List ℕ
part_at tbox at = take (part_length_of tbox at) (drop at tbox)

pub record Part (tbox : List ℕ) (at : ℕ) : Type 0 where
  pub after_head : head_size + 1 ≤ at
  pub named : 1 ≤ be tbox (at - head_size - 1 + length_offset) number_size
  pub whole : at + part_length_of tbox at ≤ length tbox

abbrev pub widest_limits : Limits
widest_limits = record { rows = max_rows; depth = max_depth }

pub record Opened (tbox starts : List ℕ) (defined : ℕ) : Type 0 where
  pub parts : (n : ℕ) → has defined n ≡ true → Part tbox (get_or starts n 0)
  pub readings : (n : ℕ) → has defined n ≡ true →
      reading_of widest_limits (part_at tbox (get_or starts n 0)) ≡ Ok (row_count (part_at tbox (get_or starts n 0)))

pub record Agrees (D : Definitions picture_signature) (tbox starts : List ℕ) (defined : ℕ) : Type 0 where
  pub names : D.defined.set ≡ defined
  pub pictures : (n : ℕ) → T (picture_signature.has D.defined n) →
      D.picture n ≡ picture_table (part_at tbox (get_or starts n 0))
