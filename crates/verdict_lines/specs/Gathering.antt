-- What the functions that gather the lines ask and leave.
--   line_size, output_size   the most bytes of a line of the map, and of all lines
--   Added                  a text put into a buffer from a place on, and the place after it
--   MapIn                  a buffer begins with a map of n bytes, of tables that are no longer than allowed
--   Told                   so it does where the verdict is yes
--   Front                  a buffer begins with a text that is n bytes long
use Rattle.std.specs.Prelude.{◌*◌, ◌+◌, ◌<◌, ◌≤◌, ℕ, length, take, List, ◌≡◌, Ok, Result}
use Rattle.std.specs.Counts.{IsPrefixLen}
use Rattle.table.specs.Bounds.{max_rows}
use Rattle.table.specs.Layout.{end_size}
use Rattle.table.specs.Put.{put}
use Rattle.homomorphism.specs.Layout.{image_of, image_place}
use Rattle.subsumption.specs.declared.verdict.Verdict.TheVariants.{Yes}
use Rattle.subsumption.specs.declared.verdict.Verdict.{Verdict}
use Rattle.picture.specs.declared.answer.Refusal.{Refusal}
use Rattle.verdict_lines.specs.Lines.{map_rows, text}

-- no row and no image has a greater number than 255
abbrev pub line_size : ℕ
line_size = length (text "255 255\n")

abbrev pub output_size : ℕ
output_size = length (text "verdict yes\n") + line_size * max_rows

pub record Added (d : List ℕ) (at : ℕ) (s : List ℕ) (after : ℕ) (d' : List ℕ) : Type 0 where
  pub place : after ≡ at + length s
  pub bytes : d' ≡ put d at s

pub record MapIn (e : List ℕ) (n : ℕ) : Type 0 where
  pub whole : image_place 0 + end_size ≤ n
  pub few : n ≤ image_place max_rows + end_size
  pub inside : n ≤ length e
  pub small : (i : ℕ) → i < map_rows n → image_of e i < max_rows

abbrev pub Told : Result Verdict Refusal → List ℕ → Type 0
Told verdict e = (n : ℕ) → verdict ≡ Ok (Yes n) → MapIn e n

pub record Front (d s : List ℕ) (n : ℕ) : Type 0 where
  pub long : n ≡ length s
  pub bytes : take n d ≡ s
  pub counts : IsPrefixLen n d
