-- 02, U3, "Every call but the plain test takes it": what is asked of given pictures under a definitions book before the
-- first 14, and what conditions 2 and 3 suppose of two.
--   one, pair         the pictures that a call is given: one, which is the first input; two
--   under_asked        2 to 13 of the given pictures in turn, then the questions of the definitions book
--   lent_under         1, and those. The argument after the limits says whether the buffers are long enough
--   AcceptableUnder   "Conditions 2 and 3 suppose 25 to 30, and 2 to 13 for the definitions' pictures, answered yes",
--                     and as before 2 to 13 for both pictures; 14 is asked of the unfolded ones
use Rattle.std.specs.Prelude.{◌≤◌, ℕ, Bool, List, [], ◌∷◌}
use Rattle.table.specs.declared.layout.Limits.{Limits}
use Rattle.picture.specs.Asked.{and_then, room_asked, Asked}
use Rattle.picture.specs.Readable.{Readable}
use Rattle.picture.specs.declared.answer.Input.TheVariants.{First, Second}
use Rattle.meaning.specs.NormalTable.{merged_count}
use Rattle.definitions.specs.Asked.{Picture, asked_of, definitions_asked, read_of}
use Rattle.definitions.specs.Unfolded.{Definable, Unfolds, unfolded_file}

abbrev pub one : List ℕ → List Picture
one picture = record { input = First; file = picture } ∷ []

abbrev pub pair : List ℕ → List ℕ → List Picture
pair first second = record { input = First; file = first } ∷ record { input = Second; file = second } ∷ []

unfoldable pub under_asked : Limits → List ℕ → List Picture → Asked
under_asked limits tbox given = and_then (asked_of (read_of limits) given) (definitions_asked limits tbox given)

unfoldable pub lent_under : Limits → Bool → List ℕ → List Picture → Asked
lent_under limits enough tbox given = and_then (room_asked enough) (under_asked limits tbox given)

pub record AcceptableUnder (limits : Limits) (tbox first second : List ℕ) : Type 0 where
  pub definable : Definable limits tbox
  pub first_readable : Readable limits first
  pub second_readable : Readable limits second
  pub first_unfolds : Unfolds limits tbox first
  pub second_unfolds : Unfolds limits tbox second
  pub first_few : merged_count limits (unfolded_file limits tbox first) ≤ limits.rows
  pub second_few : merged_count limits (unfolded_file limits tbox second) ≤ limits.rows
