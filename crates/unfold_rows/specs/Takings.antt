-- What a row takes in, by the values that the code has.
--   wants_names  a row of a picture wants one of some names
--   wanting_in   a defined name that is wanted and was not taken in
--   Took        the root's names and mark were united with a label, and its name was noted
--   Shows       a label with what was taken in, as the theory has it
--   TakenIn     only defined names were taken in, and they are those that the theory takes in, over all definitions
--               that agree with the book
use Rattle.std.specs.Prelude.{◌<◌, ◌^◌, ℕ, eqb, Bool, ◌&&◌, not, true, List, ◌≡◌}
use Rattle.table.specs.Fields.{excluded_of, impossible_of, wanted_of}
use Rattle.table.specs.Layout.{name_count}
use Rattle.table.specs.NameSet.{has, union}
use Rattle.table.specs.NameValues.{overlap, set_of}
use Rattle.table.specs.Pick.{pick}
use Rattle.table.specs.Range.{some}
use Rattle.ale.specs.PictureSignature.{picture_signature}
use Rattle.ale.specs.Rows.{member}
use Rattle.tbox.specs.Definitions.{Definitions}
use Rattle.tbox.specs.Unfold as Theory
use Rattle.meaning.specs.File.{mark_code}
use Rattle.meaning.specs.Meaning.{picture_table}
use Rattle.definition_parts.specs.Parts.{Agrees}
use Rattle.unfold_rows.specs.declared.take.Taking.{Taking}

abbrev pub wants_names : List ℕ → ℕ → Bool
wants_names s names = some (λ j. overlap ((picture_table s).label j).wanted.set names) (picture_table s).rows 0

abbrev pub wanting_in : Taking → ℕ → ℕ → Bool
wanting_in s defined n = has defined n && (has (set_of s.wanted) n && not (has (set_of s.taken) n))

pub record Took (s : Taking) (picture : List ℕ) (name : ℕ) (r : Taking) : Type 0 where
  pub wanted : set_of r.wanted ≡ union (set_of s.wanted) (wanted_of picture 0)
  pub excluded : set_of r.excluded ≡ union (set_of s.excluded) (excluded_of picture 0)
  pub impossible : r.impossible ≡ pick (eqb (impossible_of picture 0) 1) 1 s.impossible
  pub taken : set_of r.taken ≡ union (set_of s.taken) (2 ^ name)
  pub wanted_below : wanted_of picture 0 < 2 ^ name_count
  pub excluded_below : excluded_of picture 0 < 2 ^ name_count

pub record Shows (t : Taking) (s : Theory.Taking picture_signature) : Type 0 where
  pub wanted : set_of t.wanted ≡ s.label.wanted.set
  pub excluded : set_of t.excluded ≡ s.label.excluded.set
  pub impossible : t.impossible ≡ mark_code s.label.bottom
  pub taken : (n : ℕ) → has (set_of t.taken) n ≡ member n s.taken

pub record TakenIn (start : Taking) (tbox starts : List ℕ) (defined : ℕ) (r : Taking) : Type 0 where
  pub known : (n : ℕ) → has (set_of r.taken) n ≡ true → has defined n ≡ true
  pub shows : (D : Definitions picture_signature) (s : Theory.Taking picture_signature) → Agrees D tbox starts defined →
      Shows start s → Shows r (Theory.take_in picture_signature D name_count s)
