-- A picture unfolded, as a file again, and the questions 26 to 30.
--   unfolded_count   what 29 counts: the rows, once as many have come up as there may be
--   wants_defined    a row wants a defined name; else unfolding changes nothing (proofs/Idle)
--   unfolded_file    the unfolded picture as a file: the picture itself where no row wants a defined name
--   named_once       26
--   excludes_none    27
--   unfolded_few     29
--   unfolded_shallow 30
--   Definable       25 to 30 are answered yes of a book and of its definitions, and 2 to 13 of their pictures
--   Unfolds         27, 29 and 30 are answered yes of a picture
use Rattle.std.specs.Prelude.{ℕ, ◌<◌, T, eqb, leb, length, Bool, ◌||◌, not, true, List, ◌≡◌}
use Rattle.table.specs.NameSet.{intersection, none}
use Rattle.table.specs.Pick.{pick}
use Rattle.table.specs.Range.{each, some}
use Rattle.table.specs.declared.layout.Limits.{Limits}
use Rattle.ale.specs.PictureSignature.{NameSet, picture_signature}
use Rattle.ale.specs.Table.{Table}
use Rattle.tbox.specs.Acyclic.{acyclic}
use Rattle.tbox.specs.Unfold.{grown, unfold_rows, unfolded}
use Rattle.picture.specs.Depth.{depth}
use Rattle.picture.specs.Readable.{Readable}
use Rattle.meaning.specs.File.{file_of}
use Rattle.meaning.specs.Meaning.{picture_table}
use Rattle.definitions.specs.Form.{definition_count, definition_file, definitions_form, name_of}
use Rattle.definitions.specs.Tbox.{defined_word, tbox_of}

unfoldable pub unfolded_count : Limits → List ℕ → List ℕ → ℕ
unfolded_count limits book s = length (grown picture_signature (tbox_of book) (picture_table s) limits.rows)

abbrev pub unfolded_table : Limits → List ℕ → List ℕ → Table picture_signature
unfolded_table limits book s = unfolded picture_signature (tbox_of book) limits.rows (picture_table s)

-- a set of names has a defined one
abbrev pub any_defined : List ℕ → NameSet → Bool
any_defined book names = not (eqb (intersection names.set (defined_word book)) none)

abbrev pub wants_defined : List ℕ → List ℕ → Bool
wants_defined book s = some (λ j. any_defined book ((picture_table s).label j).wanted) (picture_table s).rows 0

unfoldable pub unfolded_file : Limits → List ℕ → List ℕ → List ℕ
unfolded_file limits book s =
    pick (wants_defined book s) (file_of (unfold_rows picture_signature (tbox_of book) limits.rows (picture_table s))) s

-- 26. Is no name defined twice?
unfoldable pub named_once : List ℕ → Bool
named_once book =
    each (λ k. each (λ j. eqb j k || not (eqb (name_of book j) (name_of book k))) (definition_count book) 0)
    (definition_count book) 0

-- 27. Is no defined name excluded?
unfoldable pub excludes_none : List ℕ → List ℕ → Bool
excludes_none book s = each (λ j. not (any_defined book ((picture_table s).label j).excluded)) (picture_table s).rows 0

-- 29. Has the unfolded picture at most 256 rows?
unfoldable pub unfolded_few : Limits → List ℕ → List ℕ → Bool
unfolded_few limits book s = leb (unfolded_count limits book s) limits.rows

-- 30. Is its depth at most 12?
unfoldable pub unfolded_shallow : Limits → List ℕ → List ℕ → Bool
unfolded_shallow limits book s =
    each (λ j. leb (depth (unfolded_table limits book s).parent j) limits.depth)
    (unfolded_table limits book s).rows 0

pub record Unfolds (limits : Limits) (book s : List ℕ) : Type 0 where
  pub excluding : excludes_none book s ≡ true
  pub few : unfolded_few limits book s ≡ true
  pub shallow : unfolded_shallow limits book s ≡ true

pub record Definable (limits : Limits) (book : List ℕ) : Type 0 where
  pub form : definitions_form book ≡ true
  pub readable : (k : ℕ) → k < definition_count book → Readable limits (definition_file book k)
  pub once : named_once book ≡ true
  pub free : T (acyclic picture_signature (tbox_of book))
  pub unfolds : (k : ℕ) → k < definition_count book → Unfolds limits book (definition_file book k)
