-- Worked cases of a definitions book, computed from bytes. Names 3 and 5 are {3} = 8 and {5} = 32; r is 8, s is 9.
--   define     a definition, before what follows it
--   form       a book, and whether 25 is answered yes
--   asked      limits, a book, the given pictures, and what is answered to all questions
--   unfolded   limits, a book, a picture, and the unfolded file
--   forms_pass, asked_pass, unfolded_pass   all of them
use Prim.Native.Nat.{ℕ, ◌+◌, suc, zero}
use lib.ListN.{length}
use mathlib.Core.Bool.{Bool, false, true}
use mathlib.Core.List.{List, [], ◌++◌, ◌∷◌}
use mathlib.Core.Path.{◌≡◌, refl}
use Rattle.std.proofs.Common.{Err}
use Rattle.table.specs.Fields.{end_bytes, ends_at, row_of}
use Rattle.table.specs.NameSet.{has, set_below}
use Rattle.table.specs.Number.{be, be_bytes}
use Rattle.table.specs.Range.{each, some}
use Rattle.table.specs.declared.layout.Limits.{Limits}
use Rattle.fields.specs.Form.{field_count, field_place, field_value, field_with, fields_form, fields_from}
use Rattle.picture.specs.Asked.{read_asked, Asked, yes}
use Rattle.picture.specs.Depth.{depth, depth_in}
use Rattle.picture.specs.Questions.{end_field, field_at, kind_ok, length_for, parent_ok, role_ok, row_field, tag_ok, value_field}
use Rattle.picture.specs.Read.{reading_of, scan_from}
use Rattle.picture.specs.Readable.{row_count}
use Rattle.picture.specs.Refusal.{refusal, refusal_at}
use Rattle.picture.specs.declared.answer.Input.TheVariants.{Definition, Definitions, First, Second}
use Rattle.meaning.proofs.CasePictures.{all_row, empty, end, four_rows, picture, root, row, some_row}
use Rattle.definitions.specs.Asked.{Picture, asked_of, definitions_asked}
use Rattle.definitions.specs.Form.{definition_file, definitions_form}
use Rattle.definitions.specs.Tbox.{defined_word}
use Rattle.definitions.specs.Unfolded.{excludes_none, named_once, unfolded_count, unfolded_few, unfolded_file}
use Rattle.definitions.specs.Unfolded.{unfolded_shallow}

pub data Case : Type 0 where
  form : List ℕ → Bool → Case
  asked : Limits → List ℕ → List Picture → Asked → Case
  unfolded : Limits → List ℕ → List ℕ → List ℕ → Case

abbrev ran : Case → Case
ran (form book a) = form book (definitions_form book)
ran (asked limits book given a) = asked limits book given (definitions_asked limits book given)
ran (unfolded limits book s t) = unfolded limits book s (unfolded_file limits book s)

abbrev pub run_all : List Case → List Case
run_all [] = []
run_all (c ∷ cs) = ran c ∷ run_all cs

-- ---- books, byte by byte

-- a definition of less than 256 bytes, before what follows it
abbrev pub define : ℕ → List ℕ → List ℕ → List ℕ
define name s rest = 0x61 ∷ 0 ∷ (1 + length s) ∷ name ∷ (s ++ rest)

-- name bytes alone
abbrev many_names : ℕ → List ℕ
many_names zero = end
many_names (suc n) = define 3 [] (many_names n)

abbrev pub forms : List Case
forms =
    form end true
    ∷ form [] false
    ∷ form (define 3 empty end) true
    -- the name byte
    ∷ form (define 63 empty end) true
    ∷ form (define 64 empty end) false
    ∷ form (define 3 empty (define 64 empty end)) false
    ∷ form (0x61 ∷ 0 ∷ 0 ∷ end) false
    ∷ form (define 3 [] end) true
    -- the number of fields
    ∷ form (many_names 32) true
    ∷ form (many_names 33) false
    -- heads and lengths
    ∷ form (0x51 ∷ 0 ∷ 1 ∷ 3 ∷ end) false
    ∷ form empty false
    ∷ form (0x61 ∷ 0 ∷ []) false
    ∷ form (0x61 ∷ 0 ∷ 5 ∷ 3 ∷ end) false
    ∷ form (0x61 ∷ 1 ∷ 1 ∷ 3 ∷ end) false
    -- the end field, and that the file stops there
    ∷ form (define 3 empty []) false
    ∷ form (define 3 empty (0x2F ∷ 0 ∷ [])) false
    ∷ form (define 3 empty (0x2F ∷ 0 ∷ 1 ∷ 0 ∷ [])) false
    ∷ form (define 3 empty (end ++ (0 ∷ []))) false
    ∷ form (define 3 empty (end ++ end)) false
    ∷ []

pub forms_pass : run_all forms ≡ forms
unfolding be ends_at each field_place field_value field_with fields_from field_count fields_form definitions_form
forms_pass = refl

-- ---- pictures

abbrev wants : ℕ → List ℕ
wants names = picture (root names ∷ [])

-- of no name; the last row stands as deep as there may be
abbrev chain : List ℕ
chain = picture (root 0 ∷ some_row 0 8 0 ∷ some_row 1 8 0 ∷ [])

-- names excluded in a row below the root
abbrev excluding : ℕ → List ℕ
excluding names = picture (root 0 ∷ row 0 1 8 0 0 names ∷ [])

-- wants names in a row below the root
abbrev below : ℕ → List ℕ
below names = picture (root 0 ∷ some_row 0 8 names ∷ [])

-- wants names in its root, and has two rows more
abbrev wide : ℕ → List ℕ
wide names = picture (root names ∷ some_row 0 8 0 ∷ some_row 0 9 0 ∷ [])

-- refused by 3, in the field after the first row
abbrev bad_tag : List ℕ
bad_tag = root 0 ++ (0x11 ∷ 0 ∷ 21 ∷ [])

abbrev one : List ℕ → List Picture
one s = record { input = First; file = s } ∷ []

abbrev both : List ℕ → List ℕ → List Picture
both s t = record { input = First; file = s } ∷ record { input = Second; file = t } ∷ []

abbrev pub questions : List Case
questions =
    asked four_rows end (both (wants 8) empty) yes
    ∷ asked four_rows (define 3 chain end) (both (wants 8) empty) yes
    -- 25 before all others
    ∷ asked four_rows (define 64 bad_tag end) (one (excluding 8)) (Err (refusal 25 Definitions))
    -- 2 to 13 of the definitions' pictures in their order, the byte counted from the one after the name byte; before 26
    ∷ asked four_rows (define 3 [] end) [] (Err (refusal_at 2 (Definition 0) 0))
    ∷ asked four_rows (define 16 (10 ∷ end) end) [] (Err (refusal_at 3 (Definition 0) 0))
    ∷ asked four_rows (define 3 empty (define 3 bad_tag (define 4 [] end))) [] (Err (refusal_at 3 (Definition 1) 1))
    -- 26, also of the same picture; before 27
    ∷ asked four_rows (define 3 empty (define 5 empty end)) [] yes
    ∷ asked four_rows (define 3 empty (define 5 empty (define 3 empty end))) (one (excluding 8))
    (Err (refusal 26 Definitions))
    -- 27 of the given pictures, then of the definitions, in any row; before 28
    ∷ asked four_rows (define 3 empty end) (one (excluding 32)) yes
    ∷ asked four_rows (define 3 (below 8) (define 5 (excluding 8) end)) (both empty (excluding 8))
    (Err (refusal 27 Second))
    ∷ asked four_rows (define 3 (below 8) (define 5 (excluding 8) end)) (both empty empty)
    (Err (refusal 27 (Definition 1)))
    ∷ asked four_rows (define 3 (excluding 8) end) [] (Err (refusal 27 (Definition 0)))
    -- 28, also of a ring that no given picture wants; before 29, which the ring's unfolded picture would meet
    ∷ asked four_rows (define 3 (below 8) end) (one (wide 8)) (Err (refusal 28 Definitions))
    ∷ asked four_rows (define 3 (wants 32) (define 5 (below 8) end)) (one empty) (Err (refusal 28 Definitions))
    ∷ asked four_rows (define 3 (wants 32) (define 5 (below 128) end)) (one empty) yes
    -- 29 of the given pictures, then of the definitions; before 30, which the picture before it would meet
    ∷ asked four_rows (define 3 chain end) (both (below 8) (wide 8)) (Err (refusal 29 Second))
    ∷ asked four_rows (define 3 chain (define 5 (wide 8) end)) (both (below 8) empty) (Err (refusal 29 (Definition 1)))
    ∷ asked four_rows (define 3 chain (define 5 (wide 8) end)) (both (wide 32) empty) (Err (refusal 29 First))
    -- 30 of the given pictures, then of the definitions
    ∷ asked four_rows (define 3 chain (define 5 (below 8) end)) (both empty (below 8)) (Err (refusal 30 Second))
    ∷ asked four_rows (define 3 chain (define 5 (below 8) end)) (both empty empty) (Err (refusal 30 (Definition 1)))
    ∷ []

pub asked_pass : run_all questions ≡ questions
unfolding be ends_at has some each set_below depth_in depth tag_ok length_for kind_ok role_ok parent_ok value_field
    row_field end_field field_at scan_from reading_of row_count read_asked
    field_place field_value field_with fields_from field_count fields_form definitions_form definition_file defined_word
    named_once excludes_none unfolded_count unfolded_few unfolded_shallow asked_of definitions_asked
asked_pass = refl

abbrev ten_rows : Limits
ten_rows = record { rows = 10; depth = 4 }

-- 3: name 7, and all s{1}; 5: some r{3}, and below that some s{}; row 0 wants 5 and row 1 wants 3
abbrev book : List ℕ
book =
    define 3 (picture (root 128 ∷ all_row 0 9 2 ∷ []))
    (define 5 (picture (root 0 ∷ some_row 0 8 8 ∷ some_row 1 9 0 ∷ [])) end)

abbrev pub files : List Case
files =
    -- 5's rows hang from row 0 and come first, then 3's from row 1, then 3's from 5's row
    unfolded ten_rows book (picture (root 34 ∷ all_row 0 8 8 ∷ []))
    (picture (root 2 ∷ all_row 0 8 128 ∷ some_row 0 8 128 ∷ some_row 2 9 0 ∷ all_row 1 9 2 ∷ all_row 2 9 2 ∷ []))
    -- a row below the root alone
    ∷ unfolded ten_rows book (below 8) (picture (root 0 ∷ some_row 0 8 128 ∷ all_row 1 9 2 ∷ []))
    -- a marked root gives its mark; one row takes in a definition once
    ∷ unfolded ten_rows
    (define 3 (picture (row 0 0 0 1 128 2 ∷ [])) (define 5 (picture (root 8 ∷ some_row 0 8 0 ∷ [])) end))
    (picture (root 40 ∷ [])) (picture (row 0 0 0 1 128 2 ∷ some_row 0 8 0 ∷ []))
    -- no row wants a defined name: the file as it is, whatever stands in it
    ∷ unfolded ten_rows book (1 ∷ 300 ∷ []) (1 ∷ 300 ∷ [])
    ∷ unfolded ten_rows book (picture (root 128 ∷ some_row 0 8 2 ∷ [])) (picture (root 128 ∷ some_row 0 8 2 ∷ []))
    ∷ []

pub unfolded_pass : run_all files ≡ files
unfolding be be_bytes row_of end_bytes has some set_below row_count
    field_place field_value field_with fields_from field_count definition_file defined_word unfolded_file
unfolded_pass = refl
