-- Worked cases of reading, computed: K1, each question of 2 to 13 with the row and the byte that its refusal carries,
-- and a picture at each limit, as one list with one theorem.
use mathlib.Core.Path.{◌≡◌, refl}
use mathlib.Core.List.{List, [], ◌∷◌, ◌++◌}
use Prim.Native.Nat.{ℕ}
use lib.ListN.{replicate}
use Rattle.std.proofs.Common.{Err, Ok, Result}
use Rattle.table.specs.Number.{be}
use Rattle.table.specs.declared.layout.Limits.{Limits}
use Rattle.picture.specs.declared.answer.Input.TheVariants.{First}
use Rattle.picture.specs.Depth.{depth_in, depth}
use Rattle.picture.specs.Questions.{tag_ok, length_for, kind_ok, role_ok, parent_ok, value_field, row_field, end_field, field_at}
use Rattle.picture.specs.declared.answer.Refusal.{Refusal}
use Rattle.picture.specs.Read.{answer_of, scan_from, reading_of}

pub data Case : Type 0 where
  case : List ℕ → Result ℕ Refusal → Case

-- small limits, so that small pictures meet them
abbrev small : Limits
small = record { rows = 3; depth = 1 }

abbrev row : ℕ → ℕ → ℕ → ℕ → List ℕ
row parent kind role impossible = 0x10 ∷ 0 ∷ 0x15 ∷ 0 ∷ parent ∷ kind ∷ role ∷ impossible ∷ replicate 16 0

abbrev root : List ℕ
root = row 0 0 0 0

abbrev end : List ℕ
end = 0x2F ∷ 0 ∷ 0 ∷ []

-- refused by a question, with the rows before the field and the byte where it begins
abbrev failed : ℕ → ℕ → ℕ → Result ℕ Refusal
failed number row byte = Err (record { number = number; input = First; row = row; byte = byte })

abbrev ran : Case → Case
ran (case s a) = case s (answer_of small First s)

abbrev pub run_all : List Case → List Case
run_all [] = []
run_all (c ∷ cs) = ran c ∷ run_all cs

abbrev pub cases : List Case
cases =
    -- K1
    case ((0x10 ∷ 0x00 ∷ 0x15 ∷ []) ++ (replicate 21 0 ++ (0x2F ∷ 0x00 ∷ 0x00 ∷ []))) (Ok 1)
    -- 2, 3, 4
    ∷ case [] (failed 2 0 0)
    ∷ case (root ++ (0x2F ∷ 0 ∷ [])) (failed 2 1 24)
    ∷ case (root ++ (0x11 ∷ 0 ∷ 0 ∷ [])) (failed 3 1 24)
    ∷ case (root ++ (0x10 ∷ 0 ∷ 20 ∷ [])) (failed 4 1 24)
    ∷ case (root ++ (0x2F ∷ 1 ∷ 0 ∷ [])) (failed 4 1 24)
    -- 5, also of a row that is cut off; 6
    ∷ case (root ++ (row 0 1 8 0 ++ (row 0 2 8 0 ++ end))) (Ok 3)
    ∷ case (root ++ (row 0 1 8 0 ++ (row 0 2 8 0 ++ (row 0 2 8 0 ++ end)))) (failed 5 3 72)
    ∷ case (root ++ (row 0 1 8 0 ++ (row 0 2 8 0 ++ (0x10 ∷ 0 ∷ 21 ∷ [])))) (failed 5 3 72)
    ∷ case (root ++ (0x10 ∷ 0 ∷ 21 ∷ 0 ∷ [])) (failed 6 1 24)
    -- 7, also with bytes after the end field; 8
    ∷ case end (failed 7 0 0)
    ∷ case (end ++ end) (failed 7 0 0)
    ∷ case (root ++ (end ++ (0 ∷ []))) (failed 8 1 24)
    -- 9, 10, 11
    ∷ case (row 0 1 0 0 ++ end) (failed 9 0 0)
    ∷ case (root ++ (row 0 0 8 0 ++ end)) (failed 9 1 24)
    ∷ case (root ++ (row 0 3 8 0 ++ end)) (failed 9 1 24)
    ∷ case (row 0 0 8 0 ++ end) (failed 10 0 0)
    ∷ case (root ++ (row 0 1 31 0 ++ end)) (Ok 2)
    ∷ case (root ++ (row 0 1 32 0 ++ end)) (failed 10 1 24)
    ∷ case (row 1 0 0 0 ++ end) (failed 11 0 0)
    ∷ case (root ++ (row 1 1 8 0 ++ end)) (failed 11 1 24)
    -- 12, 13
    ∷ case (root ++ (row 0 1 8 0 ++ (row 1 1 8 0 ++ end))) (failed 12 2 48)
    ∷ case (row 0 0 0 1 ++ end) (Ok 1)
    ∷ case (row 0 0 0 2 ++ end) (failed 13 0 0)
    -- the lower number first, and the earlier field
    ∷ case (root ++ (row 1 0 32 2 ++ end)) (failed 9 1 24)
    ∷ case (root ++ (row 0 1 8 2 ++ (0x11 ∷ 0 ∷ 0 ∷ []))) (failed 13 1 24)
    ∷ []

pub all_pass : run_all cases ≡ cases
unfolding be depth_in depth tag_ok length_for kind_ok role_ok parent_ok value_field row_field end_field field_at
    scan_from reading_of answer_of
all_pass = refl
