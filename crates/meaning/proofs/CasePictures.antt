-- Pictures of the computed cases, byte by byte: {1} is 2, {2} is 4, {3} is 8, {4} is 16, {5} is 32, {6} is 64, {7} is 128; r is 8, s is 9.
--   one_row, four_rows                    small limits
--   row, end, picture                   a row's field, the end field, rows and the end field after them
--   root, some_row, all_row               rows with names wanted, of each kind
--   empty, impossible, none_reached      one empty row; one impossible row; all r impossible
--   all_of, one, two                     all r{..}; some r{..}; some r{..} and some r{..}
--   some_reached, some_both, some_each     some r{}; some r{3,5}; some r{3} and some r{5}
use Prim.Native.Nat.{ℕ}
use mathlib.Core.List.{List, [], ◌++◌, ◌∷◌}
use Rattle.table.specs.declared.layout.Limits.{Limits}

abbrev pub one_row : Limits
one_row = record { rows = 1; depth = 0 }

abbrev pub four_rows : Limits
four_rows = record { rows = 4; depth = 2 }

-- the last byte of the parent, the kind, the role, the impossible byte, and the last bytes of the wanted and of the excluded names
abbrev pub row : ℕ → ℕ → ℕ → ℕ → ℕ → ℕ → List ℕ
row parent kind role mark wanted excluded =
    0x10 ∷ 0 ∷ 21 ∷ 0 ∷ parent ∷ kind ∷ role ∷ mark
    ∷ 0 ∷ 0 ∷ 0 ∷ 0 ∷ 0 ∷ 0 ∷ 0 ∷ wanted
    ∷ 0 ∷ 0 ∷ 0 ∷ 0 ∷ 0 ∷ 0 ∷ 0 ∷ excluded ∷ []

abbrev pub end : List ℕ
end = 0x2F ∷ 0 ∷ 0 ∷ []

abbrev pub picture : List (List ℕ) → List ℕ
picture [] = end
picture (w ∷ ws) = w ++ picture ws

abbrev pub root : ℕ → List ℕ
root wanted = row 0 0 0 0 wanted 0

-- the parent, the role and the names wanted
abbrev pub some_row : ℕ → ℕ → ℕ → List ℕ
some_row parent role wanted = row parent 1 role 0 wanted 0

abbrev pub all_row : ℕ → ℕ → ℕ → List ℕ
all_row parent role wanted = row parent 2 role 0 wanted 0

abbrev pub empty : List ℕ
empty = picture (root 0 ∷ [])

abbrev pub impossible : List ℕ
impossible = picture (row 0 0 0 1 0 0 ∷ [])

abbrev pub none_reached : List ℕ
none_reached = picture (root 0 ∷ row 0 2 8 1 0 0 ∷ [])

abbrev pub all_of : ℕ → List ℕ
all_of wanted = picture (root 0 ∷ all_row 0 8 wanted ∷ [])

abbrev pub one : ℕ → List ℕ
one wanted = picture (root 0 ∷ some_row 0 8 wanted ∷ [])

abbrev pub two : ℕ → ℕ → List ℕ
two wanted other = picture (root 0 ∷ some_row 0 8 wanted ∷ some_row 0 8 other ∷ [])

abbrev pub some_reached : List ℕ
some_reached = one 0

abbrev pub some_both : List ℕ
some_both = one 40

abbrev pub some_each : List ℕ
some_each = two 8 32
