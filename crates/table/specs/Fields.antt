-- 01, "The file": the fields of a row, read by the row's number, and a row as bytes.
--   parent_of, kind_of, role_of, impossible_of, wanted_of, excluded_of   what stands in row n of the table s
--   tag_of, length_of                                                the head of field n
--   row_of                                                          the bytes of a row, from its parts
--   end_bytes                                                       the bytes of the end field
--   ends_at                                                         the end field stands at a place, and the file stops there
use Rattle.std.specs.Prelude.{Bool, ◌&&◌, List, [], ◌∷◌, ◌++◌, ℕ, ◌+◌, eqb, length, get_or}
use Rattle.table.specs.Layout.{«place», number_size, length_offset, row_tag, end_tag, end_length, end_size, name_bytes, parent_offset, kind_offset, role_offset, impossible_offset, wanted_offset, excluded_offset, row_length}
use Rattle.table.specs.Number.{be, be_bytes}

abbrev pub tag_of : List ℕ → ℕ → ℕ
tag_of s n = get_or s (place n 0) 0

abbrev pub length_of : List ℕ → ℕ → ℕ
length_of s n = be s (place n length_offset) number_size

abbrev pub parent_of : List ℕ → ℕ → ℕ
parent_of s n = be s (place n parent_offset) number_size

abbrev pub kind_of : List ℕ → ℕ → ℕ
kind_of s n = get_or s (place n kind_offset) 0

abbrev pub role_of : List ℕ → ℕ → ℕ
role_of s n = get_or s (place n role_offset) 0

abbrev pub impossible_of : List ℕ → ℕ → ℕ
impossible_of s n = get_or s (place n impossible_offset) 0

abbrev pub wanted_of : List ℕ → ℕ → ℕ
wanted_of s n = be s (place n wanted_offset) name_bytes

abbrev pub excluded_of : List ℕ → ℕ → ℕ
excluded_of s n = be s (place n excluded_offset) name_bytes

unfoldable pub row_of : ℕ → ℕ → ℕ → ℕ → ℕ → ℕ → List ℕ
row_of parent kind role impossible wanted excluded =
    (row_tag ∷ [])
    ++ (be_bytes number_size row_length
    ++ (be_bytes number_size parent
    ++ ((kind ∷ role ∷ impossible ∷ [])
    ++ (be_bytes name_bytes wanted
    ++ be_bytes name_bytes excluded))))

unfoldable pub end_bytes : List ℕ
end_bytes = (end_tag ∷ []) ++ be_bytes number_size end_length

unfoldable pub ends_at : List ℕ → ℕ → Bool
ends_at s at = eqb (length s) (at + end_size) && (eqb (get_or s at 0) end_tag && eqb (be s (at + length_offset) number_size) end_length)
