-- 01, "Cases", the starred ones, as the paper words them, in one list: claims (StarredClaims) on what the calls give. proofs/StarredHold has the theorem over the list.
--   starred   the cases
use Rattle.std.specs.Prelude.{ℕ, replicate, List, [], ◌++◌, ◌∷◌}
use Rattle.interface.specs.StarredClaims.{Case, all_row, common, contradictory_root, impossible_all_row, impossible_root, individual_field, map_bytes, normal, picture, r, refutation, root_row, s, some_row, subsumes, subsumes_all, subsumes_not}

-- ---- the cases

-- `10 00 15`, 21 zero bytes, `2F 00 00`: one empty row; covers every picture.
abbrev pub empty : List ℕ
empty = (0x10 ∷ 0x00 ∷ 0x15 ∷ []) ++ replicate 21 0 ++ (0x2F ∷ 0x00 ∷ 0x00 ∷ [])

abbrev pub k1_map : List ℕ
k1_map = map_bytes (0 ∷ [])

abbrev pub k1 : Case
k1 = subsumes_all 1 empty k1_map

-- Name 3 wanted and excluded: normal is one marked row.
abbrev pub k2_first : List ℕ
k2_first = picture (contradictory_root (3 ∷ []) ∷ [])

abbrev pub k2_normal : List ℕ
k2_normal = picture (impossible_root ∷ [])

abbrev pub k2 : Case
k2 = normal 1 k2_first 1 k2_normal

-- all r{3}, all r{5}: normal all r{3,5}, 2 rows.
abbrev pub k3_first : List ℕ
k3_first = picture (root_row [] ∷ all_row 0 r (3 ∷ []) ∷ all_row 0 r (5 ∷ []) ∷ [])

abbrev pub k3_normal : List ℕ
k3_normal = picture (root_row [] ∷ all_row 0 r (3 ∷ 5 ∷ []) ∷ [])

abbrev pub k3 : Case
k3 = normal 3 k3_first 2 k3_normal

-- all r{3}, some r{5}: all r{3}, some r{3,5}.
abbrev pub k4_first : List ℕ
k4_first = picture (root_row [] ∷ all_row 0 r (3 ∷ []) ∷ some_row 0 r (5 ∷ []) ∷ [])

abbrev pub k4_normal : List ℕ
k4_normal = picture (root_row [] ∷ all_row 0 r (3 ∷ []) ∷ some_row 0 r (3 ∷ 5 ∷ []) ∷ [])

abbrev pub k4 : Case
k4 = normal 3 k4_first 3 k4_normal

-- all r{}: one empty row.
abbrev pub k5_first : List ℕ
k5_first = picture (root_row [] ∷ all_row 0 r [] ∷ [])

abbrev pub k5 : Case
k5 = normal 2 k5_first 1 empty

-- all r impossible stays, 2 rows; with some r{} added, one marked row.
abbrev pub k6_first : List ℕ
k6_first = picture (root_row [] ∷ impossible_all_row 0 r ∷ [])

abbrev pub k6_added_first : List ℕ
k6_added_first = picture (root_row [] ∷ impossible_all_row 0 r ∷ some_row 0 r [] ∷ [])

abbrev pub k6_added_normal : List ℕ
k6_added_normal = picture (impossible_root ∷ [])

abbrev pub k6 : Case
k6 = normal 2 k6_first 2 k6_first

abbrev pub k6_added : Case
k6_added = normal 3 k6_added_first 1 k6_added_normal

-- some r{3}, some r{5} covers some r{3,5}; not the reverse.
abbrev pub k7_first : List ℕ
k7_first = picture (root_row [] ∷ some_row 0 r (3 ∷ 5 ∷ []) ∷ [])

abbrev pub k7_second : List ℕ
k7_second = picture (root_row [] ∷ some_row 0 r (3 ∷ []) ∷ some_row 0 r (5 ∷ []) ∷ [])

abbrev pub k7_map : List ℕ
k7_map = map_bytes (0 ∷ 1 ∷ 1 ∷ [])

abbrev pub k7_refutation : List ℕ
k7_refutation = refutation (individual_field 0 0 [] ∷ individual_field 0 r (3 ∷ []) ∷ individual_field 0 r (5 ∷ []) ∷ [])

abbrev pub k7 : Case
k7 = subsumes k7_first k7_second k7_map

abbrev pub k7_not : Case
k7_not = subsumes_not k7_second k7_first k7_refutation

-- all r impossible is covered by all r{5}, not by some r{}.
abbrev pub k8_first : List ℕ
k8_first = picture (root_row [] ∷ impossible_all_row 0 r ∷ [])

abbrev pub k8_second : List ℕ
k8_second = picture (root_row [] ∷ all_row 0 r (5 ∷ []) ∷ [])

abbrev pub k8_other : List ℕ
k8_other = picture (root_row [] ∷ some_row 0 r [] ∷ [])

abbrev pub k8_map : List ℕ
k8_map = map_bytes (0 ∷ 1 ∷ [])

abbrev pub k8_refutation : List ℕ
k8_refutation = refutation (individual_field 0 0 [] ∷ [])

abbrev pub k8 : Case
k8 = subsumes k8_first k8_second k8_map

abbrev pub k8_not : Case
k8_not = subsumes_not k8_first k8_other k8_refutation

-- Common of {3}, some r{4} and {3,5}, some r{4,6}, some r{7}: {3}, some r{4}, some r{}, 3 rows.
abbrev pub k9_first : List ℕ
k9_first = picture (root_row (3 ∷ []) ∷ some_row 0 r (4 ∷ []) ∷ [])

abbrev pub k9_second : List ℕ
k9_second = picture (root_row (3 ∷ 5 ∷ []) ∷ some_row 0 r (4 ∷ 6 ∷ []) ∷ some_row 0 r (7 ∷ []) ∷ [])

abbrev pub k9_common : List ℕ
k9_common = picture (root_row (3 ∷ []) ∷ some_row 0 r (4 ∷ []) ∷ some_row 0 r [] ∷ [])

abbrev pub k9 : Case
k9 = common k9_first k9_second 3 k9_common

-- Common of all r{3} and all r{5}: one empty row.
abbrev pub k10_first : List ℕ
k10_first = picture (root_row [] ∷ all_row 0 r (3 ∷ []) ∷ [])

abbrev pub k10_second : List ℕ
k10_second = picture (root_row [] ∷ all_row 0 r (5 ∷ []) ∷ [])

abbrev pub k10 : Case
k10 = common k10_first k10_second 1 empty

-- Common of all r impossible and all r{5}: all r{5}.
abbrev pub k11_first : List ℕ
k11_first = picture (root_row [] ∷ impossible_all_row 0 r ∷ [])

abbrev pub k11_second : List ℕ
k11_second = picture (root_row [] ∷ all_row 0 r (5 ∷ []) ∷ [])

abbrev pub k11 : Case
k11 = common k11_first k11_second 2 k11_second

-- all r(some s{1}), some r{2}: 4 rows, normal 5; that table's normal has 6.
abbrev pub k12_first : List ℕ
k12_first = picture (root_row [] ∷ all_row 0 r [] ∷ some_row 1 s (1 ∷ []) ∷ some_row 0 r (2 ∷ []) ∷ [])

abbrev pub k12_normal : List ℕ
k12_normal = picture (root_row [] ∷ all_row 0 r [] ∷ some_row 1 s (1 ∷ []) ∷ some_row 0 r (2 ∷ []) ∷ some_row 3 s (1 ∷ []) ∷ [])

abbrev pub k12_normal_again : List ℕ
k12_normal_again =
    picture (root_row [] ∷ all_row 0 r [] ∷ some_row 1 s (1 ∷ []) ∷ some_row 0 r (2 ∷ []) ∷ some_row 3 s (1 ∷ []) ∷ some_row 3 s (1 ∷ []) ∷ [])

abbrev pub k12 : Case
k12 = normal 4 k12_first 5 k12_normal

abbrev pub k12_again : Case
k12_again = normal 5 k12_normal 6 k12_normal_again

abbrev pub starred : List Case
starred =
    k1
    ∷ k2
    ∷ k3
    ∷ k4
    ∷ k5
    ∷ k6
    ∷ k6_added
    ∷ k7
    ∷ k7_not
    ∷ k8
    ∷ k8_not
    ∷ k9
    ∷ k10
    ∷ k11
    ∷ k12
    ∷ k12_again
    ∷ []
