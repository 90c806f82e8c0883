-- Worked cases of the fourth call, computed from pictures as bytes: the common picture and its length, the refusals in their order, and both buffers; one
-- list with one theorem.
--   told    the pictures, the answer with buffers of the lengths laid down, and the common picture
--   asked   limits, the pictures, the lengths of the work space and of the result buffer, and the answer
--   wrote   limits, the pictures, the work space's length, a result buffer of so many bytes 255, and what it holds after the call
--   left    limits, the pictures, a work space of so many bytes 255, the result buffer's length, and what the work space holds after the call
use Prim.Native.Nat.{ℕ}
use lib.ListN.{replicate}
use mathlib.Core.List.{List, [], ◌++◌, ◌∷◌}
use mathlib.Core.Path.{◌≡◌, refl}
use Rattle.std.proofs.Common.{Err, Ok, Result}
use Rattle.table.specs.Bounds.{bench_limits}
use Rattle.table.specs.Fields.{end_bytes, row_of}
use Rattle.table.specs.Number.{be, be_bytes}
use Rattle.table.specs.Put.{put, zeros}
use Rattle.table.specs.declared.layout.Limits.{Limits}
use Rattle.picture.specs.Refusal.{refusal, refusal_at}
use Rattle.picture.specs.Asked.{read_asked}
use Rattle.picture.specs.Depth.{depth, depth_in}
use Rattle.picture.specs.Questions.{end_field, field_at, kind_ok, length_for, parent_ok, role_ok, row_field, tag_ok, value_field}
use Rattle.picture.specs.Read.{reading_of, scan_from}
use Rattle.picture.specs.Readable.{row_count}
use Rattle.picture.specs.declared.answer.Input.{Input}
use Rattle.picture.specs.declared.answer.Input.TheVariants.{Buffer, First, Second}
use Rattle.meaning.proofs.CasePictures.{all_of, all_row, empty, four_rows, impossible, none_reached, one, one_row, picture, root, row, some_row, two}
use Rattle.meaning.specs.NormalTable.{merged_count, merged_tree, normal_file, normal_tree_of}
use Rattle.normal.specs.Half.{half_of}
use Rattle.normal.specs.Call.{merged_asked}
use Rattle.workspace.specs.Lent.{lent_asked}
use Rattle.workspace.specs.Prepare.{halves_put, pair_asked}
use Rattle.lcs.specs.Call.{lcs_answer, lcs_result, lcs_work}
use Rattle.lcs.specs.Product.{lcs_count, lcs_file, lcs_tree}
use Rattle.picture.specs.declared.answer.Refusal.{Refusal}
use Rattle.lcs.proofs.AgainstShortcuts.{k9_common, k9_first, k9_second, spread}

pub data Case : Type 0 where
  told : List ℕ → List ℕ → Result ℕ Refusal → List ℕ → Case
  asked : Limits → List ℕ → List ℕ → ℕ → ℕ → Result ℕ Refusal → Case
  wrote : Limits → List ℕ → List ℕ → ℕ → ℕ → List ℕ → Case
  left : Limits → List ℕ → List ℕ → ℕ → ℕ → List ℕ → Case

abbrev five_rows : Limits
five_rows = record { rows = 5; depth = 2 }

abbrev ran : Case → Case
ran (told first second a e) = told first second (lcs_answer bench_limits first second 12294 6147) (lcs_file bench_limits first second)
ran (asked limits first second work result a) = asked limits first second work result (lcs_answer limits first second work result)
ran (wrote limits first second work n e) = wrote limits first second work n (lcs_result limits first second work (replicate n 255))
ran (left limits first second n result e) = left limits first second n result (lcs_work limits first second (replicate n 255) result)

abbrev pub run_all : List Case → List Case
run_all [] = []
run_all (c ∷ cs) = ran c ∷ run_all cs

abbrev refused : ℕ → Input → Result ℕ Refusal
refused q input = Err (refusal q input)

-- ---- pictures

-- one row with names wanted and names excluded
abbrev names : ℕ → ℕ → List ℕ
names wanted excluded = picture (row 0 0 0 0 wanted excluded ∷ [])

-- all r(some s{..}), all r(all s{..}), some r(some s{..})
abbrev all_some : ℕ → List ℕ
all_some wanted = picture (root 0 ∷ all_row 0 8 0 ∷ some_row 1 9 wanted ∷ [])

abbrev all_all : ℕ → List ℕ
all_all wanted = picture (root 0 ∷ all_row 0 8 0 ∷ all_row 1 9 wanted ∷ [])

abbrev some_some : ℕ → List ℕ
some_some wanted = picture (root 0 ∷ some_row 0 8 0 ∷ some_row 1 9 wanted ∷ [])

-- the normal table of all r{3}, some r{5}
abbrev spread_normal : List ℕ
spread_normal = picture (root 0 ∷ all_row 0 8 8 ∷ some_row 0 8 40 ∷ [])

-- some s{3}, some r{3}, all r{5}, all s{5} in file order, and the normal table
abbrev mixed : List ℕ
mixed = picture (root 0 ∷ some_row 0 9 8 ∷ some_row 0 8 8 ∷ all_row 0 8 32 ∷ all_row 0 9 32 ∷ [])

abbrev mixed_normal : List ℕ
mixed_normal = picture (root 0 ∷ all_row 0 8 32 ∷ some_row 0 8 40 ∷ all_row 0 9 32 ∷ some_row 0 9 40 ∷ [])

-- all r(some s{1}), some r{2}: 4 rows, merged 5
abbrev grows : List ℕ
grows = picture (root 0 ∷ all_row 0 8 0 ∷ some_row 1 9 2 ∷ some_row 0 8 4 ∷ [])

-- all r{..} or all r(all r{..}), beside two some s
abbrev beside : ℕ → List ℕ
beside wanted = picture (root 0 ∷ all_row 0 8 wanted ∷ some_row 0 9 2 ∷ some_row 0 9 4 ∷ [])

abbrev beside_deep : ℕ → List ℕ
beside_deep wanted = picture (root 0 ∷ all_row 0 8 0 ∷ all_row 1 8 wanted ∷ some_row 0 9 2 ∷ some_row 0 9 4 ∷ [])

-- refused by 3 and by 4
abbrev bad_tag : List ℕ
bad_tag = 0x11 ∷ 0 ∷ 21 ∷ []

abbrev bad_length : List ℕ
bad_length = 0x10 ∷ 0 ∷ 20 ∷ []

abbrev pub cases : List Case
cases =
    -- K9, K10, K11
    told k9_first k9_second (Ok 75) k9_common
    ∷ told (all_of 8) (all_of 32) (Ok 27) empty
    ∷ told none_reached (all_of 32) (Ok 51) (all_of 32)
    -- the normal tables are intersected, never the raw ones
    ∷ told spread (one 8) (Ok 51) (one 8)
    ∷ told (one 8) spread (Ok 51) (one 8)
    -- wanted with wanted, excluded with excluded; never one with the other
    ∷ told (names 40 64) (names 32 192) (Ok 27) (names 32 64)
    ∷ told (names 0 40) (names 0 32) (Ok 27) (names 0 32)
    ∷ told (names 8 0) (names 0 8) (Ok 27) empty
    -- a marked side: the root on either side or on both, a root that is broken; the other's whole normal table
    ∷ told impossible spread (Ok 75) spread_normal
    ∷ told spread impossible (Ok 75) spread_normal
    ∷ told impossible impossible (Ok 27) impossible
    ∷ told (names 8 8) spread (Ok 75) spread_normal
    -- a marked successor on either side or on both: the other's whole subtree, by the pair's kind and role
    ∷ told none_reached (all_some 2) (Ok 75) (all_some 2)
    ∷ told (all_some 2) none_reached (Ok 75) (all_some 2)
    ∷ told none_reached none_reached (Ok 51) none_reached
    ∷ told none_reached (one 32) (Ok 27) empty
    -- all with all, some with some, each role with itself; an empty some stays
    ∷ told (all_of 8) (one 8) (Ok 27) empty
    ∷ told (one 8) (picture (root 0 ∷ some_row 0 9 8 ∷ [])) (Ok 27) empty
    ∷ told (one 8) (one 32) (Ok 51) (one 0)
    -- by role, all before some, then the first's row and then the second's
    ∷ told mixed mixed (Ok 123) mixed_normal
    ∷ told (two 40 32) (two 8 32) (Ok 123) (picture (root 0 ∷ some_row 0 8 8 ∷ some_row 0 8 32 ∷ some_row 0 8 0 ∷ some_row 0 8 32 ∷ []))
    ∷ told (two 8 32) (two 40 32) (Ok 123) (picture (root 0 ∷ some_row 0 8 8 ∷ some_row 0 8 0 ∷ some_row 0 8 32 ∷ some_row 0 8 32 ∷ []))
    -- depth first, each parent by its number in this table
    ∷ told (picture (root 0 ∷ some_row 0 8 0 ∷ some_row 0 8 0 ∷ some_row 1 9 2 ∷ some_row 2 9 4 ∷ [])) (some_some 6) (Ok 123)
    (picture (root 0 ∷ some_row 0 8 0 ∷ some_row 1 9 2 ∷ some_row 0 8 0 ∷ some_row 3 9 4 ∷ []))
    -- dropping from the leaves up; what hangs from an all keeps it
    ∷ told (all_all 8) (all_all 32) (Ok 27) empty
    ∷ told (all_some 8) (all_some 32) (Ok 75) (all_some 0)
    -- 1, whichever buffer is short; before the questions about the pictures; longer ones are as good
    ∷ asked bench_limits empty empty 12294 6147 (Ok 27)
    ∷ asked bench_limits empty empty 12293 6147 (refused 1 Buffer)
    ∷ asked bench_limits empty empty 12294 6146 (refused 1 Buffer)
    ∷ asked bench_limits empty empty 6147 12294 (refused 1 Buffer)
    ∷ asked bench_limits empty empty 12295 6148 (Ok 27)
    ∷ asked bench_limits bad_tag bad_length 12293 6147 (refused 1 Buffer)
    ∷ asked four_rows (two 2 4) (two 2 4) 197 99 (refused 1 Buffer)
    ∷ asked four_rows (two 2 4) (two 2 4) 198 98 (refused 1 Buffer)
    -- first, second
    ∷ asked bench_limits bad_tag bad_length 12294 6147 (refused 3 First)
    ∷ asked bench_limits bad_length bad_tag 12294 6147 (refused 4 First)
    ∷ asked bench_limits empty bad_length 12294 6147 (refused 4 Second)
    -- with the row and the byte of the one that is refused
    ∷ asked bench_limits (root 0 ++ bad_length) (root 0 ++ (some_row 0 8 0 ++ bad_tag)) 12294 6147 (Err (refusal_at 4 First 1))
    ∷ asked bench_limits empty (root 0 ++ (some_row 0 8 0 ++ bad_tag)) 12294 6147 (Err (refusal_at 3 Second 2))
    -- 14 of the first, 14 of the second, after both are read; 15 after these, and it names the second
    ∷ asked four_rows grows bad_tag 198 99 (refused 3 Second)
    ∷ asked four_rows bad_tag grows 198 99 (refused 3 First)
    ∷ asked four_rows grows (two 2 4) 198 99 (refused 14 First)
    ∷ asked four_rows (two 2 4) grows 198 99 (refused 14 Second)
    ∷ asked four_rows grows grows 198 99 (refused 14 First)
    ∷ asked four_rows (two 2 4) (two 2 4) 198 99 (refused 15 Second)
    -- as many rows as the limit; 15 counts after the dropping, and what is not dropped
    ∷ asked four_rows (picture (root 0 ∷ some_row 0 8 2 ∷ some_row 0 8 4 ∷ some_row 0 8 8 ∷ [])) (one 2) 198 99 (Ok 99)
    ∷ asked five_rows (two 2 4) (two 2 4) 246 123 (Ok 123)
    ∷ asked five_rows (beside 8) (beside 32) 246 123 (Ok 123)
    ∷ asked five_rows (beside_deep 8) (beside_deep 32) 246 123 (Ok 123)
    ∷ asked five_rows (beside 8) (beside 40) 246 123 (refused 15 Second)
    -- the result buffer: the common picture, and after it what was there; nothing written where the call refuses
    ∷ wrote one_row (names 40 64) (names 32 192) 54 29 (names 32 64 ++ (255 ∷ 255 ∷ []))
    ∷ wrote one_row (names 40 64) (names 32 192) 54 27 (names 32 64)
    ∷ wrote one_row (names 40 64) (names 32 192) 54 26 (replicate 26 255)
    ∷ wrote one_row (names 40 64) (names 32 192) 53 27 (replicate 27 255)
    ∷ wrote one_row empty bad_tag 54 27 (replicate 27 255)
    ∷ wrote four_rows grows empty 198 99 (replicate 99 255)
    ∷ wrote four_rows (two 2 4) (two 2 4) 198 101 (replicate 101 255)
    -- the work space: both normal tables, each in its half, and after these what was there, with 15 as without; nothing written by 1 to 14
    ∷ left one_row (names 40 64) impossible 56 27 (names 40 64 ++ (impossible ++ (255 ∷ 255 ∷ [])))
    ∷ left four_rows (two 2 4) (two 8 32) 200 99 (two 2 4 ++ (replicate 24 0 ++ (two 8 32 ++ (replicate 24 0 ++ (255 ∷ 255 ∷ [])))))
    ∷ left four_rows grows (two 8 32) 200 99 (replicate 200 255)
    ∷ left one_row empty empty 54 26 (replicate 54 255)
    ∷ []

pub all_pass : run_all cases ≡ cases
unfolding be be_bytes row_of end_bytes put depth_in depth tag_ok length_for kind_ok role_ok parent_ok value_field row_field end_field field_at
    scan_from reading_of read_asked row_count merged_tree merged_count normal_tree_of normal_file merged_asked pair_asked lent_asked
    zeros half_of halves_put lcs_tree lcs_count lcs_file lcs_answer
all_pass = refl
