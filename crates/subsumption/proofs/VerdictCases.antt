-- Worked cases of the third call, computed from pictures as bytes: the verdict, the length of the evidence, its bytes, and the refusals in their order;
-- one list with one theorem.
--   told    the pictures, the verdict with buffers of the lengths laid down, and the evidence
--   asked   limits, the pictures, the lengths of the work space and of the result buffer, and the answer
--   wrote   for pictures of one row: the pictures, a result buffer of so many bytes 255, and what it holds after the call
use Prim.Native.Nat.{ℕ}
use lib.ListN.{replicate}
use mathlib.Core.List.{List, [], ◌++◌, ◌∷◌}
use mathlib.Core.Path.{◌≡◌, refl}
use Rattle.std.proofs.Common.{Err, Ok, Result}
use Rattle.table.specs.Bounds.{bench_limits}
use Rattle.table.specs.Fields.{end_bytes, row_of}
use Rattle.table.specs.Number.{be, be_bytes}
use Rattle.table.specs.Put.{put}
use Rattle.table.specs.declared.layout.Limits.{Limits}
use Rattle.picture.specs.Refusal.{refusal, refusal_at}
use Rattle.picture.specs.Asked.{read_asked}
use Rattle.picture.specs.Depth.{depth, depth_in}
use Rattle.picture.specs.Questions.{end_field, field_at, kind_ok, length_for, parent_ok, role_ok, row_field, tag_ok, value_field}
use Rattle.picture.specs.Read.{reading_of, scan_from}
use Rattle.picture.specs.Readable.{row_count}
use Rattle.picture.specs.declared.answer.Input.{Input}
use Rattle.picture.specs.declared.answer.Input.TheVariants.{Buffer, First, Second}
use Rattle.meaning.specs.Covering.{covers}
use Rattle.meaning.proofs.CasePictures.{all_of, all_row, empty, end, four_rows, impossible, none_reached, one, one_row, root, row, some_both, some_each, some_reached, some_row, two}
use Rattle.meaning.specs.NormalTable.{merged_count, merged_tree, normal_file, normal_tree_of}
use Rattle.homomorphism.specs.Map.{lowest_map, map_file}
use Rattle.countermodel.specs.Writing.{individual_bytes, refutation_file}
use Rattle.normal.specs.Call.{merged_asked}
use Rattle.workspace.specs.Lent.{lent_asked}
use Rattle.workspace.specs.Prepare.{pair_asked}
use Rattle.subsumption.specs.declared.verdict.Verdict.TheVariants.{No, Yes}
use Rattle.subsumption.specs.Call.{subsumes_answer, subsumes_result, verdict_answer}
use Rattle.subsumption.specs.declared.verdict.Verdict.{Verdict}
use Rattle.picture.specs.declared.answer.Refusal.{Refusal}
use Rattle.subsumption.specs.Verdict.{evidence_of, map_of, refutation_of, verdict_of}

pub data Case : Type 0 where
  told : List ℕ → List ℕ → Result Verdict Refusal → List ℕ → Case
  asked : Limits → List ℕ → List ℕ → ℕ → ℕ → Result Verdict Refusal → Case
  wrote : List ℕ → List ℕ → ℕ → List ℕ → Case

abbrev ran : Case → Case
ran (told first second v e) = told first second (subsumes_answer bench_limits first second 12294 46595) (evidence_of bench_limits first second)
ran (asked limits first second work result v) = asked limits first second work result (subsumes_answer limits first second work result)
ran (wrote first second n e) = wrote first second n (subsumes_result one_row first second 54 (replicate n 255))

abbrev pub run_all : List Case → List Case
run_all [] = []
run_all (c ∷ cs) = ran c ∷ run_all cs

abbrev refused : ℕ → Input → Result Verdict Refusal
refused q input = Err (refusal q input)

-- ---- pictures

abbrev wanting : ℕ → List ℕ
wanting names = root names ++ end

abbrev excluding : ℕ → List ℕ
excluding names = row 0 0 0 0 0 names ++ end

-- name 63, of the first byte of its set; names of all that r reaches
abbrev excluding_last : List ℕ
excluding_last =
    0x10 ∷ 0 ∷ 21 ∷ 0 ∷ 0 ∷ 0 ∷ 0 ∷ 0
    ∷ 0 ∷ 0 ∷ 0 ∷ 0 ∷ 0 ∷ 0 ∷ 0 ∷ 0
    ∷ 0x80 ∷ 0 ∷ 0 ∷ 0 ∷ 0 ∷ 0 ∷ 0 ∷ 0 ∷ end

abbrev all_excluding : ℕ → List ℕ
all_excluding names = root 0 ++ (row 0 2 8 0 0 names ++ end)

-- some r(some s{..}), and two of them
abbrev below : ℕ → List ℕ
below names = root 0 ++ (some_row 0 8 0 ++ (some_row 1 9 names ++ end))

abbrev two_below : ℕ → ℕ → List ℕ
two_below names others = root 0 ++ (some_row 0 8 0 ++ (some_row 1 9 names ++ (some_row 0 8 0 ++ (some_row 3 9 others ++ end))))

-- all r(some s{1})
abbrev all_some : List ℕ
all_some = root 0 ++ (all_row 0 8 0 ++ (some_row 1 9 2 ++ end))

-- all r(some s{1}), some r{2}: 4 rows, merged 5
abbrev grows : List ℕ
grows = root 0 ++ (all_row 0 8 0 ++ (some_row 1 9 2 ++ (some_row 0 8 4 ++ end)))

-- refused by 3 and by 4
abbrev bad_tag : List ℕ
bad_tag = 0x11 ∷ 0 ∷ 21 ∷ []

abbrev bad_length : List ℕ
bad_length = 0x10 ∷ 0 ∷ 20 ∷ []

-- ---- evidence

-- images of one byte, after a zero
abbrev images : List ℕ → List ℕ
images [] = end
images (v ∷ vs) = 0 ∷ v ∷ images vs

-- a map of 1, 2 and 3 rows
abbrev map1 : List ℕ
map1 = 0x41 ∷ 0 ∷ 2 ∷ images (0 ∷ [])

abbrev map2 : ℕ → List ℕ
map2 a = 0x41 ∷ 0 ∷ 4 ∷ images (0 ∷ a ∷ [])

abbrev map3 : ℕ → ℕ → List ℕ
map3 a b = 0x41 ∷ 0 ∷ 6 ∷ images (0 ∷ a ∷ b ∷ [])

-- the last byte of the parent, the role, and the last byte of the names
abbrev individual : ℕ → ℕ → ℕ → List ℕ
individual parent role held = 0x42 ∷ 0 ∷ 11 ∷ 0 ∷ parent ∷ role ∷ 0 ∷ 0 ∷ 0 ∷ 0 ∷ 0 ∷ 0 ∷ 0 ∷ held ∷ []

-- individual 0 with no names, alone, with name 63, and with others
abbrev alone : List ℕ
alone = individual 0 0 0 ++ end

abbrev last : List ℕ
last = 0x42 ∷ 0 ∷ 11 ∷ 0 ∷ 0 ∷ 0 ∷ 0x80 ∷ 0 ∷ 0 ∷ 0 ∷ 0 ∷ 0 ∷ 0 ∷ 0 ∷ end

abbrev also : List ℕ → List ℕ
also others = individual 0 0 0 ++ (others ++ end)

abbrev pub cases : List Case
cases =
    -- K7, K8
    told some_both some_each (Ok (Yes 12)) (map3 1 1)
    ∷ told some_each some_both (Ok (No 45)) (also (individual 0 8 8 ++ individual 0 8 32))
    ∷ told none_reached (all_of 32) (Ok (Yes 10)) (map2 1)
    ∷ told none_reached some_reached (Ok (No 17)) alone
    -- every picture is covered by the empty one, and an impossible one by every picture
    ∷ told some_both empty (Ok (Yes 8)) map1
    ∷ told impossible impossible (Ok (Yes 8)) map1
    -- the lowest row each time; by its names, and by what is below it, a higher one
    ∷ told (two 2 6) (two 2 4) (Ok (Yes 12)) (map3 1 2)
    ∷ told (two 2 2) (one 2) (Ok (Yes 10)) (map2 1)
    ∷ told (two 4 2) (one 2) (Ok (Yes 10)) (map2 2)
    ∷ told (two_below 2 4) (below 4) (Ok (Yes 12)) (map3 3 4)
    -- below a marked image the same one
    ∷ told impossible (below 2) (Ok (Yes 12)) (map3 0 0)
    ∷ told none_reached all_some (Ok (Yes 12)) (map3 1 1)
    -- a name wanted, excluded; the mark. Of an individual that has an excluded name all wanted ones hold, and none that
    -- the first excludes
    ∷ told empty (wanting 32) (Ok (No 17)) alone
    ∷ told (wanting 8) (wanting 40) (Ok (No 17)) (individual 0 0 8 ++ end)
    ∷ told empty (excluding 32) (Ok (No 17)) (individual 0 0 32 ++ end)
    ∷ told (wanting 8) (excluding 32) (Ok (No 17)) (individual 0 0 40 ++ end)
    ∷ told (excluding 8) (excluding 40) (Ok (No 17)) (individual 0 0 32 ++ end)
    ∷ told empty excluding_last (Ok (No 17)) last
    ∷ told empty impossible (Ok (No 17)) alone
    -- some: nobody, or not the one wanted, two levels down; what else the first asks is there
    ∷ told empty some_reached (Ok (No 17)) alone
    ∷ told (below 8) (below 32) (Ok (No 45)) (also (individual 0 8 0 ++ individual 1 9 8))
    ∷ told (root 0 ++ (some_row 0 8 8 ++ (some_row 0 9 2 ++ end))) (one 32) (Ok (No 45)) (also (individual 0 8 8 ++ individual 0 9 2))
    -- all: one more individual, of whom only that is so that the first says of all; what else the first asks comes after it
    ∷ told empty (all_of 32) (Ok (No 31)) (also (individual 0 8 0))
    ∷ told empty (all_excluding 32) (Ok (No 31)) (also (individual 0 8 32))
    ∷ told (all_of 8) (all_of 40) (Ok (No 31)) (also (individual 0 8 8))
    ∷ told (root 0 ++ (some_row 0 9 2 ++ end)) (all_of 32) (Ok (No 45)) (also (individual 0 8 0 ++ individual 0 9 2))
    ∷ told empty none_reached (Ok (No 31)) (also (individual 0 8 0))
    -- 1, whichever buffer is short; before the questions about the pictures; longer ones are as good
    ∷ asked bench_limits empty empty 12294 46595 (Ok (Yes 8))
    ∷ asked bench_limits empty empty 12293 46595 (refused 1 Buffer)
    ∷ asked bench_limits empty empty 12294 46594 (refused 1 Buffer)
    ∷ asked bench_limits empty empty 12293 46594 (refused 1 Buffer)
    ∷ asked bench_limits empty empty 46595 12294 (refused 1 Buffer)
    ∷ asked bench_limits empty empty 12295 46596 (Ok (Yes 8))
    ∷ asked bench_limits bad_tag bad_length 12293 46595 (refused 1 Buffer)
    -- first, second
    ∷ asked bench_limits bad_tag bad_length 12294 46595 (refused 3 First)
    ∷ asked bench_limits bad_length bad_tag 12294 46595 (refused 4 First)
    ∷ asked bench_limits bad_tag empty 12294 46595 (refused 3 First)
    ∷ asked bench_limits empty bad_length 12294 46595 (refused 4 Second)
    -- with the row and the byte of the one that is refused
    ∷ asked bench_limits (root 0 ++ bad_length) (root 0 ++ (some_row 0 8 0 ++ bad_tag)) 12294 46595 (Err (refusal_at 4 First 1))
    ∷ asked bench_limits (one 2) (root 0 ++ (some_row 0 8 0 ++ bad_tag)) 12294 46595 (Err (refusal_at 3 Second 2))
    -- 14 of the first, 14 of the second, after both are read
    ∷ asked four_rows grows bad_tag 198 171 (refused 3 Second)
    ∷ asked four_rows bad_tag grows 198 171 (refused 3 First)
    ∷ asked four_rows grows empty 198 171 (refused 14 First)
    ∷ asked four_rows empty grows 198 171 (refused 14 Second)
    ∷ asked four_rows grows grows 198 171 (refused 14 First)
    ∷ asked four_rows empty (below 2) 198 171 (Ok (No 17))
    -- the result buffer: the evidence, and after it what was there; nothing written where the call refuses
    ∷ wrote empty empty 19 (map1 ++ (255 ∷ 255 ∷ 255 ∷ 255 ∷ 255 ∷ 255 ∷ 255 ∷ 255 ∷ 255 ∷ 255 ∷ 255 ∷ []))
    ∷ wrote empty (wanting 32) 19 (alone ++ (255 ∷ 255 ∷ []))
    ∷ wrote empty (wanting 32) 17 alone
    ∷ wrote empty (wanting 32) 16 (replicate 16 255)
    ∷ wrote empty bad_tag 17 (replicate 17 255)
    ∷ []

pub all_pass : run_all cases ≡ cases
unfolding be be_bytes row_of end_bytes put depth_in depth tag_ok length_for kind_ok role_ok parent_ok value_field row_field end_field field_at
    scan_from reading_of read_asked row_count merged_tree merged_count normal_tree_of normal_file merged_asked pair_asked lent_asked
    covers verdict_of map_of lowest_map map_file refutation_of refutation_file individual_bytes evidence_of verdict_answer
    subsumes_answer
all_pass = refl
