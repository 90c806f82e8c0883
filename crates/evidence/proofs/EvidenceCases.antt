-- Worked cases of 16 to 23, computed from evidence as bytes: each question answered no, the lower number and the earlier row first,
-- and evidence that is taken; one list with one theorem.
use Prim.Native.Nat.{ℕ}
use lib.ListN.{replicate}
use mathlib.Core.List.{List, [], ◌++◌, ◌∷◌}
use mathlib.Core.Path.{◌≡◌, refl}
use Rattle.std.proofs.Common.{Err, Ok, Result}
use Rattle.table.specs.Bounds.{bench_limits}
use Rattle.table.specs.Fields.{end_bytes, ends_at, row_of}
use Rattle.table.specs.Number.{be, be_bytes}
use Rattle.table.specs.Range.{each}
use Rattle.picture.specs.Refusal.{refusal}
use Rattle.picture.specs.Asked.{asked_from, read_asked}
use Rattle.picture.specs.Depth.{depth, depth_in}
use Rattle.picture.specs.Questions.{end_field, field_at, kind_ok, length_for, parent_ok, role_ok, row_field, tag_ok, value_field}
use Rattle.picture.specs.Read.{reading_of, scan_from}
use Rattle.picture.specs.Readable.{row_count}
use Rattle.picture.specs.declared.answer.Input.TheVariants.{Evidence}
use Rattle.meaning.proofs.CasePictures.{all_row, empty, end, impossible, none_reached, root, row, some_both, some_each, some_reached, some_row}
use Rattle.meaning.specs.NormalTable.{merged_count, merged_tree, normal_file, normal_tree_of}
use Rattle.countermodel.specs.Individual.{individual_head, individual_ok, refutation_form}
use Rattle.countermodel.specs.Layout.{individual_count}
use Rattle.normal.specs.Call.{merged_asked}
use Rattle.workspace.specs.Lent.{lent_asked}
use Rattle.workspace.specs.Prepare.{pair_asked, work_size}
use Rattle.evidence.specs.declared.check.Taken.TheVariants.{Map, Refutation}
use Rattle.evidence.specs.Call.{evidence_asked, verify_answer}
use Rattle.evidence.specs.Check.{check_asked, refutation_asked}
use Rattle.evidence.specs.Form.{map_form}
use Rattle.evidence.specs.declared.check.Taken.{Taken}
use Rattle.picture.specs.declared.answer.Refusal.{Refusal}
use Rattle.evidence.specs.Map.{map_asked, row_asked}

-- the first picture, the second, the evidence, and the answer
pub data Case : Type 0 where
  case : List ℕ → List ℕ → List ℕ → Result Taken Refusal → Case

abbrev ran : Case → Case
ran (case first second e a) = case first second e (verify_answer bench_limits first second e (work_size bench_limits))

abbrev pub run_all : List Case → List Case
run_all [] = []
run_all (c ∷ cs) = ran c ∷ run_all cs

abbrev refused : ℕ → Result Taken Refusal
refused q = Err (refusal q Evidence)

-- ---- pictures

abbrev named : List ℕ
named = root 8 ++ end

abbrev some_three : List ℕ
some_three = root 0 ++ (some_row 0 8 8 ++ end)

abbrev twice : List ℕ
twice = root 0 ++ (some_row 0 8 8 ++ (some_row 0 8 8 ++ end))

abbrev other_role : List ℕ
other_role = root 0 ++ (some_row 0 9 8 ++ end)

abbrev excluding : List ℕ
excluding = root 0 ++ (row 0 1 8 0 0 16 ++ end)

abbrev chain : List ℕ
chain = root 0 ++ (some_row 0 8 0 ++ (some_row 1 8 0 ++ end))

abbrev all_five : List ℕ
all_five = root 0 ++ (all_row 0 8 32 ++ end)

-- and some s{} beside
abbrev none_beside : List ℕ
none_beside = root 0 ++ (row 0 2 8 1 0 0 ++ (some_row 0 9 0 ++ end))

-- all r(some s{})
abbrev all_some : List ℕ
all_some = root 0 ++ (all_row 0 8 0 ++ (some_row 1 9 0 ++ end))

-- ---- evidence

-- images of one byte, after a zero
abbrev images : List ℕ → List ℕ
images [] = end
images (v ∷ vs) = 0 ∷ v ∷ images vs

-- a map of 1, 2 and 3 rows
abbrev map1 : ℕ → List ℕ
map1 a = 0x41 ∷ 0 ∷ 2 ∷ images (a ∷ [])

abbrev map2 : ℕ → ℕ → List ℕ
map2 a b = 0x41 ∷ 0 ∷ 4 ∷ images (a ∷ b ∷ [])

abbrev map3 : ℕ → ℕ → ℕ → List ℕ
map3 a b c = 0x41 ∷ 0 ∷ 6 ∷ images (a ∷ b ∷ c ∷ [])

-- the parent's two bytes, the role and the last byte of the names
abbrev individual : ℕ → ℕ → ℕ → ℕ → List ℕ
individual high low role held = 0x42 ∷ 0 ∷ 11 ∷ high ∷ low ∷ role ∷ (replicate 7 0 ++ (held ∷ []))

-- individual 0 with no names
abbrev zeroth : List ℕ
zeroth = individual 0 0 0 0

abbrev alone : List ℕ
alone = zeroth ++ end

abbrev pub cases : List Case
cases =
    -- 16: nothing, the end field alone
    case some_both some_each [] (refused 16)
    ∷ case some_both some_each end (refused 16)
    -- a map: its length field, one image too many or too few, tags, the end field, the last byte
    ∷ case some_both some_each (map3 0 1 1) (Ok Map)
    ∷ case some_both some_each (0x41 ∷ 0 ∷ 4 ∷ images (0 ∷ 1 ∷ 1 ∷ [])) (refused 16)
    ∷ case some_both some_each (0x41 ∷ 1 ∷ 6 ∷ images (0 ∷ 1 ∷ 1 ∷ [])) (refused 16)
    ∷ case some_both some_each (0x41 ∷ 0 ∷ 8 ∷ images (0 ∷ 1 ∷ 1 ∷ 1 ∷ [])) (refused 16)
    ∷ case some_both some_each (map2 0 1) (refused 16)
    ∷ case some_both some_each (0x40 ∷ 0 ∷ 6 ∷ images (0 ∷ 1 ∷ 1 ∷ [])) (refused 16)
    ∷ case some_both some_each (0x43 ∷ 0 ∷ 6 ∷ images (0 ∷ 1 ∷ 1 ∷ [])) (refused 16)
    ∷ case some_both some_each (0x42 ∷ 0 ∷ 6 ∷ images (0 ∷ 1 ∷ 1 ∷ [])) (refused 16)
    ∷ case some_both some_each (0x41 ∷ 0 ∷ 6 ∷ 0 ∷ 0 ∷ 0 ∷ 1 ∷ 0 ∷ 1 ∷ 0x2F ∷ 0 ∷ 1 ∷ []) (refused 16)
    ∷ case some_both some_each (0x41 ∷ 0 ∷ 6 ∷ 0 ∷ 0 ∷ 0 ∷ 1 ∷ 0 ∷ 1 ∷ 0x2F ∷ 1 ∷ 0 ∷ []) (refused 16)
    ∷ case some_both some_each (0x41 ∷ 0 ∷ 6 ∷ 0 ∷ 0 ∷ 0 ∷ 1 ∷ 0 ∷ 1 ∷ 0x2E ∷ 0 ∷ 0 ∷ []) (refused 16)
    ∷ case some_both some_each (map3 0 1 1 ++ (0 ∷ [])) (refused 16)
    ∷ case some_both some_each (0x41 ∷ 0 ∷ 6 ∷ 0 ∷ 0 ∷ 0 ∷ 1 ∷ 0 ∷ 1 ∷ 0x2F ∷ 0 ∷ []) (refused 16)
    -- a refutation: its length field, tag, the end field, the last byte
    ∷ case some_each empty (0x42 ∷ 0 ∷ 10 ∷ (replicate 11 0 ++ end)) (refused 16)
    ∷ case some_each empty (0x42 ∷ 0 ∷ 10 ∷ (replicate 10 0 ++ end)) (refused 16)
    ∷ case some_each empty (0x41 ∷ 0 ∷ 11 ∷ (replicate 11 0 ++ end)) (refused 16)
    ∷ case some_each empty (zeroth ++ (0x2F ∷ 0 ∷ 1 ∷ [])) (refused 16)
    ∷ case some_each empty (alone ++ (0 ∷ [])) (refused 16)
    ∷ case some_each empty (zeroth ++ (0x2F ∷ 0 ∷ [])) (refused 16)
    ∷ case some_each empty (zeroth ++ (0x42 ∷ 0 ∷ 10 ∷ (replicate 11 0 ++ end))) (refused 16)
    -- both forms in one file
    ∷ case some_both some_each (0x41 ∷ 0 ∷ 6 ∷ 0 ∷ 0 ∷ 0 ∷ 1 ∷ 0 ∷ 1 ∷ alone) (refused 16)
    ∷ case some_both some_each (zeroth ++ map3 0 1 1) (refused 16)
    -- 17, of both bytes of the image; before 19 of the same row, after 19 of the row before
    ∷ case some_both some_each (map3 0 1 2) (refused 17)
    ∷ case some_both some_reached (0x41 ∷ 0 ∷ 4 ∷ 0 ∷ 0 ∷ 1 ∷ 1 ∷ end) (refused 17)
    ∷ case some_reached some_both (map2 0 2) (refused 17)
    ∷ case some_reached (root 8 ++ (some_row 0 8 0 ++ end)) (map2 0 2) (refused 19)
    -- 18; 17 comes before it, and 19 after
    ∷ case some_both empty (map1 0) (Ok Map)
    ∷ case some_both empty (map1 1) (refused 18)
    ∷ case some_both empty (map1 2) (refused 17)
    ∷ case some_reached named (map1 1) (refused 18)
    ∷ case some_reached named (map1 0) (refused 19)
    -- 19: names wanted, names excluded, the mark; a row 0 2 8 1 0 0 image takes everything; 19 comes before 20
    ∷ case some_each some_both (map2 0 1) (refused 19)
    ∷ case some_both excluding (map2 0 1) (refused 19)
    ∷ case excluding excluding (map2 0 1) (Ok Map)
    ∷ case all_five none_reached (map2 0 1) (refused 19)
    ∷ case none_reached none_reached (map2 0 1) (Ok Map)
    ∷ case none_reached all_five (map2 0 1) (Ok Map)
    ∷ case some_reached all_five (map2 0 1) (refused 19)
    -- 20: kind, role, below the parent's image
    ∷ case some_both all_five (map2 0 1) (refused 20)
    ∷ case some_both other_role (map2 0 1) (refused 20)
    ∷ case other_role other_role (map2 0 1) (Ok Map)
    ∷ case some_both some_reached (map2 0 0) (refused 20)
    ∷ case chain chain (map3 0 1 2) (Ok Map)
    ∷ case chain chain (map3 0 1 1) (refused 20)
    -- below a row 0 2 8 1 0 0 image that image, and no other
    ∷ case none_beside all_some (map3 0 1 1) (Ok Map)
    ∷ case none_beside all_some (map3 0 1 0) (refused 20)
    ∷ case none_beside all_some (map3 0 1 2) (refused 20)
    ∷ case impossible some_each (map3 0 0 0) (Ok Map)
    -- not the lowest image
    ∷ case twice some_three (map2 0 1) (Ok Map)
    ∷ case twice some_three (map2 0 2) (Ok Map)
    -- 21: the parent, by both bytes; the role; individual 0; before 22
    ∷ case some_each some_both (zeroth ++ (individual 0 1 8 8 ++ end)) (refused 21)
    ∷ case some_each some_both (zeroth ++ (individual 1 0 8 8 ++ end)) (refused 21)
    ∷ case some_each some_both (zeroth ++ (individual 0 0 8 8 ++ (individual 0 0 8 32 ++ (individual 0 0 31 0 ++ end)))) (Ok Refutation)
    ∷ case some_each some_both (zeroth ++ (individual 0 0 8 8 ++ (individual 0 0 8 32 ++ (individual 0 0 32 0 ++ end)))) (refused 21)
    ∷ case none_reached some_reached (individual 0 1 0 0 ++ end) (refused 21)
    ∷ case none_reached some_reached (individual 0 0 1 0 ++ end) (refused 21)
    ∷ case some_each some_both (individual 0 0 0 8 ++ (individual 0 0 9 8 ++ (individual 0 2 8 32 ++ end))) (refused 21)
    -- 22, before 23: individual 0 fits neither, the second alone
    ∷ case some_each some_both alone (refused 22)
    ∷ case some_both empty alone (refused 22)
    ∷ case some_each some_both (zeroth ++ (individual 0 0 8 8 ++ (individual 0 1 8 32 ++ end))) (refused 22)
    ∷ case all_five some_both (zeroth ++ (individual 0 0 8 8 ++ end)) (refused 22)
    -- 23
    ∷ case empty empty alone (refused 23)
    ∷ case some_both some_each (zeroth ++ (individual 0 0 8 40 ++ end)) (refused 23)
    ∷ case some_each some_both (zeroth ++ (individual 0 0 8 40 ++ end)) (refused 23)
    -- taken: K7 reversed, K8; with nobody reached, what an all-successor asks is so
    ∷ case some_each some_both (zeroth ++ (individual 0 0 8 8 ++ (individual 0 0 8 32 ++ end))) (Ok Refutation)
    ∷ case none_reached some_reached alone (Ok Refutation)
    ∷ case all_five some_reached alone (Ok Refutation)
    ∷ case empty impossible alone (Ok Refutation)
    ∷ []

pub all_pass : run_all cases ≡ cases
unfolding be be_bytes row_of end_bytes ends_at depth_in depth tag_ok length_for kind_ok role_ok parent_ok value_field row_field end_field field_at scan_from reading_of row_count merged_tree merged_count normal_tree_of normal_file
    each individual_count individual_head refutation_form individual_ok map_form row_asked asked_from map_asked refutation_asked check_asked evidence_asked read_asked merged_asked pair_asked lent_asked verify_answer
all_pass = refl
