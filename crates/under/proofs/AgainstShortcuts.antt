-- Worked cases of the calls under a definitions book, computed from bytes; a shortcut would answer each otherwise. r is
-- 8, s is 9; {3} is 8.
--   table, told, product, check, nearest   a definitions book, what is given, and the answer, at four rows and with
--                  buffers of the lengths laid down
--   all_pass       all of these
--   buffers_left    what the buffers of all calls hold, lent with bytes 255, at one row
--   buffers_pass   a refusal before the first 14 writes nothing, and what is written is of the unfolded picture
use Prim.Native.Nat.{ℕ, ◌-◌}
use lib.ListN.{length, replicate}
use mathlib.Core.List.{List, [], ◌++◌, ◌∷◌}
use mathlib.Core.Path.{◌≡◌, refl}
use Rattle.std.proofs.Common.{Err, Ok, Result}
use Rattle.table.specs.Bounds.{picture_size}
use Rattle.table.specs.Fields.{end_bytes, ends_at, row_of}
use Rattle.table.specs.NameSet.{has, set_below}
use Rattle.table.specs.Number.{be, be_bytes}
use Rattle.table.specs.Put.{put, zeros}
use Rattle.table.specs.Range.{each, some}
use Rattle.order.specs.Preorder.{minimal, is_passed_over}
use Rattle.fields.specs.Form.{field_count, field_place, field_value, field_with, fields_form, fields_from}
use Rattle.picture.specs.Asked.{asked_from, read_asked}
use Rattle.picture.specs.Depth.{depth, depth_in}
use Rattle.picture.specs.Questions.{end_field, field_at, kind_ok, length_for, parent_ok, role_ok, row_field, tag_ok, value_field}
use Rattle.picture.specs.Read.{reading_of, scan_from}
use Rattle.picture.specs.Readable.{row_count}
use Rattle.picture.specs.Refusal.{refusal, refusal_at, too_many}
use Rattle.picture.specs.declared.answer.Input.TheVariants.{Book, Card, Definitions, First, Second}
use Rattle.meaning.proofs.CasePictures.{all_row, empty, end, four_rows, one_row, picture, root, row, some_row}
use Rattle.meaning.specs.Covering.{covers}
use Rattle.meaning.specs.NormalTable.{merged_count, merged_tree, normal_file, normal_tree_of}
use Rattle.normal.specs.Call.{merged_asked, normalize_answer, normalize_result, one_asked}
use Rattle.normal.specs.Half.{half_of}
use Rattle.homomorphism.specs.Map.{lowest_map, map_file}
use Rattle.countermodel.specs.Individual.{individual_head, individual_ok, refutation_form}
use Rattle.countermodel.specs.Layout.{individual_count}
use Rattle.countermodel.specs.Writing.{individual_bytes, refutation_file}
use Rattle.workspace.specs.Lent.{lent_asked}
use Rattle.workspace.specs.Prepare.{halves_put, pair_asked, work_size}
use Rattle.evidence.specs.Call.{evidence_asked, verify_answer}
use Rattle.evidence.specs.Check.{check_asked, refutation_asked}
use Rattle.evidence.specs.Form.{map_form}
use Rattle.evidence.specs.Map.{map_asked, row_asked}
use Rattle.evidence.specs.declared.check.Taken.TheVariants as taken
use Rattle.subsumption.specs.Call.{subsumes_answer, verdict_answer}
use Rattle.subsumption.specs.Verdict.{evidence_of, evidence_size, map_of, refutation_of, verdict_of}
use Rattle.subsumption.specs.declared.verdict.Verdict.TheVariants as verdict
use Rattle.lcs.specs.Call.{lcs_answer}
use Rattle.lcs.specs.Product.{lcs_count, lcs_file, lcs_tree}
use Rattle.book.specs.Call.{book_asked, most_specific_answer}
use Rattle.book.specs.Form.{book_bytes}
use Rattle.book.specs.Selection.{most_specific, most_specific_cards}
use Rattle.definitions.proofs.CasesDefinitions.{define}
use Rattle.definitions.specs.Asked.{asked_of, definitions_asked}
use Rattle.definitions.specs.Form.{definition_file, definitions_form}
use Rattle.definitions.specs.Tbox.{defined_word}
use Rattle.definitions.specs.Unfolded.{excludes_none, named_once, unfolded_count, unfolded_few, unfolded_file, unfolded_shallow}
use Rattle.under.specs.Book.{book_before, most_specific_under, most_specific_work_under, unfolded_book}
use Rattle.under.specs.Calls.{lcs_result_under, lcs_under, lcs_work_under, normalize_result_under, normalize_under, subsumes_result_under, subsumes_under, subsumes_work_under, verify_under, verify_work_under}
use Rattle.subsumption.specs.declared.verdict.Verdict.{Verdict}
use Rattle.evidence.specs.declared.check.Taken.{Taken}
use Rattle.picture.specs.declared.answer.Refusal.{Refusal}
use Rattle.under.specs.Given.{lent_under, under_asked}

pub data Case : Type 0 where
  table : List ℕ → List ℕ → Result ℕ Refusal → Case
  told : List ℕ → List ℕ → List ℕ → Result Verdict Refusal → Case
  product : List ℕ → List ℕ → List ℕ → Result ℕ Refusal → Case
  check : List ℕ → List ℕ → List ℕ → List ℕ → Result Taken Refusal → Case
  nearest : List ℕ → List ℕ → List ℕ → Result ℕ Refusal → Case

abbrev work : ℕ
work = work_size four_rows

abbrev ran : Case → Case
ran (table tbox s a) = table tbox s (normalize_under four_rows tbox s (picture_size four_rows))
ran (told tbox first second a) =
    told tbox first second (subsumes_under four_rows tbox first second work (evidence_size four_rows))
ran (product tbox first second a) =
    product tbox first second (lcs_under four_rows tbox first second work (picture_size four_rows))
ran (check tbox first second e a) = check tbox first second e (verify_under four_rows tbox first second e work)
ran (nearest tbox case book a) = nearest tbox case book (most_specific_under four_rows tbox case book work)

abbrev pub run_all : List Case → List Case
run_all [] = []
run_all (c ∷ cs) = ran c ∷ run_all cs

-- ---- pictures and books

abbrev wants : ℕ → List ℕ
wants names = picture (root names ∷ [])

abbrev some_r : List ℕ
some_r = picture (root 0 ∷ some_row 0 8 0 ∷ [])

-- 3: some r{}; 3: all r(some s{1}); a name byte too large
abbrev three_some : List ℕ
three_some = define 3 some_r end

abbrev three_all : List ℕ
three_all = define 3 (picture (root 0 ∷ all_row 0 8 0 ∷ some_row 1 9 2 ∷ [])) end

abbrev no_name : List ℕ
no_name = define 64 empty end

-- {3}, some r{2}: two rows, with `threeAll` four, and merged five
abbrev grows : List ℕ
grows = picture (root 8 ∷ some_row 0 8 4 ∷ [])

abbrev not_three : List ℕ
not_three = picture (row 0 0 0 0 0 8 ∷ [])

-- refused by 3
abbrev bad_tag : List ℕ
bad_tag = 0x11 ∷ 0 ∷ 21 ∷ []

-- a map of two rows; an individual with names
abbrev two_images : List ℕ
two_images = 0x41 ∷ 0 ∷ 4 ∷ 0 ∷ 0 ∷ 0 ∷ 1 ∷ end

abbrev alone : ℕ → List ℕ
alone names = 0x42 ∷ 0 ∷ 11 ∷ 0 ∷ 0 ∷ 0 ∷ 0 ∷ 0 ∷ 0 ∷ 0 ∷ 0 ∷ 0 ∷ 0 ∷ names ∷ end

abbrev pub cases : List Case
cases =
    -- both pictures are unfolded
    told three_some (wants 8) some_r (Ok (verdict.Yes 10))
    ∷ told three_some some_r (wants 8) (Ok (verdict.Yes 10))
    ∷ told end (wants 8) some_r (Ok (verdict.No 17))
    -- 2 to 13 of both, before 25
    ∷ told no_name bad_tag [] (Err (refusal_at 3 First 0))
    ∷ told no_name empty bad_tag (Err (refusal_at 3 Second 0))
    ∷ told no_name grows grows (Err (refusal 25 Definitions))
    -- 27 of both, before 14
    ∷ told three_some empty not_three (Err (refusal 27 Second))
    -- 14, of the unfolded pictures
    ∷ told end grows grows (Ok (verdict.Yes 10))
    ∷ told three_all grows empty (Err (too_many First))
    ∷ told three_all empty grows (Err (too_many Second))
    ∷ table three_some (wants 8) (Ok 51)
    ∷ table three_all grows (Err (too_many First))
    ∷ table no_name bad_tag (Err (refusal_at 3 First 0))
    ∷ table no_name empty (Err (refusal 25 Definitions))
    ∷ product three_some (wants 8) some_r (Ok 51)
    ∷ product three_some some_r (wants 8) (Ok 51)
    ∷ product three_all empty grows (Err (too_many Second))
    -- the rows of a map are those of the unfolded pictures; what an individual has of defined names is ignored
    ∷ check three_some (wants 8) (wants 8) two_images (Ok taken.Map)
    ∷ check three_some empty (wants 8) (alone 0) (Ok taken.Refutation)
    ∷ check three_some empty (wants 8) (alone 8) (Ok taken.Refutation)
    ∷ check three_all empty grows [] (Err (too_many Second))
    -- the case and the cards are unfolded: here the two cards cover each other
    ∷ nearest three_some (wants 8) (book_bytes (wants 8 ∷ some_r ∷ [])) (Ok 3)
    ∷ nearest three_some some_r (book_bytes (wants 8 ∷ empty ∷ [])) (Ok 1)
    ∷ nearest end (wants 8) (book_bytes (wants 8 ∷ some_r ∷ [])) (Ok 1)
    -- the case, 24 and the cards, before 25; 27 of the cards; 14 of the unfolded ones
    ∷ nearest no_name bad_tag [] (Err (refusal_at 3 First 0))
    ∷ nearest no_name empty [] (Err (refusal 24 Book))
    ∷ nearest no_name empty (book_bytes (empty ∷ bad_tag ∷ [])) (Err (refusal_at 3 (Card 1) 0))
    ∷ nearest no_name empty (book_bytes (empty ∷ grows ∷ [])) (Err (refusal 25 Definitions))
    -- 27 of the case before the cards
    ∷ nearest three_some not_three (book_bytes (not_three ∷ [])) (Err (refusal 27 First))
    ∷ nearest three_some empty (book_bytes (empty ∷ not_three ∷ [])) (Err (refusal 27 (Card 1)))
    ∷ nearest three_all empty (book_bytes (empty ∷ grows ∷ [])) (Err (too_many (Card 1)))
    ∷ []

pub all_pass : run_all cases ≡ cases
unfolding be be_bytes row_of end_bytes ends_at has some each set_below depth_in depth tag_ok length_for kind_ok role_ok parent_ok
    value_field row_field end_field field_at scan_from reading_of row_count read_asked asked_from
    merged_tree merged_count normal_tree_of normal_file merged_asked pair_asked lent_asked one_asked normalize_answer
    covers verdict_of map_of lowest_map map_file refutation_of refutation_file individual_bytes evidence_of verdict_answer
    subsumes_answer lcs_tree lcs_count lcs_file lcs_answer
    individual_count individual_head refutation_form individual_ok map_form row_asked map_asked refutation_asked check_asked
    evidence_asked verify_answer
    field_place field_value field_with fields_from field_count fields_form is_passed_over minimal most_specific most_specific_cards
    book_asked most_specific_answer
    definitions_form definition_file defined_word named_once excludes_none unfolded_count unfolded_few unfolded_shallow
    unfolded_file asked_of definitions_asked
    under_asked lent_under normalize_under subsumes_under lcs_under verify_under book_before unfolded_book most_specific_under
all_pass = refl

-- ---- buffers, at one row

abbrev bytes : ℕ → List ℕ
bytes n = replicate n 255

-- what those of all calls hold then, on a picture and itself
abbrev pub buffers_left : List ℕ → List ℕ → List (List ℕ)
buffers_left tbox s =
    normalize_result_under one_row tbox s (bytes 27)
    ∷ subsumes_work_under one_row tbox s s (bytes 54) (evidence_size one_row)
    ∷ subsumes_result_under one_row tbox s s 54 (bytes (evidence_size one_row))
    ∷ lcs_work_under one_row tbox s s (bytes 54) 27
    ∷ lcs_result_under one_row tbox s s 54 (bytes 27)
    ∷ verify_work_under one_row tbox s s (bytes 54)
    ∷ most_specific_work_under one_row tbox s (book_bytes (s ∷ [])) (bytes 54)
    ∷ []

abbrev lent : List (List ℕ)
lent = bytes 27 ∷ bytes 54 ∷ bytes (evidence_size one_row) ∷ bytes 54 ∷ bytes 27 ∷ bytes 54 ∷ bytes 54 ∷ []

-- 3: {2}
abbrev three_two : List ℕ
three_two = define 3 (wants 4) end

abbrev one_image : List ℕ
one_image = 0x41 ∷ 0 ∷ 2 ∷ 0 ∷ 0 ∷ end

abbrev written : List (List ℕ)
written =
    wants 4 ∷ (wants 4 ++ wants 4) ∷ (one_image ++ bytes (evidence_size one_row - length one_image))
    ∷ (wants 4 ++ wants 4) ∷ wants 4 ∷ (wants 4 ++ wants 4) ∷ replicate 54 0 ∷ []

-- 25 writes nothing, nor do a definition's 3, 26, 27 of a picture that excludes 3, and 28 of 3 that wants itself; what
-- is written else is of the unfolded picture
pub buffers_pass : (buffers_left no_name empty ≡ lent)
    × (buffers_left (define 3 bad_tag end) empty ≡ lent)
    × (buffers_left (define 3 empty three_two) empty ≡ lent)
    × (buffers_left three_two not_three ≡ lent)
    × (buffers_left (define 3 (wants 8) end) empty ≡ lent)
    × (buffers_left three_two (wants 8) ≡ written)
unfolding be be_bytes row_of end_bytes ends_at has some each set_below put zeros depth_in depth tag_ok length_for kind_ok role_ok
    parent_ok value_field row_field end_field field_at scan_from reading_of row_count read_asked asked_from
    merged_tree merged_count normal_tree_of normal_file merged_asked pair_asked lent_asked one_asked normalize_result half_of
    halves_put covers verdict_of map_of lowest_map map_file refutation_of refutation_file individual_bytes evidence_of
    lcs_tree lcs_count lcs_file field_place field_value field_with fields_from field_count fields_form book_asked
    definitions_form definition_file defined_word named_once excludes_none unfolded_count unfolded_few unfolded_shallow
    unfolded_file asked_of definitions_asked under_asked lent_under normalize_result_under subsumes_work_under
    subsumes_result_under lcs_work_under lcs_result_under verify_work_under book_before unfolded_book most_specific_work_under
buffers_pass = (refl, refl, refl, refl, refl, refl)
