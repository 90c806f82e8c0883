-- Worked cases of what is printed, computed: the lines of the papers, and lines from pictures as bytes.
--   numbers          from 0 to the greatest that a refusal can carry
--   refusal_lines    of both pictures; 02, U1: row, then byte
--   printed_lines    01: some r{3,5}, and some r{3}, some r{5}; these two exchanged; a refused row after the first; an
--                    empty file
use Prim.Native.Nat.{ℕ}
use Prim.Native.String.{String}
use mathlib.Core.List.{List, [], ◌++◌, ◌∷◌}
use mathlib.Core.Path.{◌≡◌, refl}
use Rattle.table.specs.Fields.{end_bytes, row_of}
use Rattle.table.specs.Number.{be, be_bytes}
use Rattle.picture.specs.Asked.{read_asked}
use Rattle.picture.specs.Depth.{depth, depth_in}
use Rattle.picture.specs.Questions.{end_field, field_at, kind_ok, length_for, parent_ok, role_ok, row_field, tag_ok, value_field}
use Rattle.picture.specs.Read.{reading_of, scan_from}
use Rattle.picture.specs.Readable.{row_count}
use Rattle.picture.specs.declared.answer.Input.TheVariants.{First, Second}
use Rattle.meaning.proofs.CasePictures.{root, some_both, some_each}
use Rattle.meaning.specs.Covering.{covers}
use Rattle.meaning.specs.NormalTable.{merged_count, merged_tree, normal_file, normal_tree_of}
use Rattle.homomorphism.specs.Map.{lowest_map, map_file}
use Rattle.normal.specs.Call.{merged_asked}
use Rattle.workspace.specs.Lent.{lent_asked}
use Rattle.workspace.specs.Prepare.{pair_asked}
use Rattle.subsumption.specs.Call.{subsumes_answer, verdict_answer}
use Rattle.subsumption.specs.Verdict.{evidence_of, map_of, verdict_of}
use Rattle.verdict_lines.specs.Lines.{decimal, map_lines, output, printed, refusal_line, text}

abbrev texts : List String → List (List ℕ)
texts [] = []
texts (s ∷ more) = text s ∷ texts more

-- the head of a row that is a byte too short
abbrev short_row : List ℕ
short_row = 0x10 ∷ 0 ∷ 20 ∷ []

pub numbers : decimal 0 ∷ decimal 9 ∷ decimal 10 ∷ decimal 255 ∷ decimal 6144 ∷ decimal 65535 ∷ []
    ≡ texts ("0" ∷ "9" ∷ "10" ∷ "255" ∷ "6144" ∷ "65535" ∷ [])
unfolding decimal
numbers = refl

pub refusal_lines : refusal_line First 11 3 72 ∷ refusal_line Second 14 0 0 ∷ []
    ≡ texts ("refused first 11 3 72\n" ∷ "refused second 14 0 0\n" ∷ [])
unfolding decimal
refusal_lines = refl

pub printed_lines : printed some_both some_each ∷ printed some_each some_both ∷ printed (root 0 ++ short_row) some_both
    ∷ printed some_both [] ∷ []
    ≡ texts ("verdict yes\n0 0\n1 1\n2 1\n" ∷ "verdict no\n" ∷ "refused first 4 1 24\n" ∷ "refused second 2 0 0\n" ∷ [])
unfolding printed output map_lines decimal be be_bytes row_of end_bytes depth_in depth tag_ok length_for kind_ok role_ok
    parent_ok value_field row_field end_field field_at scan_from reading_of read_asked row_count merged_tree merged_count
    normal_tree_of normal_file merged_asked pair_asked lent_asked covers verdict_of map_of lowest_map map_file evidence_of
    verdict_answer
    subsumes_answer
printed_lines = refl
