-- 01, "Cases": what the starred cases are written in, pictures and evidence as bytes, and what each says of the calls. The cases are in Starred.
--   r, s                          roles 8 and 9
--   names                         a set of names by their numbers
--   root_row, some_row, all_row      a row with wanted names; of a successor, first its parent's row number and its role
--   contradictory_root             a root with names both wanted and excluded
--   impossible_root,
--   impossible_all_row              rows with the impossible mark
--   picture                       rows, and the end field
--   map_bytes, individual_field     a map by its images; an individual by its parent, its role and the names that hold
--   refutation                    individuals, and the end field
--   Case                          normal: a picture of so many rows, and its normal table of so many
--                                 subsumes: the second covers the first, with our map; subsumesNot: it does not, with our refutation (01 leaves which
--                                 one it is to the program)
--                                 common: two pictures, and their common picture of so many rows
--                                 subsumesAll: a picture of so many rows that covers every picture, with one map that is ours for each that passes 14
--   HasRows                       the plain test's row count
--   WritesNormal, WritesCommon,
--   WritesEvidence,
--   TakesEvidence                 what a call gives with any buffers that are long enough
--   Holds, AllHold                what a claim says of the calls; that each of a list holds
-- These are at any limits; that the cases hold is shown at paper 01's. The definitions book is one without definitions:
-- the end field alone.
use Rattle.std.specs.Prelude.{◌*◌, ◌+◌, ◌^◌, ◌≤◌, ℕ, length, List, [], ◌++◌, ◌∷◌, ◌≡◌}
use Rattle.table.specs.Bounds.{picture_size}
use Rattle.table.specs.Fields.{end_bytes, row_of}
use Rattle.table.specs.Layout.{kind_exists, kind_for_all, kind_root, name_bytes, number_size}
use Rattle.table.specs.Number.{be_bytes}
use Rattle.table.specs.Put.{put}
use Rattle.table.specs.declared.layout.Limits.{Limits}
use Rattle.countermodel.specs.Layout.{individual_length, individual_tag}
use Rattle.picture.specs.Readable.{Readable}
use Rattle.meaning.specs.Covering.{Covers}
use Rattle.meaning.specs.NormalTable.{merged_count}
use Rattle.workspace.specs.Prepare.{work_size}
use Rattle.homomorphism.specs.Layout.{map_tag}
use Rattle.subsumption.specs.Verdict.{evidence_size}
use Rattle.under.specs.Calls.{lcs_result_under, normalize_result_under, subsumes_result_under}
use Rattle.interface.specs.Calls.{lcs_word, normalize_word, subsumes_word, validate_word, verify_word}
use Rattle.interface.specs.Word.{outcome_no, outcome_yes, value_word}

-- ---- pictures by rows

abbrev pub r : ℕ
r = 8

abbrev pub s : ℕ
s = 9

abbrev pub names : List ℕ → ℕ
names [] = 0
names (n ∷ ns) = 2 ^ n + names ns

abbrev pub root_row : List ℕ → List ℕ
root_row wanted = row_of 0 kind_root 0 0 (names wanted) 0

abbrev pub some_row : ℕ → ℕ → List ℕ → List ℕ
some_row parent role wanted = row_of parent kind_exists role 0 (names wanted) 0

abbrev pub all_row : ℕ → ℕ → List ℕ → List ℕ
all_row parent role wanted = row_of parent kind_for_all role 0 (names wanted) 0

abbrev pub contradictory_root : List ℕ → List ℕ
contradictory_root both = row_of 0 kind_root 0 0 (names both) (names both)

abbrev pub impossible_root : List ℕ
impossible_root = row_of 0 kind_root 0 1 0 0

abbrev pub impossible_all_row : ℕ → ℕ → List ℕ
impossible_all_row parent role = row_of parent kind_for_all role 1 0 0

abbrev pub picture : List (List ℕ) → List ℕ
picture [] = end_bytes
picture (row ∷ rows) = row ++ picture rows

-- ---- evidence

abbrev pub images : List ℕ → List ℕ
images [] = end_bytes
images (v ∷ vs) = be_bytes number_size v ++ images vs

abbrev pub map_bytes : List ℕ → List ℕ
map_bytes im = (map_tag ∷ []) ++ be_bytes number_size (number_size * length im) ++ images im

abbrev pub individual_field : ℕ → ℕ → List ℕ → List ℕ
individual_field parent role held =
    (individual_tag ∷ []) ++ be_bytes number_size individual_length ++ be_bytes number_size parent ++ (role ∷ []) ++ be_bytes name_bytes (names held)

abbrev pub refutation : List (List ℕ) → List ℕ
refutation = picture

-- ---- claims

pub data Case : Type 0 where
  normal : ℕ → List ℕ → ℕ → List ℕ → Case
  subsumes : List ℕ → List ℕ → List ℕ → Case
  subsumes_not : List ℕ → List ℕ → List ℕ → Case
  common : List ℕ → List ℕ → ℕ → List ℕ → Case
  subsumes_all : ℕ → List ℕ → List ℕ → Case

module _ (limits : Limits) where
  abbrev pub HasRows : List ℕ → ℕ → Type 0
  HasRows table rows = validate_word limits table ≡ value_word outcome_yes rows

  -- the word has the table's length; the result buffer holds the table, and past it what was lent
  abbrev pub WritesNormal : List ℕ → List ℕ → Type 0
  WritesNormal first table =
      (result : List ℕ) → picture_size limits ≤ length result →
      (normalize_word limits end_bytes first (length result) ≡ value_word outcome_yes (length table))
      × (normalize_result_under limits end_bytes first result ≡ put result 0 table)

  abbrev pub WritesCommon : List ℕ → List ℕ → List ℕ → Type 0
  WritesCommon first second table =
      (work result : List ℕ) → work_size limits ≤ length work → picture_size limits ≤ length result →
      (lcs_word limits end_bytes first second (length work) (length result) ≡ value_word outcome_yes (length table))
      × (lcs_result_under limits end_bytes first second (length work) result ≡ put result 0 table)

  -- the word has the verdict and the evidence's length; the result buffer holds the evidence, and past it what was lent
  abbrev pub WritesEvidence : List ℕ → List ℕ → ℕ → List ℕ → Type 0
  WritesEvidence first second outcome evidence =
      (work result : List ℕ) → work_size limits ≤ length work → evidence_size limits ≤ length result →
      (subsumes_word limits end_bytes first second (length work) (length result) ≡ value_word outcome (length evidence))
      × (subsumes_result_under limits end_bytes first second (length work) result ≡ put result 0 evidence)

  abbrev pub TakesEvidence : List ℕ → List ℕ → ℕ → List ℕ → Type 0
  TakesEvidence first second outcome evidence =
      (work : List ℕ) → work_size limits ≤ length work →
      verify_word limits end_bytes first second evidence (length work) ≡ value_word outcome 0

  -- normal: the row counts, and the normal table
  -- subsumes, subsumesNot: the verdict is yes, or no, with this evidence, which the check takes, and it is so by the
  -- meaning of the two pictures
  -- common: the row count, and the common picture, which by its meaning covers both
  -- subsumesAll: the row count; by its meaning so of every readable picture, by the calls of each that passes 14
  abbrev pub Holds : Case → Type 0
  Holds (normal rows first left table) = HasRows first rows × HasRows table left × WritesNormal first table
  Holds (subsumes first second map) =
      WritesEvidence first second outcome_yes map
      × TakesEvidence first second outcome_yes map
      × Covers limits second first
  Holds (subsumes_not first second refuting) =
      WritesEvidence first second outcome_no refuting
      × TakesEvidence first second outcome_no refuting
      × (Covers limits second first → ⊥)
  Holds (common first second rows table) =
      HasRows table rows
      × (WritesCommon first second table × Covers limits table first × Covers limits table second)
  Holds (subsumes_all rows second map) =
      HasRows second rows
      × ((first : List ℕ) → Readable limits first →
      Covers limits second first
      × (merged_count limits first ≤ limits.rows →
      WritesEvidence first second outcome_yes map × TakesEvidence first second outcome_yes map))

  abbrev pub AllHold : List Case → Type 0
  AllHold [] = Unit {0}
  AllHold (c ∷ cs) = Holds c × AllHold cs
