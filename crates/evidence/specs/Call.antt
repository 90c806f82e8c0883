-- 01, "Check evidence: map taken or refutation taken": the answer, and what the work space holds then.
--   evidence_asked   16 to 23, for the normal tables of two pictures and the pictures themselves
--   verify_lent      1; first; second; 14 of each
--   verify_asked     those; 16 to 23
--   evidence_kind    a map or a refutation
--   verify_answer    that is taken, after these
--   verify_work      the work space: both tables once 14 is answered yes for both, whatever 16 to 23 answer; else
--                   nothing written
use Rattle.std.specs.Prelude.{ℕ, leb, length, List, Ok, Result}
use Rattle.table.specs.declared.layout.Limits.{Limits}
use Rattle.picture.specs.Asked.{and_then, on_asked, Asked}
use Rattle.meaning.specs.Meaning.{picture_table, picture_tree}
use Rattle.meaning.specs.NormalTable.{normal_file}
use Rattle.workspace.specs.Lent.{lent_asked, pair_work}
use Rattle.workspace.specs.Prepare.{work_size}
use Rattle.evidence.specs.declared.check.Taken.{Taken}
use Rattle.picture.specs.declared.answer.Refusal.{Refusal}
use Rattle.evidence.specs.Check.{check_asked, taken_as}

unfoldable pub evidence_asked : Limits → List ℕ → List ℕ → List ℕ → Asked
evidence_asked limits first second evidence =
    check_asked limits (picture_table (normal_file limits first)) (picture_table (normal_file limits second))
    (picture_tree limits first) (picture_tree limits second) evidence

abbrev pub verify_lent : Limits → List ℕ → List ℕ → ℕ → Asked
verify_lent limits first second room = lent_asked limits (leb (work_size limits) room) first second

abbrev pub verify_asked : Limits → List ℕ → List ℕ → List ℕ → ℕ → Asked
verify_asked limits first second evidence room =
    and_then (verify_lent limits first second room) (evidence_asked limits first second evidence)

abbrev pub evidence_kind : Limits → List ℕ → List ℕ → Taken
evidence_kind limits second evidence = taken_as (picture_table (normal_file limits second)).rows evidence

unfoldable pub verify_answer : Limits → List ℕ → List ℕ → List ℕ → ℕ → Result Taken Refusal
verify_answer limits first second evidence room =
    on_asked (verify_asked limits first second evidence room) (Ok (evidence_kind limits second evidence))

abbrev pub verify_work : Limits → List ℕ → List ℕ → List ℕ → List ℕ
verify_work limits first second work = pair_work limits (leb (work_size limits) (length work)) first second work
