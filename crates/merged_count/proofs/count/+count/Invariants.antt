-- Each function counts its own forest; the remaining depth falls where a row's successors are counted.
use mathlib.Core.Path.{◌≡◌}
use Rattle.row_sets.specs.Parts.{roles_at}
use Rattle.row_sets.specs.Rows.{holds}
use Rattle.row_sets.proofs.MemberWalks.{Over}
use Rattle.merged_count.specs.Count.{Counts}
use Rattle.merged_count.proofs.Counts.{Turning}
use Prim.Native.Nat.{◌*◌, ◌+◌, ◌-◌}
use Rattle.merged_count.proofs.count.+count.Given as goal

abbrev pub decreases-count_beside : goal.decreases-count_beside
decreases-count_beside l = 5 * l.depth + 2

abbrev pub decreases-count_exists : goal.decreases-count_exists
decreases-count_exists l = 5 * l.depth + 3

abbrev pub decreases-count_role : goal.decreases-count_role
decreases-count_role l = 5 * l.depth + 4

abbrev pub decreases-count_row : goal.decreases-count_row
decreases-count_row l = 5 * l.depth + 1

abbrev pub decreases-count_successors : goal.decreases-count_successors
decreases-count_successors l = 5 * l.depth

abbrev pub invariant-count_exists-loop-j : goal.invariant-count_exists-loop-j
invariant-count_exists-loop-j l = record {
  over : Over l.parts.some l.survey.table.rows l.j-iterator;
  turning : Turning l.survey.table.bytes.now l.survey.table.rows l.depth l.parts l.limit l.merged l.counted l.j-iterator.from;
}

abbrev pub invariant-count_successors-loop-role : goal.invariant-count_successors-loop-role
invariant-count_successors-loop-role l = record {
  of : l.role-iterator.word ≡ l.successors.roles;
  counts : Counts l.limit l.merged (roles_at l.survey.table.bytes.now l.survey.table.rows (l.depth - 1) (holds l.successors.set) l.role-iterator.from) l.counted;
}
