-- Each function grows its own forest; the remaining depth falls where a row's successors are made.
use mathlib.Core.Bool.{Bool}
use mathlib.Core.Path.{◌≡◌}
use Rattle.row_sets.specs.Rows.{holds}
use Rattle.row_sets.specs.Labels.{Valued}
use Rattle.row_sets.specs.Parts.{exists_part_at, roles_at}
use Rattle.row_sets.proofs.MemberWalks.{Over}
use Rattle.normal_writer.specs.Grown.{Grown}
use Prim.Native.Nat.{ℕ, ◌*◌, ◌+◌, ◌-◌}
use Rattle.normal_writer.proofs.grow.+graft.Given as goal

abbrev pub decreases-graft : goal.decreases-graft
decreases-graft l = 5 * l.depth + 1

abbrev pub decreases-graft_exists : goal.decreases-graft_exists
decreases-graft_exists l = 5 * l.depth + 3

abbrev pub decreases-graft_role : goal.decreases-graft_role
decreases-graft_role l = 5 * l.depth + 4

abbrev pub decreases-graft_roles : goal.decreases-graft_roles
decreases-graft_roles l = 5 * l.depth

abbrev pub decreases-graft_row : goal.decreases-graft_row
decreases-graft_row l = 5 * l.depth + 2

abbrev pub decreases-graft_value : goal.decreases-graft_value
decreases-graft_value l = 5 * l.depth + 3

abbrev pub invariant-graft_exists-loop-j : goal.invariant-graft_exists-loop-j
invariant-graft_exists-loop-j l = record {
  over : Over l.fn.some l.survey.table.rows l.j-iterator;
  grown : (q : ℕ → Bool) → Valued l.survey.table.bytes.now l.survey.table.rows q l.values → Grown l.limit l.parent l.initial.grown l.initial.out (exists_part_at l.survey.table.bytes.now l.survey.table.rows l.depth l.role (holds l.fn.some) q l.j-iterator.from) l.grown l.out;
}

abbrev pub invariant-graft_roles-loop-role : goal.invariant-graft_roles-loop-role
invariant-graft_roles-loop-role l = record {
  of : l.role-iterator.word ≡ l.successors.roles;
  grown : Grown l.limit l.parent l.initial.grown l.initial.out (roles_at l.survey.table.bytes.now l.survey.table.rows (l.depth - 1) (holds l.successors.set) l.role-iterator.from) l.grown l.out;
}
