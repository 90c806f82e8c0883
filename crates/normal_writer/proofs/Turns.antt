-- One turn of the loop over the roles of what hangs from a set.
--   role_turn      the successors of one role more
--   role_full      the last that the limit lets in
-- One turn of the loop over the some-successors of a role.
--   exists_turn    one more
--   exists_full    the last that the limit lets in
use Prim.Native.Nat.{◌-◌, ◌<◌, ℕ}
use mathlib.Core.Bool.{Bool}
use mathlib.Core.List.{List}
use mathlib.Core.Path.{◌≡◌, sym}
use native.Mathlib.Omega.{arith}
use Rattle.std.proofs.Common.{Some}
use Rattle.table.specs.Layout.{roles}
use Rattle.ale.specs.Tree.{cons, exists, nil}
use Rattle.normal_writer.specs.Grown.{Grown}
use Rattle.row_sets.specs.Parts.{exists_part_at, merged_at, parts_at, roles_at, successors_at}
use Rattle.row_sets.specs.Rows.{Known, also, holds, of_role}
use Rattle.row_sets.specs.Walks.{MemberStep, RoleStep}
use Rattle.normal_writer.specs.declared.node.Branch.{Branch}
use Rattle.row_sets.specs.declared.members.Members.{Members}
use Rattle.row_sets.specs.declared.members.Roles.{Roles}
use Rattle.row_sets.specs.declared.rows.RowSet.{RowSet}
use Rattle.row_sets.specs.declared.rows.Successors.{Successors}
use Rattle.normal_writer.proofs.Growth.{grown_append, grown_full, grown_same}
use Rattle.row_sets.proofs.MemberWalks.{Over, next_row}
use Rattle.row_sets.proofs.PartLaws.{exists_more, roles_more, successors_roles}
use Rattle.row_sets.proofs.PartWalks.{exists_step, role_step}

module _ (s : List ℕ) (rows depth : ℕ) (successors : Successors) (known : Known s rows successors) (limit parent : ℕ) (b : Branch) (out : List ℕ)
    (m n : Roles) (of : m.word ≡ successors.roles) (role : ℕ) (step : RoleStep m (Some role) n) (mid r : Branch) (so_far end : List ℕ)
    (g : Grown limit parent b out (roles_at s rows (depth - 1) (holds successors.set) m.from) mid so_far)
    (h : Grown limit parent mid so_far (parts_at s rows (depth - 1) role (of_role s role (holds successors.set))) r end) where
  pub role_turn : Grown limit parent b out (roles_at s rows (depth - 1) (holds successors.set) n.from) r end
  role_turn =
      grown_same limit parent b r out end _ _ (role_step s rows (depth - 1) successors known m n of role step)
      (grown_append limit parent b mid r out so_far end _ _ g h)

  pub role_full : (depth ≡ 0 → ⊥) → limit < r.merged → Grown limit parent b out (successors_at s rows depth (holds successors.set)) r end
  role_full some over =
      grown_same limit parent b r out end _ _ (sym (successors_roles s rows (holds successors.set) depth some))
      (grown_full limit parent b r out end _ _ role_turn over (roles_more s rows (holds successors.set) (depth - 1) n.from roles n.within))

module _ (s : List ℕ) (rows depth role : ℕ) (set : RowSet) (q : ℕ → Bool) (limit parent : ℕ) (b : Branch) (out : List ℕ)
    (m n : Members) (over : Over set rows m) (j : ℕ) (step : MemberStep m (Some j) n) (mid r : Branch) (so_far end : List ℕ)
    (g : Grown limit parent b out (exists_part_at s rows depth role (holds set) q m.from) mid so_far)
    (h : Grown limit parent mid so_far (cons exists role (merged_at s rows depth (also j q)) nil) r end) where
  pub exists_turn : Grown limit parent b out (exists_part_at s rows depth role (holds set) q n.from) r end
  exists_turn =
      grown_same limit parent b r out end _ _ (exists_step s rows depth role set q m n over j step)
      (grown_append limit parent b mid r out so_far end _ _ g h)

  pub exists_full : limit < r.merged → Grown limit parent b out (exists_part_at s rows depth role (holds set) q rows) r end
  exists_full past =
      let (l, next, from) = next_row set rows m n over j step in
      grown_full limit parent b r out end _ _ exists_turn past (exists_more s rows depth role (holds set) q n.from rows (omega (arith, from)))
