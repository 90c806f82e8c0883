-- What a walk makes of the merged rows of a set, step by step.
--   role_first, role_step, role_last         role by role: nothing, the successors of one role more, those of all roles
--   exists_first, exists_step, exists_last   some-successor by some-successor of one role: the same
use Prim.Native.Nat.{◌≤◌, ℕ}
use mathlib.Core.Bool.{Bool}
use mathlib.Core.List.{List}
use mathlib.Core.Path.{◌∙◌, ◌≡◌, ap, sym}
use native.Mathlib.Omega.{arith}
use Rattle.std.proofs.Common.{None, Some}
use Rattle.table.specs.Layout.{roles}
use Rattle.ale.specs.Forest.{append}
use Rattle.ale.specs.PictureSignature.{picture_signature}
use Rattle.ale.specs.Tree.{Forest, cons, exists, nil}
use Rattle.row_sets.specs.Parts.{exists_part_at, merged_at, parts_at, roles_at}
use Rattle.row_sets.specs.Rows.{Known, also, holds, of_role}
use Rattle.row_sets.specs.Walks.{MemberStep, NoneMet, RoleStep}
use Rattle.row_sets.specs.declared.members.Members.{Members}
use Rattle.row_sets.specs.declared.members.Roles.{Roles}
use Rattle.row_sets.specs.declared.rows.RowSet.{RowSet}
use Rattle.row_sets.specs.declared.rows.Successors.{Successors}
use Rattle.row_sets.proofs.MemberWalks.{Over, last_row, next_row}
use Rattle.row_sets.proofs.PartLaws.{exists_next, exists_none, exists_skip, roles_next, roles_none, roles_skip, unused_roles}

module _ (s : List ℕ) (rows depth : ℕ) (successors : Successors) where
  abbrev by_roles : ℕ → Forest picture_signature
  by_roles n = roles_at s rows depth (holds successors.set) n

  pub role_first : (from : ℕ) → from ≡ 0 → by_roles from ≡ nil
  role_first from e = ap by_roles e ∙ roles_none s rows (holds successors.set) depth

  module _ (known : Known s rows successors) (m n : Roles) (of : m.word ≡ successors.roles) where
    skipped : (to : ℕ) → m.from ≤ to → NoneMet m.word m.from to → by_roles to ≡ by_roles m.from
    skipped to l none =
        roles_skip s rows (holds successors.set) m.from to
        (unused_roles s rows successors m.from to to known (omega arith) (rw (← of) none)) depth l

    pub role_step : (role : ℕ) → RoleStep m (Some role) n →
        append picture_signature (by_roles m.from) (parts_at s rows depth role (of_role s role (holds successors.set))) ≡ by_roles n.from
    role_step role step =
        let (l, b, none, from, _) = step in
        rw from
        (ap (λ f. append picture_signature f (parts_at s rows depth role (of_role s role (holds successors.set)))) (sym (skipped role l none))
        ∙ roles_next s rows (holds successors.set) depth role)

    pub role_last : RoleStep m None n → by_roles m.from ≡ by_roles roles
    role_last step = sym (skipped roles m.within step.0)

module _ (s : List ℕ) (rows depth role : ℕ) (set : RowSet) (q : ℕ → Bool) where
  abbrev upto : ℕ → Forest picture_signature
  upto n = exists_part_at s rows depth role (holds set) q n

  pub exists_first : (from : ℕ) → from ≡ 0 → upto from ≡ nil
  exists_first from e = ap upto e ∙ exists_none s rows depth role (holds set) q

  module _ (m n : Members) (over : Over set rows m) where
    pub exists_step : (j : ℕ) → MemberStep m (Some j) n →
        append picture_signature (upto m.from) (cons exists role (merged_at s rows depth (also j q)) nil) ≡ upto n.from
    exists_step j step =
        let (l, next, from) = next_row set rows m n over j step in
        let one : Forest picture_signature = cons exists role (merged_at s rows depth (also j q)) nil in
        rw from
        (ap (λ f. append picture_signature f one)
        (exists_skip s rows depth role (holds set) q m.from j next.onward (λ k a b. next.between k a b (omega arith)))
        ∙ exists_next s rows depth role (holds set) q j (next.held l))

    pub exists_last : MemberStep m None n → upto m.from ≡ upto rows
    exists_last step =
        let last = last_row set rows m n over step in
        exists_skip s rows depth role (holds set) q m.from rows last.onward (λ k a b. last.between k a b b)
