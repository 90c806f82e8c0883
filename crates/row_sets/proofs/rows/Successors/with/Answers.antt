-- The row's role is added to the roles.
use mathlib.Core.Path.{ap, ◌∙◌}
use Prim.Native.Nat.{ℕ, ◌^◌}
use Rattle.table.specs.Fields.{role_of}
use Rattle.row_sets.proofs.Words.{bit_more}
use Rattle.row_sets.proofs.rows.Successors.with.Goals as goal

pub returns-clause-roles : goal.returns-clause-roles
returns-clause-roles c = λ i.
    let a = c.args in
    bit_more a.self.roles _ (role_of a.table.now.bytes.now a.j) i (c.bit.ensures ∙ ap (λ (n : ℕ). 2 ^ n) c.role.ensures)
