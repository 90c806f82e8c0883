-- The row's own fields, and the label that is given.
use Prim.Native.Nat.{ℕ}
use mathlib.Core.List.{List}
use mathlib.Core.Path.{◌∙◌, ap}
use Rattle.table.specs.Fields.{kind_of, parent_of, role_of, row_of}
use Rattle.table.specs.Layout.{«place»}
use Rattle.table.specs.NameSet.{intersection}
use Rattle.table.specs.NameValues.{set_of}
use Rattle.table.specs.Put.{put}
use Rattle.unfold_rows.proofs.relabel.relabel.Goals as goal

pub returns : goal.returns
returns c =
    let a = c.args in
    let row : ℕ → ℕ → ℕ → ℕ → List ℕ =
    λ p k r w. put a.out.now (place a.i 0) (row_of p k r a.s.impossible w (set_of a.s.excluded)) in
    let parent = c.parent in
    let kind = c.kind in
    let role = c.role in
    let names = c.intersection in
    c.push.ensures.1
    ∙ ap (λ p. row p kind.result role.result (set_of names.result)) parent.ensures.0
    ∙ ap (λ k. row (parent_of a.out.now a.i) k role.result (set_of names.result)) kind.ensures
    ∙ ap (λ r. row (parent_of a.out.now a.i) (kind_of a.out.now a.i) r (set_of names.result))
    role.ensures
    ∙ ap (λ w. row (parent_of a.out.now a.i) (kind_of a.out.now a.i) (role_of a.out.now a.i) w)
    (names.ensures ∙ ap (intersection (set_of a.s.wanted))
    c.complement.ensures)
