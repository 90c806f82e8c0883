-- A picture that unfolding does not change is its own unfolded picture.
use mathlib.Core.Path.{◌∙◌, subst, sym}
use native.Mathlib.Omega.{arith}
use Rattle.std.proofs.Common.{rules}
use Rattle.unfold_tables.proofs.Changes.{changing, own_file, rows_most}
use Rattle.unfold_tables.specs.Calls.{TakesAt}
use Rattle.unfold_tables.proofs.tables.with_unfolded.Goals as goal

pub is_changed-requires : goal.is_changed-requires
is_changed-requires g c = rows_most _ _ _ _ _ c.requires.ready

pub make-requires : goal.make-requires
make-requires g c =
    let own = own_file _ _ _ _ _ c.requires.ready (sym c.is_changed.ensures ∙ c.if-not-is_changed.true) in
    let callable = subst (λ s. TakesAt g.F.FnOnce c.args.make s c.args.limits c.args.out.now) own c.requires.callable in
    search (rules, callable)

pub returns-then-not-is_changed : goal.returns-then-not-is_changed
returns-then-not-is_changed g c =
    let own = own_file _ _ _ _ _ c.requires.ready (sym c.is_changed.ensures ∙ c.if-not-is_changed.true) in
    rw own (search rules)

pub unfold_changed-file-requires : goal.unfold_changed-file-requires
unfold_changed-file-requires g c =
    (changing _ _ _ _ _ c.requires.ready (sym c.is_changed.ensures ∙ c.if-not-is_changed.false), omega arith)
