-- Without names nothing is wanted; else it is `wants_defined`.
use borrow.Author.Tests.{eqb-true}
use mathlib.Core.Path.{◌∙◌, ap, refl, sym}
use Rattle.table.specs.NameSet.{none}
use Rattle.table.specs.NameValues.{set_of}
use Rattle.picture.specs.Readable.{row_count}
use Rattle.unfold_rows.specs.Takings.{wants_names}
use Rattle.unfold_tables.proofs.Changes.{wants_no_name}
use Rattle.unfold_tables.proofs.tables.is_changed.Goals as goal

pub returns-then-is_none : goal.returns-then-is_none
returns-then-is_none c =
    let a = c.args in
    let empty = eqb-true (set_of a.defined) none (sym c.is_none.ensures ∙ c.if-is_none.true) in
    wants_no_name a.picture.now ∙ ap (wants_names a.picture.now) (sym empty)

pub wants_defined-requires : goal.wants_defined-requires
unfolding row_count
wants_defined-requires c = (refl, c.requires)
