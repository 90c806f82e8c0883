-- The links of the table are filled once; then individual 0 is tried against row 0: its label, and what hangs from it.
use mathlib.Core.Path.{refl, sym}
use Rattle.table_rows.proofs.Stores.{blank}
use Rattle.model_check.proofs.Models.{fits_satisfied, fits_unsatisfied}
use Rattle.model_check.proofs.model.fits_table.Goals as goal

pub fill_links-requires : goal.fill_links-requires
fill_links-requires c = (c.requires, blank 512 512 refl)

pub returns-then-not-satisfies : goal.returns-then-not-satisfies
returns-then-not-satisfies c =
    let a = c.args in
    sym (fits_unsatisfied c.requires a.refutation.now 0 0 (c.satisfies.ensures a.bytes.now 0 c.label_at.ensures) c.if-not-satisfies.true)

pub returns : goal.returns
returns c =
    let a = c.args in
    sym (fits_satisfied c.requires a.refutation.now 0 0 (c.satisfies.ensures a.bytes.now 0 c.label_at.ensures) c.if-not-satisfies.false c.below.ensures)
