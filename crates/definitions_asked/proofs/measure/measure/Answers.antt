-- A picture that wants no defined name is its own unfolded picture; after a no of 29 nothing is asked.
use native.Mathlib.Omega.{arith}
use mathlib.Core.Path.{◌∙◌, refl, sym}
use Rattle.table.specs.NameValues.{set_of}
use Rattle.picture.proofs.Readables.{readable_most}
use Rattle.picture.specs.Readable.{row_count}
use Rattle.unfold_rows.proofs.UnfoldedFiles.{wants_same}
use Rattle.definitions_asked.proofs.Sizes.{measured_idle, measured_stopped}
use Rattle.definitions_asked.proofs.measure.measure.Goals as goal

pub wants_defined-requires : goal.wants_defined-requires
unfolding row_count
wants_defined-requires c =
    let a = c.args in (
      refl,
      omega (
        arith,
        readable_most a.limits a.picture.now c.requires.readable,
        c.requires.known.bounded.0,
      ),
    )

pub returns-then-not-wants_defined : goal.returns-then-not-wants_defined
returns-then-not-wants_defined c =
    let a = c.args in
    let agrees = c.requires.known.agrees in
    measured_idle a.limits a.tbox.now.bytes.now a.input a.picture.now a.before c.requires.readable
    (sym (wants_same a.tbox.now.bytes.now a.picture.now a.tbox.now.starts.now (set_of a.tbox.now.defined) agrees)
    ∙ sym c.wants_defined.ensures ∙ c.if-not-wants_defined.true)

pub returns-in-Err : goal.returns-in-Err
returns-in-Err c =
    let a = c.args in
    measured_stopped a.limits a.tbox.now.bytes.now a.input a.picture.now a.before
    c.in-Err.field-0 c.in-Err.is
