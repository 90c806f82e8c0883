use mathlib.Core.Path.{◌≡◌, ap, refl, sym, ◌∙◌}
use native.Mathlib.Nat.{sub-zero}
use native.Mathlib.Omega.{arith}
use lib.ListN.{length-set}
use Rattle.std.proofs.Common.{Ok}
use Rattle.picture.proofs.Exits.{exits}
use Rattle.table.specs.Fields.{parent_of}
use Rattle.picture.specs.Depth.{depth}
use Rattle.picture.specs.Questions.{field_at}
use Rattle.picture.specs.Read.{reading_of}
use Rattle.picture.specs.declared.field.Field.TheVariants.{Row}
use Rattle.picture.proofs.Fields.{RowOk, row_ok}
use Rattle.picture.proofs.Scans.{located_err, located_ok, scan_step}
use Rattle.picture_questions.proofs.Depths.{known_none, known_next}
use Rattle.picture_reader.proofs.read.scan_rows.Goals as goal
use Rattle.picture_reader.proofs.read.scan_rows.Goals.{In-Row}

-- the field is a row
row_here : (c : In-Row) → field_at c.args.limits c.args.s.now c.loop-depth.n ≡ Ok (Row c.in-Row.depth)
row_here c =
    located_ok (field_at c.args.limits c.args.s.now c.loop-depth.n) c.loop-depth.n _
    (sym c.field_after.ensures ∙ c.in_ok-depth.was)
    ∙ ap Ok c.in-Row.is

is_row : (c : In-Row) → RowOk c.args.limits c.args.s.now c.loop-depth.n × (c.in-Row.depth ≡ depth (parent_of c.args.s.now) c.loop-depth.n)
is_row c = row_ok c.args.limits c.args.s.now c.loop-depth.n c.in-Row.depth (row_here c)

pub loop-depth-init : goal.loop-depth-init
unfolding reading_of
loop-depth-init c = (omega arith, (refl, (known_none _ _, rw sub-zero)))

pub field_after-requires : goal.field_after-requires
field_after-requires c =
    let l = c.loop-depth in
    (c.requires, (omega (arith, l.invariant.0), l.invariant.1.1.0))

pub bounds-depths-n : goal.bounds-depths-n
bounds-depths-n c = omega (arith, (is_row (goal.at.bounds-depths-n c).In-Row).0.few, c.requires.0)

pub overflow_add-n : goal.overflow_add-n
overflow_add-n c = omega (arith, (is_row (goal.at.overflow_add-n c).In-Row).0.few)

pub loop-depth-smaller : goal.loop-depth-smaller
loop-depth-smaller c = omega (arith, (is_row (goal.at.loop-depth-smaller c).In-Row).0.few)

pub loop-depth-preserved : goal.loop-depth-preserved
loop-depth-preserved c =
    let a = c.args in
    let l = c.loop-depth in
    let here = (goal.at.loop-depth-preserved c).In-Row in
    let r = is_row here in (
      omega (arith, r.0.few),
      (
        simp length-set l.invariant.1.0,
        (
          known_next a.s.now l.depths l.n _ (omega (arith, r.0.few, c.requires.0, l.invariant.1.0)) l.invariant.1.1.0 r.0.parent r.1,
          l.invariant.1.1.1 ∙ scan_step a.limits a.s.now l.n l.invariant.0 ∙ rw (row_here here),
        ),
      ),
    )

pub returns-in-End : goal.returns-in-End
returns-in-End c =
    let a = c.args in
    let l = c.loop-depth in
    let field = located_ok (field_at a.limits a.s.now l.n) l.n _ (sym c.field_after.ensures ∙ c.in_ok-depth.was) in
    sym (l.invariant.1.1.1 ∙ scan_step a.limits a.s.now l.n l.invariant.0 ∙ rw (field, c.in-End.is))

pub returns-in_err-depth : goal.returns-in_err-depth
returns-in_err-depth c =
    let a = c.args in
    let l = c.loop-depth in
    exits c.from_residual.result _ c.from_residual.ensures.1
    ∙ sym (l.invariant.1.1.1 ∙ scan_step a.limits a.s.now l.n l.invariant.0
    ∙ located_err (field_at a.limits a.s.now l.n) l.n _ _ (sym c.field_after.ensures ∙ c.in_err-depth.was))
