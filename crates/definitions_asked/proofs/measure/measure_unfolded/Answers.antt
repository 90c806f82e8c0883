-- The rows that are written are those of the unfolded picture, of which 29 and 30 are asked.
-- the way back from the unfolded rows to the entry
use Prim.Native.Nat.{◌≤◌}
use native.Mathlib.Omega.{arith}
use mathlib.Core.Path.{◌∙◌, ap, refl}
use Rattle.std.proofs.Common.{Err}
use Rattle.picture.proofs.Readables.{readable_most}
use Rattle.picture.specs.Readable.{row_count}
use Rattle.definitions_asked.proofs.Sizes.{measured_few, measured_many}
use Rattle.definitions_asked.proofs.UnfoldedSizes.{rows_few, rows_hung, rows_many, rows_shallow}
use Rattle.definitions_asked.proofs.measure.measure_unfolded.Goals as goal

pub unfold_file-count-requires : goal.unfold_file-count-requires
unfolding row_count
unfold_file-count-requires c =
    let a = c.args in
    let m = c.requires.1 in
    let few = m.known.bounded.0 in (
      record {
        limits = a.limits;
        bounded = m.known.bounded;
        readable = m.readable;
        counted = refl;
        within = readable_most a.limits a.picture.now m.readable;
        small = few;
        room = omega (arith, few);
      },
      omega (arith, few),
    )

pub returns-then-limits-count : goal.returns-then-limits-count
returns-then-limits-count c =
    let a = c.args in
    measured_many a.limits a.tbox.now.bytes.now a.input a.picture.now a.before _ c.requires.0
    (rows_many a.limits a.tbox.now a.picture.now c.requires.1
    c.unfold_file-count.result _ _ c.unfold_file-count.ensures c.if-limits-count.true)
    (ap Err c.refuse.ensures)

pub is_shallow-passes-requires : goal.is_shallow-passes-requires
is_shallow-passes-requires c =
    let a = c.args in
    rows_hung a.limits a.tbox.now a.picture.now c.requires.1
    c.unfold_file-count.result _ _ c.unfold_file-count.ensures (omega (arith, c.if-limits-count.false))

pub returns : goal.returns
returns c =
    let a = c.args in
    let tested = c.is_shallow-passes in
    let left : c.unfold_file-count.result ≤ a.limits.rows =
    omega (arith, c.if-limits-count.false) in
    measured_few a.limits a.tbox.now.bytes.now a.input a.picture.now a.before _ c.requires.0
    (rows_few a.limits a.tbox.now a.picture.now c.requires.1
    c.unfold_file-count.result _ _ c.unfold_file-count.ensures left) refl tested.result
    (tested.ensures ∙ rows_shallow a.limits a.tbox.now
    a.picture.now c.requires.1 c.unfold_file-count.result _ _ c.unfold_file-count.ensures left)
    c.question.result c.question.ensures c.and_then.ensures
