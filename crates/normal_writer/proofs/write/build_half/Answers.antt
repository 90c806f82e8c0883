-- Since 14 is answered yes, the part holds the normal file from the first byte on; zeros go right after it, to the end.
use Prim.Native.Nat.{◌≤◌}
use native.Mathlib.Omega.{arith}
use lib.ListN.{length}
use mathlib.Core.Path.{◌∙◌}
use Rattle.table.specs.Bounds.{max_rows}
use Rattle.table.specs.Layout.{end_size, «place»}
use Rattle.meaning.proofs.Normals.{normal_length, normal_size}
use Rattle.meaning.specs.NormalTable.{normal_file}
use Rattle.normal.proofs.Halves.{half_cleared}
use Rattle.normal_writer.proofs.Tablings.{rows_few, tabled_file, tabled_there}
use Rattle.normal_writer.proofs.write.build_half.Goals as goal

pub place-end-requires : goal.place-end-requires
place-end-requires c =
    let there : let made = c.normal_table-rows in (made.result ≤ max_rows) × (place made.result end_size ≤ length made.new.out) = let pre = c.requires in
    tabled_there _ _ _ _ _ pre.bounded c.normal_table-rows.ensures pre.few (omega (arith, pre.long)) in
    ((there).0, omega arith)

pub clear-requires : goal.clear-requires
clear-requires c =
    let there : let made = c.normal_table-rows in (made.result ≤ max_rows) × (place made.result end_size ≤ length made.new.out) = let pre = c.requires in
    tabled_there _ _ _ _ _ pre.bounded c.normal_table-rows.ensures pre.few (omega (arith, pre.long)) in
    let fits = (there).1 in
    let end = c.place-end.ensures in
    (omega (arith, end, fits), omega (arith, end, fits))

pub returns : goal.returns
returns c =
    let limits = c.args.limits in
    let s = c.args.picture.now in
    let tabled = c.normal_table-rows.ensures in
    let end = c.place-end in
    let rows = rows_few _ _ _ _ _ c.requires.bounded tabled c.requires.few in (
      rows,
      half_cleared limits (normal_file limits s) _ _ end.result _
          (omega (arith, end.ensures, rows, normal_length limits s)) (tabled.same ∙ c.requires.long) (omega arith)
          (normal_size limits s c.requires.few)
          (tabled_file _ _ _ _ _ c.requires.bounded tabled c.requires.few end.result end.ensures)
          c.clear.ensures,
    )
