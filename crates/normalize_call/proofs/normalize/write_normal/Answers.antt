-- The table that was made, or no row, fits; what is given of it is `table-written`.
use native.Mathlib.Omega.{arith}
use lib.ListN.{length, length-take}
use Prim.Native.Nat.{◌≤◌}
use Rattle.table.specs.Bounds.{max_rows, picture_size}
use Rattle.table.specs.Layout.{end_size, «place»}
use Rattle.normalize_call.proofs.Writings.{table_fits, table_written_is}
use Rattle.normalize_call.proofs.normalize.write_normal.Goals as goal

pub table_of-requires : goal.table_of-requires
table_of-requires c =
    let fits : let made = c.normal_table-n in (made.result ≤ max_rows) × (place made.result end_size ≤ length made.new.out) × (place made.result end_size ≤ picture_size c.args.limits) = let bounded = c.requires.bounded in
    table_fits _ bounded _ _ _ _ c.normal_table-n.ensures (omega (arith, bounded.0)) in
    let there = fits in
    (omega (arith, there.0), omega (arith, there.1))

pub give_table-requires : goal.give_table-requires
give_table-requires c =
    let fits : let made = c.normal_table-n in (made.result ≤ max_rows) × (place made.result end_size ≤ length made.new.out) × (place made.result end_size ≤ picture_size c.args.limits) = let bounded = c.requires.bounded in
    table_fits _ bounded _ _ _ _ c.normal_table-n.ensures (omega (arith, bounded.0)) in
    rw (c.table_of.ensures, length-take) (omega (arith, (fits).2, c.requires.space))

pub returns : goal.returns
returns c =
    let given = c.give_table in
    table_written_is _ c.requires.bounded _ _ _ _ c.normal_table-n.ensures _ _ _ _
    c.table_of.ensures given.ensures.0 given.ensures.1
