-- The table is as long as its rows and its end field.
use Prim.Native.Nat.{◌+◌, ◌-◌}
use mathlib.Core.Path.{◌≡◌, ap}
use native.Mathlib.Omega.{arith}
use lib.ListN.{drop, take}
use Rattle.table.specs.Layout.{end_size, «place»}
use Rattle.normal_writer.proofs.write.table_at.Goals as goal

pub returns : goal.returns
returns c =
    let a = c.args in
    let size = c.place in
    let long : a.start + size.result - a.start ≡ place a.rows end_size = omega (arith, size.ensures) in
    ap (λ n. take n (drop a.start a.part.now)) long
