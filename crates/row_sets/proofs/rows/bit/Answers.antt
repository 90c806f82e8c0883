-- The shift is below the word's width.
use Prim.Native.Nat.{◌^◌, ◌≤◌}
use native.Mathlib.Omega.{arith}
use lib.Pow.{pow_mono}
use Rattle.row_sets.proofs.rows.bit.Goals as goal

pub returns : goal.returns
returns c =
    let h : 2 ^ c.args.i ≤ 2 ^ 63 = pow_mono {j = 63} (omega (arith, c.requires)) in omega (arith, h)
