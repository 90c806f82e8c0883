-- From where it begins, as long as its field says.
use Prim.Native.Nat.{◌+◌, ◌-◌}
use native.Mathlib.Omega.{arith}
use mathlib.Core.Path.{◌≡◌, ap}
use lib.ListN.{drop, take}
use Rattle.definition_parts.specs.Parts.{part_length_of}
use Rattle.definition_parts.proofs.part.part.Goals as goal

pub returns : goal.returns
returns c =
    let tbox = c.args.tbox.now in
    let at = c.args.at in
    let n = c.part_length.result in
    let e = c.part_length.ensures in
    let same : at + n - at ≡ part_length_of tbox at = omega (arith, e) in
    ap (λ n. take n (drop at tbox)) same
