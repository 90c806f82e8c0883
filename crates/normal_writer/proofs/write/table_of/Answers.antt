-- The part is as long as a table of so many rows.
use native.Mathlib.Omega.{arith}
use lib.ListN.{take}
use lib.Seq.{length-take-le}
use mathlib.Core.Path.{ap, sym}
use Prim.Native.Nat.{ℕ}
use Rattle.normal_writer.proofs.write.table_of.Goals as goal

pub slice_bounds-result-end : goal.slice_bounds-result-end
slice_bounds-result-end c =
    let size = c.place in
    sym (length-take-le size.result c.args.part.now (omega (arith, size.ensures, c.requires.1)))

pub returns : goal.returns
returns c = ap (λ (n : ℕ). take n c.args.part.now) c.place.ensures
