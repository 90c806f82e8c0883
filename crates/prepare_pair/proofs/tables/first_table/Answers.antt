-- The first table ends where the place of its end field does.
use mathlib.Core.Path.{ap, sym}
use native.Mathlib.Omega.{arith}
use lib.ListN.{take}
use lib.Seq.{length-take-le}
use Rattle.prepare_pair.proofs.tables.first_table.Goals as goal

pub slice_bounds-result-end : goal.slice_bounds-result-end
slice_bounds-result-end c =
    let end = c.place in
    sym (length-take-le end.result c.args.work.now (omega (arith, end.ensures, c.requires.1)))

pub returns : goal.returns
returns c = ap (λ n. take n c.args.work.now) c.place.ensures
