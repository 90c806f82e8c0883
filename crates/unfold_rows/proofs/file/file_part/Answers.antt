-- The rows with their end field.
use lib.ListN.{take}
use lib.Seq.{length-take-le}
use native.Mathlib.Omega.{arith}
use mathlib.Core.Path.{ap, sym}
use Rattle.unfold_rows.proofs.file.file_part.Goals as goal

pub slice_bounds-result-end : goal.slice_bounds-result-end
slice_bounds-result-end c =
    sym (length-take-le c.place-end.result c.args.out.now
    (omega (arith, c.place-end.ensures, c.requires.1)))

pub returns : goal.returns
returns c = ap (λ n. take n c.args.out.now) c.place-end.ensures
