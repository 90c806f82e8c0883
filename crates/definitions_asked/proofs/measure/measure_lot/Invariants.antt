-- At the loop's head 29 and 30 are asked of the pictures before picture k.
use Prim.Native.Nat.{◌≤◌}
use Rattle.fields.specs.Form.{listed}
use Rattle.definitions_asked.specs.Lots.{picture_of}
use Rattle.definitions_asked.specs.Measures.{Measured}
use Rattle.definitions_asked.proofs.measure.measure_lot.Given as goal

abbrev pub invariant-loop-k : goal.invariant-loop-k
invariant-loop-k l =
    (l.k ≤ l.k-end) × Measured l.limits l.tbox.bytes.now (listed (picture_of l.lot) l.k 0) l.initial.progress l.progress
