-- At the loop's head rows 1 to k - 1 of the definition have been pushed.
use Prim.Native.Nat.{◌+◌, ◌-◌}
use mathlib.Core.Path.{◌≡◌}
use Rattle.ale.specs.PictureSignature.{picture_signature}
use Rattle.tbox.specs.Unfold.{parent_in}
use Rattle.unfold_rows.specs.Copies.{Added, copy_bytes}
use Rattle.unfold_rows.proofs.copy.hang.Given as goal

abbrev pub invariant-loop-k : goal.invariant-loop-k
invariant-loop-k l =
    (l.grown.rows + 1 ≡ l.first + l.k)
    × Added l.initial.out l.out (copy_bytes l.s (parent_in picture_signature l.i l.first) 1 (l.k - 1)) l.first (l.k - 1)
