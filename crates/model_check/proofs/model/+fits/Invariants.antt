-- Both loops go along links: what is left of the chain decides, as the definition at a shorter list. A successor has a greater row number than
-- its row, so the rows that are left fall from `below` to `restricted`, which then tries individuals against that successor: its label by
-- `satisfies`, and what hangs from it by `below`.
use Prim.Native.Nat.{◌*◌, ◌+◌, ◌-◌}
use mathlib.Core.Path.{◌≡◌}
use Rattle.refutation_reader.proofs.Walks.{at}
use Rattle.model_check.proofs.Models.{BelowAt, MeetsAt}
use Rattle.model_check.proofs.model.+fits.Given as goal

abbrev pub decreases-below : goal.decreases-below
decreases-below l = 3 * (l.table.now.rows - l.w)

abbrev pub decreases-fits : goal.decreases-fits
decreases-fits l = 3 * (l.table.now.rows - l.w) + 1

abbrev pub decreases-restricted : goal.decreases-restricted
decreases-restricted l = 3 * (l.table.now.rows - l.c) + 2

abbrev pub invariant-below-loop-c : goal.invariant-below-loop-c
invariant-below-loop-c l =
    (l.c-iterator.table.now ≡ l.table) × BelowAt l.table.bytes.now l.table.rows l.w l.refutation.bytes.now l.i l.c-iterator.next

abbrev pub invariant-restricted-loop-j : goal.invariant-restricted-loop-j
invariant-restricted-loop-j l =
    (l.j-iterator.refutation.now ≡ l.refutation)
    × MeetsAt l.every l.table.bytes.now l.c l.refutation.bytes.now l.refutation.count l.i (at l.refutation l.j-iterator)
