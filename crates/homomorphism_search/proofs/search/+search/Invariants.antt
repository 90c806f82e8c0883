-- Both loops go along links for the first row that passes: of the rows that hang from u the first that can be the image, and of those that
-- hang from w the first that has none. Row and image go down together: `row_maps` gives `unserved` one level less, and the search for the image of
-- a row that hangs from w asks `row_maps` at that level. A call writes only under its row, so what was kept of the rows before stays.
use Prim.Native.Nat.{◌*◌, ◌+◌}
use mathlib.Core.Path.{◌≡◌}
use Rattle.homomorphism_search.proofs.Traces.{ImageAt, ServedAt}
use Rattle.homomorphism_search.proofs.search.+search.Given as goal

abbrev pub decreases-lowest_image : goal.decreases-lowest_image
decreases-lowest_image l = 3 * l.depth + 1

abbrev pub decreases-row_maps : goal.decreases-row_maps
decreases-row_maps l = 3 * l.depth

abbrev pub decreases-unserved : goal.decreases-unserved
decreases-unserved l = 3 * l.depth + 2

abbrev pub invariant-lowest_image-loop-v : goal.invariant-lowest_image-loop-v
invariant-lowest_image-loop-v l =
    (l.v-iterator.table.now ≡ l.first)
    × ImageAt l.first.bytes.now l.second.bytes.now l.first.rows l.depth l.c l.u l.initial.found l.initial.missed l.found l.missed l.v-iterator.next

abbrev pub invariant-unserved-loop-c : goal.invariant-unserved-loop-c
invariant-unserved-loop-c l =
    (l.c-iterator.table.now ≡ l.second)
    × ServedAt l.first.bytes.now l.second.bytes.now l.first.rows l.second.rows l.depth l.w l.u l.initial.found l.initial.missed l.found l.missed l.c-iterator.next
