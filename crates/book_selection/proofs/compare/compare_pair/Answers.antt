-- The search on both tables says which card covers which.
use native.Mathlib.Omega.{arith}
use Rattle.book_tables.proofs.CardTables.{cards_taken, count_is}
use Rattle.book_selection.proofs.Standings.{pair_order, stands_bytes, stands_checkable}
use Rattle.book_selection.proofs.compare.compare_pair.Goals as goal

pub compare_spots-requires : goal.compare_spots-requires
compare_spots-requires c =
    let known = c.requires.known in
    let found = c.find_table-spot in
    stands_checkable _ _ c.args.cache.now found.new.part known.bounded found.result found.ensures

pub returns : goal.returns
returns c m l own =
    let known = c.requires.known in
    let found = c.find_table-spot in
    let order = c.compare_spots in
    pair_order known.bounded (cards_taken known.bounded known.taken) (omega (arith, count_is known.bounded known.taken))
    (omega (arith, count_is known.bounded known.taken)) own
    (stands_bytes _ _ c.args.cache.now found.new.part found.result found.ensures) order.result order.ensures.over
    order.ensures.under
