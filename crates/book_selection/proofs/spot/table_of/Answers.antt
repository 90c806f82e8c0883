use Rattle.book_selection.proofs.Standings.{checked_inside}
use Rattle.book_selection.proofs.spot.table_of.Goals as goal

pub spot_table-table-requires : goal.spot_table-table-requires
spot_table-table-requires c = checked_inside c.args.cache.now c.args.part.now c.args.spot c.requires.checkable
