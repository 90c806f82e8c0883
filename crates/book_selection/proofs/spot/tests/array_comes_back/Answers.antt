use mathlib.Core.List.{[]}
use Rattle.table.specs.Bounds.{bench_limits}
use Rattle.book_selection.proofs.spot.tests.array_comes_back.Goals as goal

pub keep_made-requires-clause-inside : goal.keep_made-requires-clause-inside
keep_made-requires-clause-inside g c = (c.new-cache.ensures.cached bench_limits []).inside
