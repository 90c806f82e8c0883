use mathlib.Core.List.{[]}
use Rattle.table.specs.Bounds.{bench_limits}
use Rattle.book_tables.proofs.cache.tests.array_comes_back.Goals as goal

pub keep-requires-clause-inside : goal.keep-requires-clause-inside
keep-requires-clause-inside g c = (c.new-cache.ensures.cached bench_limits []).inside
