use mathlib.Core.Path.{refl}
use Rattle.book_tables.proofs.Caches.{none_cached}
use Rattle.book_tables.proofs.cache.Cache.new.Goals as goal

pub returns-clause-cached : goal.returns-clause-cached
returns-clause-cached c limits book = none_cached limits book refl 32 refl
