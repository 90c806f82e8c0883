-- The table is copied behind those that are kept.
use mathlib.Core.Path.{refl}
use native.Mathlib.Omega.{arith}
use Rattle.book_tables.proofs.Caches.{cached_more}
use Rattle.book_tables.proofs.cache.Cache.keep.Goals as goal

pub returns-clause-cached : goal.returns-clause-cached
returns-clause-cached c limits book so table =
    let a = c.args in
    let size = c.place-size in
    cached_more limits book a.self.now so a.part.now a.k a.rows size.result table size.ensures (omega arith) (omega arith)
    c.copy_in.new.dst c.copy_in.ensures (omega arith) _ refl refl refl
