-- Laws of the tables of cards, where they are.
--   cached_stands      one that is kept
--   table_stands, made_stands    one that is made in a part
--   stands_kept        one in a part stays when the kept tables change
--   stands_start, made_inside    it is the table that is kept then, and lies there whole
--   there_bytes, stands_bytes            the bytes at a spot are the picture's normal table
--   there_checkable, stands_checkable    they have all that a search needs
--   checked_inside     where it has that, the spot lies where it says
--   pair_order         the search on two such tables says which card covers the other
--   spots_order        and so where they stand
use Prim.Native.Nat.{◌<◌, ◌≤◌, ℕ}
use lib.ListN.{get_or, length}
use mathlib.Core.List.{List}
use mathlib.Core.Path.{◌∙◌, ◌≡◌, ap, subst}
use native.Mathlib.Omega.{arith}
use Rattle.std.proofs.Common.{None, Some}
use Rattle.homomorphism_search.proofs.NormalMaps.{normal_maps}
use Rattle.homomorphism_search.specs.Search.{row_maps}
use Rattle.meaning.specs.NormalTable.{merged_count, normal_file}
use Rattle.normal_writer.specs.Tables.{Tabled}
use Rattle.table.specs.Bounds.{Bounded, max_rows, picture_size}
use Rattle.table.specs.Layout.{end_size, «place»}
use Rattle.table.specs.declared.layout.Limits.{Limits}
use Rattle.book.specs.Form.{card, card_count}
use Rattle.book.specs.Selection.{card_covers}
use Rattle.book_tables.proofs.Caches.{table_checked, table_few, tabled_at}
use Rattle.book_tables.specs.Cache.{Cached, TableAt}
use Rattle.book_tables.specs.Tables.{BookTaken}
use Rattle.book_tables.specs.declared.cache.Cache.{Cache}
use Rattle.book_tables.specs.declared.cache.Span.{Span}
use Rattle.book_selection.specs.Comparing.{Ordered}
use Rattle.book_selection.specs.Standing.{Checkable, Inside, Stands, TableThere, bytes_at}
use Rattle.book_selection.specs.declared.compare.Order.{Order}
use Rattle.book_selection.specs.declared.spot.Spot.{Spot}
use Rattle.book_selection.specs.declared.spot.Spot.TheVariants.{Kept, Made}

-- ---- where it is found

module _ (limits : Limits) (book : List ℕ) (cache : Cache) (part : List ℕ) (bounded : Bounded limits) where
  pub cached_stands : Cached limits book cache → (k : ℕ) (span : Span) → get_or cache.spans k None ≡ Some span →
      Stands limits (card book k) cache part (Kept span)
  cached_stands so k span at =
      let there = so.each k span at in
      let fits = table_few there.table in
      ((omega (arith, fits, bounded.0), omega (arith, there.ends, so.inside)), there)

  pub table_stands : (k r : ℕ) → picture_size limits ≤ length part → TableAt limits (card book k) part r →
      Stands limits (card book k) cache part (Made r)
  table_stands k r room there =
      let fits = table_few there in ((omega (arith, fits, bounded.0), omega (arith, fits, room)), there)

  pub made_stands : (k r : ℕ) (out : List ℕ) → merged_count limits (card book k) ≤ limits.rows →
      picture_size limits ≤ length out → Tabled limits (card book k) out r part →
      Stands limits (card book k) cache part (Made r)
  made_stands k r out few room tabled =
      table_stands k r (omega (arith, room, tabled.same)) (tabled_at limits (card book k) out r part tabled few)

-- ---- where it is

module _ (limits : Limits) (s : List ℕ) (cache : Cache) (part : List ℕ) (rows : ℕ)
    (so : Stands limits s cache part (Made rows)) where
  pub stands_kept : (cache₂ : Cache) → Stands limits s cache₂ part (Made rows)
  stands_kept cache₂ = so

  pub stands_start : TableAt limits s part rows
  stands_start = so.1

-- ---- what a search needs of it

module _ (cache : Cache) (part : List ℕ) where
  pub checked_inside : (spot : Spot) → Checkable cache part spot → Inside cache part spot
  checked_inside (Kept span) so = (so.1.most, so.0)
  checked_inside (Made rows) so = (so.1.most, so.0)

module _ (limits : Limits) (s : List ℕ) (cache : Cache) (part : List ℕ) where
  pub there_bytes : (spot : Spot) → TableThere limits s cache part spot →
      bytes_at cache part spot ≡ normal_file limits s
  there_bytes (Kept span) so = so.table.is
  there_bytes (Made rows) so = so.is

  pub stands_bytes : (spot : Spot) → Stands limits s cache part spot → bytes_at cache part spot ≡ normal_file limits s
  stands_bytes spot so = there_bytes spot so.1

  pub there_checkable : Bounded limits → cache.end ≤ length cache.tables.now → picture_size limits ≤ length part →
      (spot : Spot) → TableThere limits s cache part spot → Checkable cache part spot
  there_checkable bounded inside room (Kept span) so = (omega (arith, so.ends), table_checked bounded so.table)
  there_checkable bounded inside room (Made rows) so = (omega (arith, table_few so), table_checked bounded so)

  pub made_inside : (spot : Spot) → Stands limits s cache part spot → (rows : ℕ) → spot ≡ Made rows →
      (rows ≤ max_rows) × (place rows end_size ≤ length part)
  made_inside spot so rows is = (subst (λ u. Stands limits s cache part u) is so).0

  pub stands_checkable : Bounded limits → (spot : Spot) → Stands limits s cache part spot → Checkable cache part spot
  stands_checkable bounded (Kept span) so = (so.0.1, table_checked bounded so.1.table)
  stands_checkable bounded (Made rows) so = (so.0.1, table_checked bounded so.1)

-- ---- two of them

pub pair_order : {limits : Limits} {book : List ℕ} → Bounded limits → BookTaken limits book → {m n : ℕ} →
    m < card_count book → n < card_count book → {t u : List ℕ} → t ≡ normal_file limits (card book m) →
    u ≡ normal_file limits (card book n) → (order : Order) → order.over ≡ row_maps u t limits.depth 0 0 →
    order.under ≡ row_maps t u limits.depth 0 0 → Ordered limits book m n order
pair_order {limits} {book} bounded taken {m} {n} l h {t} {u} is other order over under =
    (over ∙ covers_is n m u t other is h l, under ∙ covers_is m n t u is other l h)
  where
    covers_is : (i j : ℕ) (v w : List ℕ) → v ≡ normal_file limits (card book i) → w ≡ normal_file limits (card book j) →
        i < card_count book → j < card_count book → row_maps v w limits.depth 0 0 ≡ card_covers limits book j i
    covers_is i j v w d e p q =
        ap (λ (x : List ℕ). row_maps x w limits.depth 0 0) d
        ∙ ap (λ (x : List ℕ). row_maps (normal_file limits (card book i)) x limits.depth 0 0) e
        ∙ normal_maps limits (card book i) (card book j) bounded (taken.few i p) (taken.few j q)

pub spots_order : {limits : Limits} {book : List ℕ} → Bounded limits → BookTaken limits book → {m n : ℕ} →
    m < card_count book → n < card_count book → (cache : Cache) (part part₂ : List ℕ) (own other : Spot) →
    Stands limits (card book m) cache part own → Stands limits (card book n) cache part₂ other → (order : Order) →
    order.over ≡ row_maps (bytes_at cache part₂ other) (bytes_at cache part own) limits.depth 0 0 →
    order.under ≡ row_maps (bytes_at cache part own) (bytes_at cache part₂ other) limits.depth 0 0 →
    Ordered limits book m n order
spots_order {limits} {book} bounded taken {m} {n} l h cache part part₂ own other a b =
    pair_order bounded taken l h (stands_bytes limits (card book m) cache part own a)
    (stands_bytes limits (card book n) cache part₂ other b)
