-- Laws of the tables that are kept.
--   tabled_at                    a table at the start of a part
--   table_few, table_checked     it has as many rows as it may, and all that a search needs
--   made_same, made_table, made_ends    one that was made in the part from a byte on
--   none_cached                  none is kept
--   cached_same                  those that end before a place stay when only bytes from there on change
--   cached_within                they end before any later place
--   cached_more, cached_stored   one more is put behind those that are there
use Prim.Native.Nat.{◌+◌, ◌-◌, ◌<◌, ◌≤◌, suc, zero, ℕ}
use borrow.Author.Tests.{le-leb}
use borrow.Rule.Slice.PartMut.{mid_of, put_mid, take_put}
use lib.ListN.{drop, get_or, length, replicate, set, take}
use lib.Seq.{get_or-set_other, get_or-set_same, length-take-le, take_all}
use mathlib.Core.Bool.{Bool}
use mathlib.Core.List.{List}
use mathlib.Core.Path.{◌∙◌, ◌≡◌, ap, refl, subst, sym}
use native.Mathlib.Decide.{ℕ_discrete}
use native.Mathlib.Omega.{arith}
use Rattle.std.proofs.Common.{None, Option, Some}
use Rattle.meaning.proofs.Normals.{normal_length, normal_reads, normal_size}
use Rattle.meaning.specs.NormalTable.{merged_count, normal_file}
use Rattle.row_sets.proofs.Checks.{readable_checked}
use Rattle.row_sets.specs.Rows.{Checked}
use Rattle.normal_writer.specs.Tables.{Tabled, table_rows}
use Rattle.table.proofs.Puts.{length_put}
use Rattle.table.specs.Bounds.{Bounded, max_rows, picture_size}
use Rattle.table.specs.Layout.{end_size, «place»}
use Rattle.table.specs.Pick.{pick}
use Rattle.table.specs.Put.{put}
use Rattle.table.specs.declared.layout.Limits.{Limits}
use Rattle.book.specs.Form.{card}
use Rattle.book_tables.specs.Cache.{Cached, CachedAt, TableAt, with_span}
use Rattle.book_tables.specs.declared.cache.Cache.{Cache}
use Rattle.book_tables.specs.declared.cache.Span.{Span}
use Rattle.book_tables.proofs.Parts.{front_same, made_long, made_part, part_long, part_there, put_part, with_upper}

pub tabled_at : (limits : Limits) (s out : List ℕ) (r : ℕ) (end : List ℕ) → Tabled limits s out r end → merged_count limits s ≤ limits.rows → TableAt limits s end r
tabled_at limits s out r end tabled few =
    record {
      few = few;
      rows_are = tabled.rows_are ∙ ap (λ (b : Bool). pick b (table_rows limits s) 0) (le-leb (merged_count limits s) limits.rows few);
      is = tabled.file few;
    }

table_same : {limits : Limits} {s part : List ℕ} {rows : ℕ} → TableAt limits s part rows → (part₂ : List ℕ) →
    take (place rows end_size) part₂ ≡ take (place rows end_size) part → TableAt limits s part₂ rows
table_same so part₂ same = record { few = so.few; rows_are = so.rows_are; is = same ∙ so.is }

pub table_few : {limits : Limits} {s part : List ℕ} {rows : ℕ} → TableAt limits s part rows →
    place rows end_size ≤ picture_size limits
table_few {limits} {s} so = omega (arith, so.rows_are, normal_length limits s, normal_size limits s so.few)

pub table_checked : {limits : Limits} {s part : List ℕ} {rows : ℕ} → Bounded limits → TableAt limits s part rows →
    Checked (take (place rows end_size) part) rows
table_checked {limits} {s} {part} {rows} bounded so =
    let whole = readable_checked limits (normal_file limits s) (table_rows limits s)
    (normal_reads limits s so.few bounded) bounded in
    subst (λ t. Checked t rows) (sym so.is)
    (subst (λ n. Checked (normal_file limits s) n) (sym so.rows_are) whole)

-- ---- a table that was made in the part from a byte on

module _ (limits : Limits) (s work : List ℕ) (from r : ℕ) (end : List ℕ) (bounded : Bounded limits)
    (few : merged_count limits s ≤ limits.rows) (room : from + picture_size limits ≤ length work)
    (tabled : Tabled limits s (mid_of from (length work - from) work) r end) where
  pub made_same : length (with_upper work from end) ≡ length work
  made_same = made_long work from end (omega (arith, room)) (tabled.same ∙ part_long work from)

  pub made_table : TableAt limits s (drop from (with_upper work from end)) r
  made_table =
      subst (λ d. TableAt limits s d r) (sym (made_part work from end (omega (arith, room))))
      (tabled_at limits s (mid_of from (length work - from) work) r end tabled few)

  pub made_ends : (r ≤ max_rows) × (from + place r end_size ≤ length (with_upper work from end))
  made_ends =
      let fits = table_few made_table in (omega (arith, fits, bounded.0), omega (arith, fits, made_same, room))

-- ---- those that are kept

none_there : (n j : ℕ) → get_or {A = Option Span} (replicate n None) j None ≡ None
none_there zero j = refl
none_there (suc n) zero = refl
none_there (suc n) (suc j) = none_there n j

pub none_cached : (limits : Limits) (book : List ℕ) {cache : Cache} → cache.end ≡ 0 → (n : ℕ) → cache.spans ≡ replicate n None →
    Cached limits book cache
none_cached limits book {cache} first n none =
    record {
      inside = omega arith;
      each = λ j span is. let e : None ≡ Some span = sym (ap (λ spans. get_or spans j None) none ∙ none_there n j) ∙ is in cc;
    }

-- those that end before a place stay when only bytes from there on change
kept_at : {limits : Limits} {s tables : List ℕ} {span : Span} {end : ℕ} → CachedAt limits s tables span end →
    (tables₂ : List ℕ) → end ≤ length tables → end ≤ length tables₂ → take end tables₂ ≡ take end tables →
    CachedAt limits s tables₂ span end
kept_at {tables = tables} {span} {end} so tables₂ inside inside₂ same =
    record {
      ends = so.ends;
      table = table_same so.table (drop span.start tables₂)
          (front_same tables tables₂ end span.start (place span.rows end_size) inside inside₂ same so.ends);
    }

kept_within : {limits : Limits} {s tables : List ℕ} {span : Span} {end : ℕ} → CachedAt limits s tables span end →
    {end₂ : ℕ} → end ≤ end₂ → CachedAt limits s tables span end₂
kept_within so later = record { ends = omega (arith, so.ends); table = so.table }

module _ (limits : Limits) (book : List ℕ) (cache cache₂ : Cache) (so : Cached limits book cache)
    (spans : cache₂.spans ≡ cache.spans) where
  old_at : (j : ℕ) (span : Span) → get_or cache₂.spans j None ≡ Some span →
      CachedAt limits (card book j) cache.tables.now span cache.end
  old_at j span at = so.each j span (ap (λ s. get_or s j None) (sym spans) ∙ at)

  pub cached_same : cache₂.end ≡ cache.end → cache.end ≤ length cache₂.tables.now →
      take cache.end cache₂.tables.now ≡ take cache.end cache.tables.now → Cached limits book cache₂
  cached_same ends inside same =
      record {
        inside = omega (arith, ends, inside);
        each = λ j span at.
            subst (λ e. CachedAt limits (card book j) cache₂.tables.now span e) (sym ends)
            (kept_at (old_at j span at) cache₂.tables.now so.inside inside same);
      }

  pub cached_within : cache₂.tables.now ≡ cache.tables.now → cache.end ≤ cache₂.end → cache₂.end ≤ length cache₂.tables.now →
      Cached limits book cache₂
  cached_within same later inside =
      record {
        inside = inside;
        each = λ j span at.
            subst (λ t. CachedAt limits (card book j) t span cache₂.end) (sym same) (kept_within (old_at j span at) later);
      }

-- a table of n bytes that was put behind those that are kept
module _ (limits : Limits) (book : List ℕ) (cache : Cache) (so : Cached limits book cache) (part : List ℕ)
    (k rows n : ℕ) (table : TableAt limits (card book k) part rows) (is : n ≡ place rows end_size)
    (whole : n ≤ length part) (room : cache.end + n ≤ length cache.tables.now) (tables₂ : List ℕ)
    (written : tables₂ ≡ put cache.tables.now cache.end (take n part)) where
  abbrev new : List ℕ
  new = take n part

  as_many : length new ≡ n
  as_many = length-take-le n part whole

  is_put : tables₂ ≡ put_mid cache.end (length new) cache.tables.now new
  is_put = written ∙ put_part cache.tables.now cache.end new

  as_long : length tables₂ ≡ length cache.tables.now
  as_long = ap length written ∙ length_put cache.tables.now cache.end new (omega (arith, as_many, room))

  abbrev span : Span
  span = record { start = cache.end; rows = rows }

  last : CachedAt limits (card book k) tables₂ span (cache.end + n)
  last =
      record {
        ends = omega (arith, is);
        table =
            table_same table (drop cache.end tables₂)
            (ap (λ (i : ℕ). take i (drop cache.end tables₂)) (sym is)
            ∙ ap (λ (d : List ℕ). take n (drop cache.end d)) is_put
            ∙ part_there cache.tables.now cache.end (length new) new n so.inside (omega (arith, as_many))
            ∙ take_all n new (omega (arith, as_many))
            ∙ ap (λ (i : ℕ). take i part) is);
      }

  earlier : (j : ℕ) (old : Span) → get_or cache.spans j None ≡ Some old → CachedAt limits (card book j) tables₂ old (cache.end + n)
  earlier j old at =
      kept_within
      (kept_at (so.each j old at) tables₂ so.inside (omega (arith, as_long, so.inside))
      (ap (take cache.end) is_put ∙ take_put cache.end (length new) cache.tables.now new so.inside)) (omega arith)

  abbrev spans₂ : List (Option Span)
  spans₂ = set cache.spans k (Some span)

  pub cached_more : k < length cache.spans → (cache₂ : Cache) → cache₂.tables.now ≡ tables₂ → cache₂.spans ≡ spans₂ →
      cache₂.end ≡ cache.end + n → Cached limits book cache₂
  cached_more l cache₂ tables spans ends =
      record {
        inside = omega (arith, ap length tables, as_long, room, ends);
        each = λ j s at.
            subst (λ t. CachedAt limits (card book j) t s cache₂.end) (sym tables)
            (subst (λ e. CachedAt limits (card book j) tables₂ s e) (sym ends)
            (each j s (ap (λ u. get_or u j None) (sym spans) ∙ at)));
      }
    where
      here : (s : Span) → get_or spans₂ k None ≡ Some s → CachedAt limits (card book k) tables₂ s (cache.end + n)
      here s at =
          let e : Some span ≡ Some s = sym (get_or-set_same cache.spans k (Some span) None l) ∙ at in
          let same : span ≡ s = cc in subst (λ u. CachedAt limits (card book k) tables₂ u (cache.end + n)) same last

      each : (j : ℕ) (s : Span) → get_or spans₂ j None ≡ Some s → CachedAt limits (card book j) tables₂ s (cache.end + n)
      each j s at = elim (ℕ_discrete j k) [
        | yes e ↦
            subst (λ i. CachedAt limits (card book i) tables₂ s (cache.end + n)) (sym e)
            (here s (subst (λ i. get_or spans₂ i None ≡ Some s) e at))
        | no u ↦ earlier j s (sym (get_or-set_other cache.spans k j (Some span) None u) ∙ at)
      ]

  pub cached_stored : k < length cache.spans → (cache₂ : Cache) → cache₂.tables.now ≡ tables₂ →
      cache₂.spans ≡ with_span cache.spans k cache.end rows → cache₂.end ≡ cache.end + n → Cached limits book cache₂
  cached_stored = cached_more
