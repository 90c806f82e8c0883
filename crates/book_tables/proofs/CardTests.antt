-- Laws of testing the cards: whether each covers the case, over the case's table t.
--   test_start, test_all   none is tested; all are
--   word_room              a word has room for one card more
--   test_next              one more is tested, whose table is kept or not
--   case_tested            where the table is the case's
use Prim.Native.Nat.{◌+◌, ◌*◌, ◌^◌, ◌<◌, ◌≤◌, ℕ}
use lib.Pow.{pow-add, pow_mono}
use mathlib.Core.Bool.{Bool}
use mathlib.Core.List.{List}
use mathlib.Core.Path.{◌∙◌, ◌≡◌, ap, sym}
use native.Mathlib.Omega.{arith}
use Rattle.homomorphism_search.proofs.NormalMaps.{normal_maps}
use Rattle.homomorphism_search.specs.Search.{row_maps}
use Rattle.meaning.specs.NormalTable.{merged_count, normal_file}
use Rattle.table.specs.Bounds.{Bounded}
use Rattle.table.specs.Pick.{pick}
use Rattle.table.specs.declared.layout.Limits.{Limits}
use Rattle.normal_writer.specs.Tables.{table_in}
use Rattle.book.specs.Form.{card, card_count, most_cards}
use Rattle.table.specs.NameSet.{set_below}
use Rattle.book.specs.Selection.{case_covered}
use Rattle.book_tables.specs.Cache.{Cached, SubsumersBelow, TableAt}
use Rattle.book_tables.specs.Tables.{BookTaken, covers_table}
use Rattle.book_tables.specs.declared.cache.Cache.{Cache}
use Rattle.table.proofs.SetsBelow.{set_below_below, set_below_same, set_below_suc, set_below_zero}

module _ {limits : Limits} {t book : List ℕ} where
  pub test_start : {cache : Cache} → Cached limits book cache → SubsumersBelow limits t book 0 cache 0
  test_start cached = record { word_is = sym (set_below_zero (covers_table limits t book)); cached = cached }

  module _ {word k : ℕ} {cache : Cache} (so : SubsumersBelow limits t book word cache k) where
    pub word_room : k < most_cards → word + 2 ^ k < 2 ^ most_cards
    word_room l =
        let wide : 2 ^ (k + 1) ≤ 2 ^ most_cards = pow_mono {j = most_cards} (omega arith) in
        let twice : 2 ^ (k + 1) ≡ 2 ^ k * 2 = pow-add 2 k 1 in
        omega (arith, so.word_is, set_below_below (covers_table limits t book) k, wide, twice)

    pub test_next : {part : List ℕ} {rows : ℕ} → TableAt limits (card book k) part rows → {says : Bool} →
        says ≡ row_maps t (table_in part 0 rows) limits.depth 0 0 → {next : ℕ} → next ≡ word + pick says (2 ^ k) 0 →
        {cache₂ : Cache} → Cached limits book cache₂ → SubsumersBelow limits t book next cache₂ (k + 1)
    test_next table answer added cached =
        let covers = answer ∙ ap (λ (u : List ℕ). row_maps t u limits.depth 0 0) table.is in
        record {
          word_is =
              added
              ∙ ap (λ (b : Bool). word + pick b (2 ^ k) 0) covers
              ∙ ap (λ (i : ℕ). i + pick (covers_table limits t book k) (2 ^ k) 0) so.word_is
              ∙ sym (set_below_suc (covers_table limits t book) k);
          cached = cached;
        }

  pub test_all : {word k count : ℕ} {cache : Cache} → SubsumersBelow limits t book word cache k → k ≤ count → count ≤ k →
      word ≡ set_below (covers_table limits t book) count
  test_all {k = k} {count} so most done =
      let end : k ≡ count = omega (arith, most) in so.word_is ∙ ap (set_below (covers_table limits t book)) end

pub case_tested : (limits : Limits) (case book : List ℕ) (count : ℕ) → Bounded limits →
    merged_count limits case ≤ limits.rows → BookTaken limits book → count ≡ card_count book → {t : List ℕ} →
    t ≡ normal_file limits case → {word : ℕ} → word ≡ set_below (covers_table limits t book) count →
    word ≡ set_below (case_covered limits case book) count
case_tested limits case book count bounded few taken counted table is =
    is
    ∙ ap (λ (u : List ℕ). set_below (covers_table limits u book) count) table
    ∙ set_below_same (covers_table limits (normal_file limits case) book) (case_covered limits case book) count
    (λ k l. normal_maps limits case (card book k) bounded few (taken.few k (omega (arith, l, counted))))
