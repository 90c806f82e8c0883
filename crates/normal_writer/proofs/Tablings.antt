-- Laws of whole tables at the start of a lent part.
--   table_put                          rows put from the first byte on, and the end field after them
--   tabled_none, tabled_rows           14 is answered no; the table is finished
--   none_many, some_few                no row says that 14 is answered no, any other number that it is answered yes
--   rows_few                           then the rows are those of the normal table
--   tabled_fits, tabled_there          the table fits a half, and so the part
--   tabled_file                        it is the normal file
use Prim.Native.Nat.{◌+◌, ◌<◌, ◌≤◌, ℕ}
use borrow.Author.Tests.{le-leb, leb-true, lt-leb}
use lib.Dec.{leb}
use lib.ListN.{length, take}
use lib.Seq.{length-take-le}
use mathlib.Core.Bool.{Bool, false}
use mathlib.Core.List.{List, ◌++◌}
use mathlib.Core.Path.{◌∙◌, ◌≡◌, ap, sym}
use native.Mathlib.Omega.{arith}
use Rattle.ale.specs.PictureSignature.{picture_signature}
use Rattle.ale.specs.Tree.{size}
use Rattle.meaning.proofs.Normals.{normal_length, normal_reads, normal_size}
use Rattle.meaning.specs.NormalTable.{merged_count, normal_file, normal_tree_of}
use Rattle.row_sets.proofs.Checks.{readable_checked}
use Rattle.row_sets.specs.Rows.{Checked}
use Rattle.table.proofs.Bools.{by_test}
use Rattle.table.proofs.Puts.{length_put, put_put}
use Rattle.table.proofs.Rows.{length_end_bytes}
use Rattle.table.specs.Bounds.{Bounded, max_rows, picture_size}
use Rattle.table.specs.Fields.{end_bytes}
use Rattle.table.specs.Layout.{end_size, «place»}
use Rattle.table.specs.Pick.{pick}
use Rattle.table.specs.Put.{put}
use Rattle.table.specs.declared.layout.Limits.{Limits}
use Rattle.normal_writer.specs.Built.{Built}
use Rattle.table_rows.specs.Rows.{prefix}
use Rattle.normal_writer.specs.Tables.{Tabled}
use Rattle.normal_writer.specs.declared.node.Branch.{Branch}
use Rattle.table_rows.proofs.Prefixes.{take_put}

pub table_put : (rows n : ℕ) (scratch out l₁ l₂ : List ℕ) → n ≡ place rows 0 → place rows 0 ≤ length scratch →
    place rows end_size ≤ length out → l₁ ≡ put out 0 (take n scratch) → l₂ ≡ put l₁ (place rows 0) end_bytes →
    l₂ ≡ put out 0 (prefix rows scratch ++ end_bytes)
table_put rows n scratch out l₁ l₂ e i j p q =
    let s : List ℕ = take (place rows 0) scratch in
    let k : length s ≡ place rows 0 = length-take-le (place rows 0) scratch i in
    let end : place rows 0 ≡ 0 + length s = omega arith in
    q
    ∙ ap (λ (l : List ℕ). put l (place rows 0) end_bytes) (p ∙ ap (λ (m : ℕ). put out 0 (take m scratch)) e)
    ∙ ap (λ (m : ℕ). put (put out 0 s) m end_bytes) end
    ∙ put_put out 0 s end_bytes (omega arith)

module _ (limits : Limits) (s out : List ℕ) where
  abbrev rows_of : Bool → ℕ
  rows_of b = pick b (size picture_signature (normal_tree_of limits s)) 0

  -- ---- when it is made

  pub tabled_none : (r : Branch) (end : List ℕ) → Built limits s out r end → limits.rows < r.merged → Tabled limits s out 0 end
  tabled_none r end built over =
      record {
        same = built.same;
        rows_are = sym (ap rows_of (lt-leb (merged_count limits s) limits.rows (omega (arith, built.count, over))));
        file = λ few. absurd (omega (arith, few, built.count, over));
      }

  built_file : (r : Branch) (end : List ℕ) → Built limits s out r end → merged_count limits s ≤ limits.rows →
      prefix r.table.rows end ++ end_bytes ≡ normal_file limits s
  unfolding normal_file
  built_file r end built few = ap (λ (l : List ℕ). l ++ end_bytes) (built.bytes_are few)

  pub tabled_rows : (r : Branch) (mid end : List ℕ) → Built limits s out r mid → r.merged ≤ limits.rows → place r.table.rows end_size ≤ length mid →
      end ≡ put mid (place r.table.rows 0) end_bytes → Tabled limits s out r.table.rows end
  tabled_rows r mid end built within room written =
      let few : merged_count limits s ≤ limits.rows = omega (arith, built.count, within) in
      record {
        same = ap length written ∙ length_put mid (place r.table.rows 0) end_bytes (omega (arith, room, length_end_bytes)) ∙ built.same;
        rows_are = built.rows_are few ∙ sym (ap rows_of (le-leb (merged_count limits s) limits.rows few));
        file = λ _.
            ap (take (place r.table.rows end_size)) written
            ∙ take_put mid (place r.table.rows 0) end_bytes (place r.table.rows end_size) (omega (arith, room)) (omega (arith, length_end_bytes))
            ∙ built_file r mid built few;
      }

  -- ---- once it is made

  module _ (r : ℕ) (end : List ℕ) (bounded : Bounded limits) (tabled : Tabled limits s out r end) where
    pub rows_few : merged_count limits s ≤ limits.rows → r ≡ size picture_signature (normal_tree_of limits s)
    rows_few few = tabled.rows_are ∙ ap rows_of (le-leb (merged_count limits s) limits.rows few)

    normal_checked : merged_count limits s ≤ limits.rows →
        Checked (normal_file limits s) (size picture_signature (normal_tree_of limits s))
    normal_checked few =
        readable_checked limits (normal_file limits s) (size picture_signature (normal_tree_of limits s))
        (normal_reads limits s few bounded) bounded

    pub none_many : r ≡ 0 → leb (merged_count limits s) limits.rows ≡ false
    none_many none =
        by_test (leb (merged_count limits s) limits.rows)
        (λ e. let few = leb-true (merged_count limits s) limits.rows e in absurd (omega (arith, none, rows_few few, (normal_checked few).some)))
        (λ e. e)

    pub some_few : (r ≡ 0 → ⊥) → merged_count limits s ≤ limits.rows
    some_few some =
        by_test (leb (merged_count limits s) limits.rows) (λ e. leb-true (merged_count limits s) limits.rows e)
        (λ e. absurd (some (tabled.rows_are ∙ ap rows_of e)))

    module _ (few : merged_count limits s ≤ limits.rows) where
      pub tabled_fits : place r end_size ≤ picture_size limits
      tabled_fits = omega (arith, rows_few few, normal_length limits s, normal_size limits s few)

      pub tabled_there : picture_size limits ≤ length out → (r ≤ max_rows) × (place r end_size ≤ length end)
      tabled_there room = (omega (arith, tabled_fits, bounded.0), omega (arith, tabled_fits, tabled.same, room))

      -- the part that is the table, however its length was found
      module _ (n : ℕ) (is : n ≡ place r end_size) where
        pub tabled_file : take n end ≡ normal_file limits s
        tabled_file = ap (λ (k : ℕ). take k end) is ∙ tabled.file few
