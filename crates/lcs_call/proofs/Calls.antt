-- Laws of the common picture as the code makes it, from the tables in the work space, and of the call by its tests.
--   trims                             the normal tables of a pair are such as the walk along both needs,
--   common_file_in_is, large_in_is          and what is made of them is what the definition says of the pictures
--   made_few, made_many               the answer and the result buffer over the rows that were built
--   prepared_call                     the answer and both buffers, by what the questions answer
--   tables_trims, tables_common       the same of the parts of the work space that are the normal tables
use Prim.Native.Nat.{◌<◌, ◌≤◌, ℕ}
use borrow.Author.Tests.{le-leb, lt-leb}
use lib.ListN.{length}
use mathlib.Core.Bool.{Bool}
use mathlib.Core.List.{List, ◌++◌}
use mathlib.Core.Path.{◌∙◌, ◌≡◌, ap, subst, sym}
use native.Mathlib.Omega.{arith}
use Rattle.std.proofs.Common.{Err, Ok, Result}
use Rattle.ale.proofs.Encodings.{encode_tree_length}
use Rattle.ale.specs.Encoding.{encode}
use Rattle.ale.specs.PictureSignature.{picture_signature}
use Rattle.ale.specs.Product.{product}
use Rattle.ale.specs.Tree.{Tree, exists, size}
use Rattle.homomorphism_search.specs.Search.{tree_at}
use Rattle.meaning.proofs.Files.{length_file_of}
use Rattle.meaning.proofs.Normals.{normal_meaning, normal_normal, normal_roles}
use Rattle.meaning.specs.File.{file_of}
use Rattle.meaning.specs.NormalTable.{normal_file, normal_tree_of}
use Rattle.table_rows.specs.Rows.{prefix}
use Rattle.picture.specs.Asked.{and_then, kept, on_asked, Asked}
use Rattle.picture.specs.Readable.{Readable}
use Rattle.table.specs.Bounds.{Bounded, picture_size}
use Rattle.table.specs.Fields.{end_bytes}
use Rattle.table.specs.Layout.{end_size, «place»}
use Rattle.table.specs.Put.{put}
use Rattle.table_rows.specs.declared.builder.Builder.{Builder}
use Rattle.table.specs.declared.layout.Limits.{Limits}
use Rattle.prepare_pair.proofs.TablesIn.{on_tables}
use Rattle.workspace.specs.Lent.{roomy}
use Rattle.workspace.specs.Prepare.{Acceptable}
use Rattle.prepare_pair.specs.Tables.{NormalTables, work_under}
use Rattle.prepare_pair.specs.declared.prepare.Pair.{Pair}
use Rattle.lcs.specs.Call.{large_asked, too_large}
use Rattle.lcs_call.specs.Large.{large_in}
use Rattle.product_rows.specs.Grown.{Built}
use Rattle.lcs.specs.Product.{lcs_count, lcs_file, lcs_tree}
use Rattle.product_rows.specs.Siblings.{Trim}
use Rattle.product_writer.specs.Tables.{Trims, common_file_in, product_at}
use Rattle.definitions.specs.Unfolded.{unfolded_file}
use Rattle.under.proofs.Asked.{lcs_asked_is, lcs_result_asked, lcs_work_asked}
use Rattle.under.specs.Asked.{pair_asked_under}
use Rattle.picture.specs.declared.answer.Refusal.{Refusal}
use Rattle.under.specs.Calls.{lcs_result_under, lcs_under, lcs_work_under}

-- ---- on two tables

module _ (limits : Limits) (s t : List ℕ) (b : Builder) (scratch mid : List ℕ) (built : Built limits (product_at s t limits.depth 0 0) scratch b mid) where
  abbrev made : Tree picture_signature
  made = product_at s t limits.depth 0 0

  abbrev file : List ℕ
  file = common_file_in limits s t

  pub made_many : (out : List ℕ) → limits.rows < b.rows →
      (Err too_large ≡ on_asked (large_in limits s t) (Ok (length file)))
      × (out ≡ kept (large_in limits s t) (put out 0 file) out)
  unfolding large_in
  made_many out many = let e = lt-leb (size picture_signature made) limits.rows (omega (arith, built.count)) in
      (rw e, rw e)

  pub made_few : (n : ℕ) (out end : List ℕ) → b.rows ≤ limits.rows → n ≡ place b.rows end_size → end ≡ put out 0 (prefix b.rows mid ++ end_bytes) →
      (Ok n ≡ on_asked (large_in limits s t) (Ok (length file)))
      × (end ≡ kept (large_in limits s t) (put out 0 file) out)
  unfolding large_in common_file_in
  made_few n out end few long written =
      let within : size picture_signature made ≤ limits.rows = omega (arith, built.count) in
      let yes-is = le-leb (size picture_signature made) limits.rows within in
      let size_is : n ≡ length (file_of (encode picture_signature made)) =
      omega (arith, long, built.count, length_file_of (encode picture_signature made), encode_tree_length picture_signature made 0 exists 0 0) in (
        rw yes-is (ap Ok size_is),
        rw yes-is (written ∙ ap (λ (x : List ℕ). put out 0 (x ++ end_bytes)) (built.bytes_are within)),
      )

-- ---- the normal tables of a pair

module _ (limits : Limits) (first second : List ℕ) (bounded : Bounded limits) (pair : Acceptable limits first second) where
  first_tree : tree_at (normal_file limits first) limits.depth 0 ≡ normal_tree_of limits first
  first_tree = normal_meaning limits first pair.first_few bounded

  second_tree : tree_at (normal_file limits second) limits.depth 0 ≡ normal_tree_of limits second
  second_tree = normal_meaning limits second pair.second_few bounded

  normal_trim : (p : List ℕ) → Readable limits p → Trim (normal_tree_of limits p)
  normal_trim p readable =
      let normal = normal_normal limits p readable in
      record { reduced = normal.reduced; ordered = normal.ordered; known = normal_roles limits p }

  pub trims : Trims (normal_file limits first) (normal_file limits second) limits.depth
  trims = record {
    first_trim = subst Trim (sym first_tree) (normal_trim first pair.first_readable);
    second_trim = subst Trim (sym second_tree) (normal_trim second pair.second_readable);
  }

  product_is : product_at (normal_file limits first) (normal_file limits second) limits.depth 0 0 ≡ lcs_tree limits first second
  unfolding product_at lcs_tree
  product_is =
      ap (λ t. product picture_signature t (tree_at (normal_file limits second) limits.depth 0)) first_tree
      ∙ ap (product picture_signature (normal_tree_of limits first)) second_tree

  pub common_file_in_is : common_file_in limits (normal_file limits first) (normal_file limits second) ≡ lcs_file limits first second
  unfolding common_file_in lcs_file
  common_file_in_is = ap (λ t. file_of (encode picture_signature t)) product_is

  pub large_in_is : large_in limits (normal_file limits first) (normal_file limits second) ≡ large_asked limits first second
  unfolding large_in lcs_count
  large_in_is = rw product_is

-- ---- the call by its tests

module _ (limits : Limits) (bounded : Bounded limits) (tbox first second work result : List ℕ) where
  abbrev pub Gives : Result ℕ Refusal → List ℕ → List ℕ → Type 0
  Gives answer space buffer =
      (answer ≡ lcs_under limits tbox first second (length work) (length result))
      × ((space ≡ lcs_work_under limits tbox first second work (length result))
      × (buffer ≡ lcs_result_under limits tbox first second (length work) result))

  abbrev u : List ℕ
  u = unfolded_file limits tbox first

  abbrev v : List ℕ
  v = unfolded_file limits tbox second

  -- b is the answer to 1, a what the questions before 15 answer, `space` what `prepare` has left
  pub prepared_call : (b : Bool) → b ≡ roomy limits (picture_size limits) (length work) (length result) →
      (a : Asked) → pair_asked_under limits tbox b first second ≡ a → (space : List ℕ) →
      space ≡ work_under limits tbox first second b work →
      Gives (on_asked (and_then a (large_asked limits u v)) (Ok (length (lcs_file limits u v)))) space
      (kept (and_then a (large_asked limits u v)) (put result 0 (lcs_file limits u v)) result)
  prepared_call b room a is space written =
      let asks : pair_asked_under limits tbox (roomy limits (picture_size limits) (length work) (length result)) first
      second
      ≡ a = ap (λ q. pair_asked_under limits tbox q first second) (sym room) ∙ is in (
        sym (lcs_asked_is limits bounded tbox first second (length work) (length result) ∙ rw asks),
        (
          written ∙ ap (λ q. work_under limits tbox first second q work) room
              ∙ sym (lcs_work_asked limits bounded tbox first second work (length result)),
          sym (lcs_result_asked limits bounded tbox first second (length work) result ∙ rw asks),
        ),
      )

-- ---- the parts of the work space that are the normal tables

module _ {limits : Limits} {first second s t : List ℕ} {pair : Pair} (bounded : Bounded limits)
    (tables : NormalTables limits first second pair s t) where
  pub tables_trims : Trims s t limits.depth
  tables_trims =
      on_tables tables (λ s t. Trims s t limits.depth) (trims limits first second bounded tables.accepted)

  abbrev AnswerOn : Asked → List ℕ → Result ℕ Refusal
  AnswerOn a file = on_asked a (Ok (length file))

  pub tables_common : (r : Result ℕ Refusal) (out end : List ℕ) → r ≡ AnswerOn (large_in limits s t) (common_file_in limits s t) →
      end ≡ kept (large_in limits s t) (put out 0 (common_file_in limits s t)) out →
      (r ≡ AnswerOn (large_asked limits first second) (lcs_file limits first second))
      × (end ≡ kept (large_asked limits first second) (put out 0 (lcs_file limits first second)) out)
  tables_common r out end answers writes =
      let asks = on_tables tables (λ s t. large_in limits s t ≡ large_asked limits first second)
      (large_in_is limits first second bounded tables.accepted) in
      let is = on_tables tables (λ s t. common_file_in limits s t ≡ lcs_file limits first second)
      (common_file_in_is limits first second bounded tables.accepted) in (
        answers ∙ ap (λ a. AnswerOn a (common_file_in limits s t)) asks
            ∙ ap (λ f. AnswerOn (large_asked limits first second) f) is,
        writes
            ∙ ap (λ a. kept a (put out 0 (common_file_in limits s t)) out) asks
            ∙ ap (λ f. kept (large_asked limits first second) (put out 0 f) out) is,
      )
