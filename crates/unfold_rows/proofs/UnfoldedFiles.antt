-- What the code answers and writes is what the questions of a definitions book speak of, where the definitions that the
-- code finds are those of the book (definitions_reader: `Indexed`).
--   wants_same       whether a row wants a defined name
--   unfolded_few_is     29
--   unfolded_count_is   the rows that 29 counts, if they are not too many
--   unfolded_rows    the rows that are written, of which 30 is asked (unfold_depth/proofs/UnfoldedDepths)
--   unfolded_file_is    the unfolded picture as a file, where a row wants a defined name
use Prim.Native.Nat.{◌≤◌, ℕ}
use borrow.Author.Tests.{leb-false, leb-true, lt-leb}
use lib.Dec.{leb}
use lib.ListN.{take}
use mathlib.Core.Bool.{true}
use mathlib.Core.List.{List}
use mathlib.Core.Path.{◌∙◌, ◌≡◌, ap, sym}
use Rattle.table.specs.Layout.{end_size, «place»}
use Rattle.table.specs.Pick.{pick}
use Rattle.table.specs.declared.layout.Limits.{Limits}
use Rattle.table.proofs.Bools.{by_test}
use Rattle.ale.specs.PictureSignature.{picture_signature}
use Rattle.tbox.specs.Unfold.{unfold_rows}
use Rattle.meaning.specs.File.{file_of, rows_from}
use Rattle.meaning.specs.Meaning.{picture_table}
use Rattle.definitions.specs.Tbox.{tbox_of}
use Rattle.definitions.specs.Unfolded.{unfolded_count, unfolded_few, unfolded_file, wants_defined}
use Rattle.definitions.proofs.Idle.{word_set}
use Rattle.definition_parts.specs.Parts.{Agrees}
use Rattle.unfold_rows.specs.Growing.{Filed}
use Rattle.unfold_rows.specs.Takings.{wants_names}

module _ (tbox s starts : List ℕ) (defined : ℕ) (agrees : Agrees (tbox_of tbox) tbox starts defined) where
  pub wants_same : wants_names s defined ≡ wants_defined tbox s
  wants_same = ap (wants_names s) (sym agrees.names ∙ word_set tbox)

  module _ (limits : Limits) (r : ℕ) (d e : List ℕ) (filed : Filed s tbox starts defined limits.rows r d e) where
    few : unfolded_few limits tbox s ≡ true → unfolded_count limits tbox s ≤ limits.rows
    unfolding unfolded_few
    few t = leb-true (unfolded_count limits tbox s) limits.rows t

    pub unfolded_count_is : unfolded_few limits tbox s ≡ true → r ≡ unfolded_count limits tbox s
    unfolding unfolded_count
    unfolded_count_is t = (filed.few (tbox_of tbox) agrees (few t)).0

    pub unfolded_few_is : leb r limits.rows ≡ unfolded_few limits tbox s
    unfolding unfolded_few unfolded_count
    unfolded_few_is =
        by_test (unfolded_few limits tbox s)
        (λ t. ap (λ n. leb n limits.rows) (unfolded_count_is t))
        (λ f. lt-leb r limits.rows
        (filed.many (tbox_of tbox) agrees (leb-false (unfolded_count limits tbox s) limits.rows f))
        ∙ sym f)

    pub unfolded_rows : unfolded_few limits tbox s ≡ true → take (place (unfolded_count limits tbox s) 0) e ≡
        rows_from 0 (unfold_rows picture_signature (tbox_of tbox) limits.rows (picture_table s))
    unfolding unfolded_count
    unfolded_rows t =
        ap (λ n. take (place n 0) e) (sym (unfolded_count_is t)) ∙ (filed.few (tbox_of tbox) agrees (few t)).1

    pub unfolded_file_is : unfolded_few limits tbox s ≡ true → wants_defined tbox s ≡ true →
        take (place r end_size) e ≡ unfolded_file limits tbox s
    unfolding unfolded_file unfolded_count
    unfolded_file_is t w =
        (filed.few (tbox_of tbox) agrees (few t)).2
        ∙ ap (λ b. pick b (file_of (unfold_rows picture_signature (tbox_of tbox) limits.rows (picture_table s))) s)
        (sym w)
