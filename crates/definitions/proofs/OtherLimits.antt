-- A picture unfolds alike at all limits at which 29 is answered yes: 02, U4, lets them be set.
--   few_more     what is few enough at one limit is so at every other that it does not exceed
--   count_more   where 29 is answered yes at two limits, it counts the same,
--   table_more   30 is asked of the same table,
--   file_more    and the unfolded file is the same
use Prim.Native.Nat.{◌≤◌, ℕ}
use borrow.Author.Tests.{le-leb, leb-true}
use lib.ListN.{length}
use mathlib.Core.Bool.{true}
use mathlib.Core.List.{List}
use mathlib.Core.Path.{◌≡◌, ap}
use native.Mathlib.Omega.{arith}
use Rattle.table.specs.Pick.{pick}
use Rattle.table.specs.declared.layout.Limits.{Limits}
use Rattle.ale.specs.PictureSignature.{picture_signature}
use Rattle.tbox.proofs.UnfoldedTables.{grown_enough, grown_same, unfolded_more}
use Rattle.tbox.specs.Unfold.{Origin, grown}
use Rattle.meaning.specs.File.{file_of}
use Rattle.meaning.specs.Meaning.{picture_table}
use Rattle.definitions.specs.Tbox.{tbox_of}
use Rattle.definitions.specs.Unfolded.{unfolded_count, unfolded_few, unfolded_file, unfolded_table, wants_defined}

module _ (book s : List ℕ) where
  abbrev rows_at : Limits → List (Origin picture_signature)
  rows_at limits = grown picture_signature (tbox_of book) (picture_table s) limits.rows

  few_rows : (limits : Limits) → unfolded_few limits book s ≡ true → length (rows_at limits) ≤ limits.rows
  unfolding unfolded_few unfolded_count
  few_rows limits e = leb-true (length (rows_at limits)) limits.rows e

  module _ (one other : Limits) (few : unfolded_few one book s ≡ true) where
    pub few_more : unfolded_count one book s ≤ other.rows → unfolded_few other book s ≡ true
    unfolding unfolded_few unfolded_count
    few_more l =
        let same = grown_enough picture_signature (tbox_of book) (picture_table s) one.rows other.rows
        (few_rows one few) l in
        le-leb (length (rows_at other)) other.rows (omega (arith, ap length same))

    module _ (few-other : unfolded_few other book s ≡ true) where
      pub count_more : unfolded_count other book s ≡ unfolded_count one book s
      unfolding unfolded_count
      count_more =
          ap length (grown_same picture_signature (tbox_of book) (picture_table s) one.rows other.rows
          (few_rows one few) (few_rows other few-other))

      pub table_more : unfolded_table other book s ≡ unfolded_table one book s
      table_more =
          (unfolded_more picture_signature (tbox_of book) (picture_table s) one.rows other.rows
          (few_rows one few) (few_rows other few-other)).1

      pub file_more : unfolded_file other book s ≡ unfolded_file one book s
      unfolding unfolded_file
      file_more =
          ap (λ rows. pick (wants_defined book s) (file_of rows) s)
          (unfolded_more picture_signature (tbox_of book) (picture_table s) one.rows other.rows
          (few_rows one few) (few_rows other few-other)).0
