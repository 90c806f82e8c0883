-- The rows of an unfolded picture in bytes: their parents read back, so their depths are those of the theory.
--   written_parents, written_hung, written_shallow   of any rows whose parents come first
--   unfolded_hung     of a readable picture within 29's limit, 30 can be asked of the bytes
--   unfolded_shallow_is  and its answer there is 30's
use Prim.Native.Nat.{◌<◌, ◌^◌, ◌≤◌, suc, zero, ℕ}
use lib.Dec.{leb}
use lib.ListN.{drop, length, length-take, take, take-append-drop}
use mathlib.Core.List.{List, ◌++◌}
use mathlib.Core.Path.{◌∙◌, ◌≡◌, ap, subst, sym}
use native.Mathlib.Omega.{arith}
use Rattle.table.proofs.Ranges.{each_same}
use Rattle.table.proofs.Rows.{held_parent}
use Rattle.table.specs.Bounds.{Bounded, max_depth, max_rows}
use Rattle.table.specs.Fields.{parent_of}
use Rattle.table.specs.Layout.{«place», number_size}
use Rattle.table.specs.Range.{each}
use Rattle.table.specs.declared.layout.Limits.{Limits}
use Rattle.ale.specs.Encoding.{Row, table_of}
use Rattle.ale.specs.PictureSignature.{picture_signature}
use Rattle.ale.specs.Table.{ParentsFirst}
use Rattle.tbox.proofs.Origins.{Sound}
use Rattle.tbox.proofs.UnfoldedTables.{unfolded_own, unfolded_parents}
use Rattle.tbox.proofs.Unfoldings.{rows_for_length}
use Rattle.tbox.specs.Unfold.{grown, unfold_rows}
use Rattle.picture.proofs.Depths.{depth_same}
use Rattle.picture.proofs.Readables.{readable_root_parent, readable_some}
use Rattle.picture.specs.Depth.{depth}
use Rattle.picture.specs.Readable.{Readable}
use Rattle.meaning.proofs.FileTables.{parents_fit}
use Rattle.meaning.proofs.Files.{length_rows_from, row_in, rows_held}
use Rattle.meaning.proofs.Pictures.{picture_parents}
use Rattle.meaning.specs.File.{rows_from}
use Rattle.meaning.specs.Meaning.{picture_table}
use Rattle.definitions.specs.Tbox.{tbox_of}
use Rattle.definitions.specs.Unfolded.{unfolded_count, unfolded_shallow}
use Rattle.unfold_depth.specs.Depths.{Hung, shallow}

module _ (ws : List (Row picture_signature)) (t : List ℕ) (written : take (place (length ws) 0) t ≡ rows_from 0 ws)
    (few : length ws ≤ max_rows) (root : (row_in ws 0).parent ≡ 0)
    (up : ParentsFirst picture_signature (table_of picture_signature ws)) where
  fits : (j : ℕ) → j < length ws → (row_in ws j).parent < 256 ^ number_size
  fits zero l = omega (arith, root)
  fits (suc j) l = parents_fit ws up (omega arith) (suc j) l (λ z. omega arith)

  pub written_parents : (j : ℕ) → j < length ws → parent_of t j ≡ (row_in ws j).parent
  written_parents j l =
      let rest = drop (place (length ws) 0) t in
      ap (λ s. parent_of s j) (sym (take-append-drop (place (length ws) 0) t) ∙ ap (λ s. s ++ rest) written)
      ∙ held_parent (rows_held ws rest j l) (fits j l)

  pub written_hung : (limit : ℕ) → limit ≤ max_depth → Hung t (length ws) limit
  written_hung limit low = record {
    few = few;
    whole = omega (arith, length-take (place (length ws) 0) t, ap length written, length_rows_from 0 ws);
    ordered = λ j z l. subst (λ p. p < j) (sym (written_parents j l)) (up j l z);
    low = low;
  }

  pub written_shallow : (limit : ℕ) → shallow t (length ws) limit ≡
      each (λ j. leb (depth (table_of picture_signature ws).parent j) limit) (length ws) 0
  written_shallow limit =
      each_same (λ j. leb (depth (parent_of t) j) limit) (λ j. leb (depth (table_of picture_signature ws).parent j) limit)
      (length ws) 0 (λ j a b. ap (λ d. leb d limit)
      (depth_same (parent_of t) (table_of picture_signature ws).parent j (λ k h. written_parents k (omega arith))
      (λ k z h. rw (written_parents k (omega arith)) (up k (omega arith) (λ e. omega arith)))))

module _ (limits : Limits) (bounded : Bounded limits) (book : List ℕ) (sound : Sound picture_signature (tbox_of book))
    (s : List ℕ) (readable : Readable limits s) (few : unfolded_count limits book s ≤ limits.rows)
    (t : List ℕ) (written : take (place (unfolded_count limits book s) 0) t ≡
    rows_from 0 (unfold_rows picture_signature (tbox_of book) limits.rows (picture_table s))) where
  abbrev rows : List (Row picture_signature)
  rows = unfold_rows picture_signature (tbox_of book) limits.rows (picture_table s)

  count : unfolded_count limits book s ≡ length rows
  unfolding unfolded_count
  count =
      sym (rows_for_length picture_signature (tbox_of book)
      (grown picture_signature (tbox_of book) (picture_table s) limits.rows))

  by_rows : take (place (length rows) 0) t ≡ rows_from 0 rows
  by_rows = ap (λ n. take (place n 0) t) (sym count) ∙ written

  most : length rows ≤ max_rows
  most = omega (arith, count, bounded.0)

  up : ParentsFirst picture_signature (table_of picture_signature rows)
  up =
      unfolded_parents picture_signature (tbox_of book) sound (picture_table s) (readable_some limits s readable)
      (picture_parents limits s readable) limits.rows

  root : (row_in rows 0).parent ≡ 0
  root =
      (unfolded_own picture_signature (tbox_of book) sound (picture_table s) (readable_some limits s readable)
      (picture_parents limits s readable) limits.rows 0 (readable_some limits s readable)).1
      ∙ readable_root_parent limits s readable

  pub unfolded_hung : Hung t (unfolded_count limits book s) limits.depth
  unfolded_hung =
      subst (λ n. Hung t n limits.depth) (sym count)
      (written_hung rows t by_rows most root up limits.depth bounded.1)

  pub unfolded_shallow_is : shallow t (unfolded_count limits book s) limits.depth ≡ unfolded_shallow limits book s
  unfolding unfolded_shallow
  unfolded_shallow_is =
      ap (λ n. shallow t n limits.depth) count ∙ written_shallow rows t by_rows most root up limits.depth
