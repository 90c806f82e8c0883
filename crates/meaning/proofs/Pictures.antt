-- What the questions leave of a readable picture, as a table of the theory; and nothing of its trees is cut off, so question 14 counts every row.
--   picture_known     question 10: its roles are known
--   picture_parents   question 11: parents come first
--   picture_ranked    question 12: the depths of its rows rise from a row to its successors, and are within the limit
--   picture_whole     so its tree is the same at any greater depth
--   merged_whole      and its merged tree
--   count_whole       and so the number of its merged rows
use Prim.Native.Nat.{◌+◌, ℕ}
use mathlib.Core.List.{List, [], ◌∷◌}
use mathlib.Core.Path.{◌≡◌, ap}
use native.Mathlib.Omega.{arith}
use Rattle.ale.proofs.Depths.{Ranked, ranked_by_depth, tree_of_deeper}
use Rattle.ale.proofs.MergedDepths.{merged_deeper}
use Rattle.ale.specs.Merged.{merged}
use Rattle.ale.specs.PictureSignature.{picture_signature}
use Rattle.ale.specs.Table.{KnownRoles, ParentsFirst, tree}
use Rattle.ale.specs.Tree.{size}
use Rattle.picture.proofs.Readables.{readable_depth, readable_depth_under, readable_parent, readable_role}
use Rattle.picture.specs.Depth.{depth}
use Rattle.picture.specs.Readable.{Readable}
use Rattle.table.specs.Fields.{parent_of}
use Rattle.table.specs.declared.layout.Limits.{Limits}
use Rattle.meaning.specs.Meaning.{picture_table, picture_tree}
use Rattle.meaning.specs.NormalTable.{merged_count, merged_tree}

module _ (limits : Limits) (s : List ℕ) (readable : Readable limits s) where
  pub picture_known : KnownRoles picture_signature (picture_table s)
  picture_known j l = readable_role limits s readable j l

  pub picture_parents : ParentsFirst picture_signature (picture_table s)
  picture_parents j l z = readable_parent limits s readable j z l

  pub picture_ranked : Ranked picture_signature (picture_table s) (depth (parent_of s)) limits.depth
  picture_ranked =
      ranked_by_depth picture_signature (picture_table s) (depth (parent_of s)) limits.depth
      (λ j l z. omega (arith, readable_depth_under limits s readable j z l)) (readable_depth limits s readable)

  pub picture_whole : (k : ℕ) → picture_tree limits s ≡ tree picture_signature (picture_table s) (k + limits.depth)
  picture_whole k =
      tree_of_deeper picture_signature (picture_table s) (depth (parent_of s)) limits.depth picture_ranked k limits.depth 0 (omega arith)

  pub merged_whole : (k : ℕ) → merged_tree limits s ≡ merged picture_signature (picture_table s) (k + limits.depth) (0 ∷ [])
  unfolding merged_tree
  merged_whole k =
      merged_deeper picture_signature (picture_table s) (depth (parent_of s)) limits.depth picture_ranked k limits.depth (0 ∷ []) (λ i m. omega arith)

  pub count_whole : (k : ℕ) → merged_count limits s ≡ size picture_signature (merged picture_signature (picture_table s) (k + limits.depth) (0 ∷ []))
  unfolding merged_count
  count_whole k = ap (size picture_signature) (merged_whole k)
