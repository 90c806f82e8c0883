-- Evidence is checked against the normal tables in the work space; 22 and 23 ask about the pictures themselves. What fits the one fits the other.
--   normal_rows, normal_some   the rows of a normal table are the nodes of its tree, at least one
--   normal_row_tree             the tree of its row 0 is the normal tree
--   fits_picture               22 and 23 answer alike for a picture and for its normal table
use Prim.Native.Nat.{◌<◌, ◌≤◌, ℕ}
use native.Mathlib.Omega.{arith}
use mathlib.Core.List.{List}
use mathlib.Core.Path.{◌∙◌, ◌≡◌, ap}
use Rattle.table.specs.Bounds.{Bounded}
use Rattle.table.specs.declared.layout.Limits.{Limits}
use Rattle.ale.proofs.Encodings.{encode_tree_length, height_size}
use Rattle.ale.proofs.Subsumption.{normal_tree_is, tree_normal}
use Rattle.ale.specs.ModelCheck.{fits_test}
use Rattle.ale.specs.PictureSignature.{picture_signature}
use Rattle.ale.specs.Tree.{Tree, exists, size}
use Rattle.picture.specs.Readable.{Readable}
use Rattle.meaning.proofs.Normals.{normal_meaning_at, normal_table}
use Rattle.meaning.proofs.Pictures.{picture_known}
use Rattle.meaning.specs.Meaning.{picture_table, picture_tree}
use Rattle.meaning.specs.NormalTable.{merged_count, normal_file, normal_tree_of}
use Rattle.countermodel.specs.Model.{row_tree}
use Rattle.evidence.proofs.Refutations.{fits_same}

module _ (limits : Limits) (s : List ℕ) (bounded : Bounded limits) (few : merged_count limits s ≤ limits.rows) where
  pub normal_rows : (picture_table (normal_file limits s)).rows ≡ size picture_signature (normal_tree_of limits s)
  normal_rows = (normal_table limits s few bounded).rows ∙ encode_tree_length picture_signature (normal_tree_of limits s) 0 exists 0 0

  pub normal_some : 0 < (picture_table (normal_file limits s)).rows
  normal_some = omega (arith, normal_rows, height_size picture_signature (normal_tree_of limits s))

  pub normal_row_tree : row_tree (picture_table (normal_file limits s)) 0 ≡ normal_tree_of limits s
  normal_row_tree =
      normal_meaning_at limits s few bounded (picture_table (normal_file limits s)).rows (omega (arith, normal_rows, height_size picture_signature (normal_tree_of limits s)))

  pub fits_picture : Readable limits s → (b : Tree picture_signature) →
      fits_test picture_signature (row_tree (picture_table (normal_file limits s)) 0) b ≡ fits_test picture_signature (picture_tree limits s) b
  unfolding normal_tree_of
  fits_picture readable b =
      ap (λ t. fits_test picture_signature t b) normal_row_tree
      ∙ fits_same (normal_tree_of limits s) (picture_tree limits s)
      (normal_tree_is picture_signature (picture_table s) (picture_known limits s readable) limits.depth)
      (tree_normal picture_signature (picture_table s) limits.depth) b
