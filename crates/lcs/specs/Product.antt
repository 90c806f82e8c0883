-- 01, "The product of two normal tables": the common picture of two pictures (003, Definition 2).
--   lcs_tree    the product of the two normal trees (ale, specs/Product: `product`), empty all-successors dropped
--   lcs_count   its rows, after the dropping: what question 15 counts
--   lcs_file    it as a picture file: depth first, with its end field
use Rattle.std.specs.Prelude.{ℕ, List}
use Rattle.table.specs.declared.layout.Limits.{Limits}
use Rattle.ale.specs.Encoding.{encode}
use Rattle.ale.specs.PictureSignature.{picture_signature}
use Rattle.ale.specs.Product.{product}
use Rattle.ale.specs.Tree.{Tree, size}
use Rattle.meaning.specs.File.{file_of}
use Rattle.meaning.specs.NormalTable.{normal_tree_of}

module _ (limits : Limits) (first second : List ℕ) where
  unfoldable pub lcs_tree : Tree picture_signature
  lcs_tree = product picture_signature (normal_tree_of limits first) (normal_tree_of limits second)

  unfoldable pub lcs_count : ℕ
  lcs_count = size picture_signature lcs_tree

  unfoldable pub lcs_file : List ℕ
  lcs_file = file_of (encode picture_signature lcs_tree)
