-- 01, "Merged, normal and product tables": the merged and the normal table of a picture, as trees, and the normal table as bytes.
--   merged_tree    the merged table of {root}, before breaking and dropping
--   merged_count   its rows: what question 14 counts; of a readable picture the limit of the depth cuts none off (Pictures: `count-whole`)
--   normal_tree_of  the normal table
--   normal_file    the normal table as a picture file: depth first, with its end field
use Rattle.std.specs.Prelude.{ℕ, List, [], ◌∷◌}
use Rattle.table.specs.declared.layout.Limits.{Limits}
use Rattle.ale.specs.Encoding.{encode}
use Rattle.ale.specs.Merged.{merged}
use Rattle.ale.specs.Normal.{normal_tree}
use Rattle.ale.specs.PictureSignature.{picture_signature}
use Rattle.ale.specs.Tree.{Tree, size}
use Rattle.meaning.specs.File.{file_of}
use Rattle.meaning.specs.Meaning.{picture_table}

unfoldable pub merged_tree : Limits → List ℕ → Tree picture_signature
merged_tree limits s = merged picture_signature (picture_table s) limits.depth (0 ∷ [])

unfoldable pub merged_count : Limits → List ℕ → ℕ
merged_count limits s = size picture_signature (merged_tree limits s)

unfoldable pub normal_tree_of : Limits → List ℕ → Tree picture_signature
normal_tree_of limits s = normal_tree picture_signature (picture_table s) limits.depth

unfoldable pub normal_file : Limits → List ℕ → List ℕ
normal_file limits s = file_of (encode picture_signature (normal_tree_of limits s))
