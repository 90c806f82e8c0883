-- Shortcuts that give another common picture, each with a case that shows it, computed from the bytes by the
-- definitions alone.
--   k9_first, k9_second, k9_common   the pictures of K9: {3}, some r{4}; {3,5}, some r{4,6}, some r{7};
--                                    {3}, some r{4}, some r{}
--   k9                               the common picture is not always empty
--   spread                           all r{3}, some r{5}
--   normal_tables                    the normal tables are intersected, not the pictures' own: with some r{3} it has
--                                    some r{3} in common, not some r{}
use Prim.Native.Nat.{ℕ}
use mathlib.Core.List.{List, [], ◌∷◌}
use mathlib.Core.Path.{◌≡◌, refl}
use Rattle.table.specs.Bounds.{bench_limits}
use Rattle.table.specs.Fields.{end_bytes, row_of}
use Rattle.table.specs.Number.{be, be_bytes}
use Rattle.picture.specs.Readable.{row_count}
use Rattle.meaning.proofs.CasePictures.{all_row, one, picture, root, some_row}
use Rattle.meaning.specs.NormalTable.{normal_tree_of}
use Rattle.lcs.specs.Product.{lcs_file, lcs_tree}

abbrev pub k9_first : List ℕ
k9_first = picture (root 8 ∷ some_row 0 8 16 ∷ [])

abbrev pub k9_second : List ℕ
k9_second = picture (root 40 ∷ some_row 0 8 80 ∷ some_row 0 8 128 ∷ [])

abbrev pub k9_common : List ℕ
k9_common = picture (root 8 ∷ some_row 0 8 16 ∷ some_row 0 8 0 ∷ [])

pub k9 : lcs_file bench_limits k9_first k9_second ≡ k9_common
unfolding be be_bytes row_of end_bytes row_count normal_tree_of lcs_tree lcs_file
k9 = refl

abbrev pub spread : List ℕ
spread = picture (root 0 ∷ all_row 0 8 8 ∷ some_row 0 8 32 ∷ [])

pub normal_tables : lcs_file bench_limits spread (one 8) ≡ one 8
unfolding be be_bytes row_of end_bytes row_count normal_tree_of lcs_tree lcs_file
normal_tables = refl
