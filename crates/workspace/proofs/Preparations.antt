-- Laws of the work space that holds both normal tables, at any limits.
--   halves_first, halves_second       each half begins with a normal file
--   length_halves                     the work space keeps its length
use Prim.Native.Nat.{◌≤◌, ℕ}
use lib.ListN.{drop, length, take}
use mathlib.Core.List.{List, ◌++◌}
use mathlib.Core.Path.{◌∙◌, ◌≡◌}
use native.Mathlib.Omega.{arith}
use Rattle.meaning.proofs.Normals.{normal_size}
use Rattle.meaning.specs.NormalTable.{merged_count, normal_file}
use Rattle.normal.proofs.Halves.{half_file, length_half}
use Rattle.normal.specs.Half.{half_of}
use Rattle.table.proofs.Puts.{length_put}
use Rattle.table.specs.Bounds.{picture_size}
use Rattle.table.specs.declared.layout.Limits.{Limits}
use Rattle.workspace.specs.Prepare.{halves_put, work_size}
use Rattle.workspace.proofs.Halves.{join_lower, join_upper, length_join}

abbrev half : Limits → List ℕ → List ℕ
half limits s = half_of limits (normal_file limits s)

length_normal : (limits : Limits) (s : List ℕ) → merged_count limits s ≤ limits.rows → length (half limits s) ≡ picture_size limits
length_normal limits s few = length_half limits (normal_file limits s) (normal_size limits s few)

module _ (limits : Limits) (first second work : List ℕ) (first_few : merged_count limits first ≤ limits.rows) (second_few : merged_count limits second ≤ limits.rows) where
  lower : length (half limits first) ≡ picture_size limits
  lower = length_normal limits first first_few

  upper : length (half limits second) ≡ picture_size limits
  upper = length_normal limits second second_few

  pub halves_first : take (length (normal_file limits first)) (halves_put limits first second work) ≡ normal_file limits first
  unfolding halves_put
  halves_first =
      join_lower (picture_size limits) (half limits first) (half limits second) lower upper work (length (normal_file limits first))
      (normal_size limits first first_few)
      ∙ half_file limits (normal_file limits first)

  pub halves_second : take (length (normal_file limits second)) (drop (picture_size limits) (halves_put limits first second work)) ≡ normal_file limits second
  unfolding halves_put
  halves_second =
      join_upper (picture_size limits) (half limits first) (half limits second) lower upper work (length (normal_file limits second))
      (normal_size limits second second_few)
      ∙ half_file limits (normal_file limits second)

  pub length_halves : work_size limits ≤ length work → length (halves_put limits first second work) ≡ length work
  unfolding halves_put
  length_halves room =
      length_put work 0 (half limits first ++ half limits second)
      (omega (arith, length_join (picture_size limits) (half limits first) (half limits second) lower upper))
