-- The tag, and a map file as bytes, are those of the paper.
use Prim.Native.Nat.{ℕ}
use lib.ListN.{get_or}
use mathlib.Core.List.{[], ◌∷◌}
use mathlib.Core.Path.{◌≡◌, refl}
use Rattle.table.specs.Fields.{end_bytes}
use Rattle.table.specs.Number.{be_bytes}
use Rattle.homomorphism.specs.Layout.{map_tag}
use Rattle.homomorphism.specs.Map.{map_file}

pub map_tag_agrees : map_tag ≡ 0x41
map_tag_agrees = refl

-- K7: rows 0, 1 and 2 of some r{3}, some r{5} are sent to rows 0, 1 and 1 of some r{3,5}
abbrev k7_images : ℕ → ℕ
k7_images i = get_or (0 ∷ 1 ∷ 1 ∷ []) i 0

pub map_file_agrees : map_file 3 k7_images ≡ 0x41 ∷ 0x00 ∷ 0x06 ∷ 0x00 ∷ 0x00 ∷ 0x00 ∷ 0x01 ∷ 0x00 ∷ 0x01 ∷ 0x2F ∷ 0x00 ∷ 0x00 ∷ []
unfolding map_file be_bytes end_bytes
map_file_agrees = refl
