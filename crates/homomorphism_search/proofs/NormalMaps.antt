-- The search on the normal tables of two pictures decides whether the second covers the first.
use Prim.Native.Nat.{◌≤◌, ℕ}
use mathlib.Core.List.{List}
use mathlib.Core.Path.{◌∙◌, ◌≡◌, ap}
use Rattle.ale.specs.Homomorphism.{maps_to}
use Rattle.ale.specs.PictureSignature.{picture_signature}
use Rattle.meaning.proofs.Normals.{normal_meaning}
use Rattle.meaning.specs.Covering.{covers}
use Rattle.meaning.specs.NormalTable.{merged_count, normal_file, normal_tree_of}
use Rattle.table.specs.Bounds.{Bounded}
use Rattle.table.specs.declared.layout.Limits.{Limits}
use Rattle.homomorphism_search.specs.Search.{row_maps, tree_at}

pub normal_maps : (limits : Limits) (first second : List ℕ) → Bounded limits → merged_count limits first ≤ limits.rows → merged_count limits second ≤ limits.rows →
    row_maps (normal_file limits first) (normal_file limits second) limits.depth 0 0 ≡ covers limits second first
unfolding row_maps covers
normal_maps limits first second bounded few few₂ =
    ap (λ t. maps_to picture_signature t (tree_at (normal_file limits first) limits.depth 0)) (normal_meaning limits second few₂ bounded)
    ∙ ap (λ t. maps_to picture_signature (normal_tree_of limits second) t) (normal_meaning limits first few bounded)
