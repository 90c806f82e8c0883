-- 01, "Our map takes the lowest possible row each time, parents first": among all maps of a pair that the check takes, ours is the least, row by row.
--   image_least   of two tables: no homomorphism that agrees with ours on the rows before has a lower image
--   map_least     so of any map of two acceptable pictures; that there is one is all that it needs of the verdict
use Prim.Native.Nat.{◌<◌, ◌≤◌, ℕ}
use lib.Dec.{T, eqb, eqb→eq}
use mathlib.Core.Bool.{◌&&◌}
use mathlib.Core.List.{List}
use mathlib.Core.Logic.{⊎_elim}
use mathlib.Core.Path.{◌∙◌, ◌≡◌, subst, sym}
use native.Mathlib.Omega.{arith}
use Rattle.table.specs.Bounds.{Bounded}
use Rattle.table.specs.declared.layout.Limits.{Limits}
use Rattle.ale.proofs.LowestMap.{image_lowest, image_root, lowest_homomorphism}
use Rattle.ale.proofs.RowMaps.{homomorphism_maps_to, row_maps_to_is}
use Rattle.ale.proofs.TableLaws.{not_zero}
use Rattle.ale.proofs.Tests.{and_intro, clash, decide}
use Rattle.ale.specs.PictureSignature.{picture_signature}
use Rattle.ale.specs.RowMap.{IsHomomorphism, edge_agrees, image, row_maps_to}
use Rattle.ale.specs.Signature.{Signature}
use Rattle.ale.specs.Table.{ParentsFirst, Table}
use Rattle.meaning.proofs.Normals.{normal_count, normal_readable}
use Rattle.meaning.proofs.Pictures.{picture_parents}
use Rattle.meaning.specs.Meaning.{picture_table}
use Rattle.meaning.specs.NormalTable.{merged_count, normal_file}
use Rattle.homomorphism.proofs.MapFiles.{map_file_image}
use Rattle.homomorphism.specs.Layout.{image_of}
use Rattle.homomorphism.specs.Map.{lowest_map}
use Rattle.workspace.specs.Prepare.{Acceptable}
use Rattle.evidence.proofs.NormalTables.{normal_rows, normal_some}
use Rattle.evidence.specs.Taken.{MapOf}
use Rattle.subsumption.specs.Verdict.{map_of}

module _ (S : Signature) (p q : Table S) (up : ParentsFirst S p) (uq : ParentsFirst S q) (im : ℕ → ℕ) (h : IsHomomorphism S p q im) where
  pub image_least : (i : ℕ) → i < q.rows → ((k : ℕ) → k < i → im k ≡ image S p q k) → image S p q i ≤ im i
  image_least i l same = ⊎_elim (λ t. at_root (eqb→eq i 0 t)) (λ t. below (not_zero i t)) (decide (eqb i 0))
    where
      at_root : i ≡ 0 → image S p q i ≤ im i
      at_root e = subst (λ z. image S p q z ≤ im i) (sym e) (omega (arith, image_root S p q up uq (omega arith)))

      below : ¬ (i ≡ 0) → image S p q i ≤ im i
      below z =
          let u = image S p q (q.parent i) in
          let a = edge_agrees S p q i u (im i) in
          let m = row_maps_to S p q i (im i) in
          let agrees = subst (λ w. T (edge_agrees S p q i w (im i))) (same (q.parent i) (uq i l z)) (h.edges i l z) in
          let maps = row_maps_to_is S p q im h up q.rows p.rows i l (omega arith) in
          let none-lower : ¬ (im i < image S p q i) =
          λ lower. clash (a && m) (and_intro a m agrees maps) (image_lowest S p q up uq i (im i) l z (h.inside i l) lower) in
          omega (arith, none-lower)

module _ (limits : Limits) (first second e : List ℕ) (bounded : Bounded limits) (pair : Acceptable limits first second)
    (map : MapOf limits first second e) where
  abbrev p : Table picture_signature
  p = picture_table (normal_file limits first)

  abbrev q : Table picture_signature
  q = picture_table (normal_file limits second)

  parents : (s : List ℕ) → merged_count limits s ≤ limits.rows → ParentsFirst picture_signature (picture_table (normal_file limits s))
  parents s few = picture_parents limits (normal_file limits s) (normal_readable limits s few bounded)

  -- a map shows that the second's tree maps to the first's
  root_maps : T (row_maps_to picture_signature p q 0 0)
  root_maps =
      homomorphism_maps_to picture_signature p q (image_of e) map.maps (parents first pair.first_few) (normal_some limits second bounded pair.second_few)
      q.rows p.rows (omega arith)

  -- the images in our file are those of the definition
  map_images : (k : ℕ) → k < q.rows → image_of (map_of limits first second) k ≡ image picture_signature p q k
  unfolding map_of lowest_map
  map_images k l =
      let lowest = lowest_homomorphism picture_signature p q (parents first pair.first_few) (parents second pair.second_few)
      (normal_some limits first bounded pair.first_few) root_maps (normal_some limits second bounded pair.second_few) in
      map_file_image q.rows (image picture_signature p q) k l
      (omega (arith, lowest.inside k l, normal_rows limits first bounded pair.first_few, normal_count limits first, pair.first_few, bounded.0))

  pub map_least : (i : ℕ) → i < q.rows →
      ((k : ℕ) → k < i → image_of e k ≡ image_of (map_of limits first second) k) →
      image_of (map_of limits first second) i ≤ image_of e i
  map_least i l same =
      let least = image_least picture_signature p q (parents first pair.first_few) (parents second pair.second_few) (image_of e) map.maps i l
      (λ k b. same k b ∙ map_images k (omega arith)) in
      omega (arith, least, map_images i l)
