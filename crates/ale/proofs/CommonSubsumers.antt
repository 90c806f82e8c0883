-- The product of two normal trees is the least common subsumer of their pictures (003, Definition 2 and Theorem 43).
-- It subsumes both because whatever fits one of two trees fits their product. It is the least because a tree that subsumes both, once
-- tidied, maps to both normal trees (completeness), so it maps to their product, so it subsumes that (soundness).
--   lcs_left, lcs_right     the product subsumes both
--   lcs_least               every tree of known roles that subsumes both subsumes the product
--   lcs_table_tree           the tree of its table, down to the depth of the two, is the product
--   lcs_table_known          its table has known roles
use Prim.Native.Nat.{◌<◌, ℕ}
use lib.Dec.{T}
use mathlib.Core.List.{[], ◌∷◌}
use mathlib.Core.Logic.{inl, inr}
use mathlib.Core.Path.{◌≡◌}
use Rattle.ale.specs.Homomorphism.{maps_to}
use Rattle.ale.specs.Interpretation.{Subsumed, structure_of}
use Rattle.ale.specs.Normal.{normal_tree, tidy}
use Rattle.ale.specs.Theory.{lcs, lcs_table}
use Rattle.ale.specs.Signature.{Signature}
use Rattle.ale.specs.Table.{KnownRoles, Table, tree}
use Rattle.ale.specs.Tree.{RolesKnown, Tree}
use Rattle.ale.proofs.Completeness.{subsumed_maps_to}
use Rattle.ale.proofs.Confined.{confined_height, confined_roles_known, lcs_confined}
use Rattle.ale.proofs.Encodings.{encoded_tree}
use Rattle.ale.proofs.Leastness.{maps_to_product, tidy_roles_known}
use Rattle.ale.proofs.Normalizing.{normal_of_saturated}
use Rattle.ale.proofs.Products.{fits_product}
use Rattle.ale.proofs.RoleLaws.{encoded_known}
use Rattle.ale.proofs.Soundness.{maps_to_sound}
use Rattle.ale.proofs.Subsumption.{normal_tree_is, tree_normal}
use Rattle.ale.proofs.Tidying.{fits_tidy, tidy_fits, tidy_reduced}

module _ (S : Signature) where
  pub lcs_left : (p q : Table S) (n m : ℕ) → Subsumed S (tree S p n) (lcs S p q n m)
  lcs_left p q n m I x l f =
      let M = structure_of S I in
      fits_product S M (normal_tree S p n) (normal_tree S q m) x (inl (tree_normal S p n M x f))

  pub lcs_right : (p q : Table S) (n m : ℕ) → Subsumed S (tree S q m) (lcs S p q n m)
  lcs_right p q n m I x l f =
      let M = structure_of S I in
      fits_product S M (normal_tree S p n) (normal_tree S q m) x (inr (tree_normal S q m M x f))

  -- a tree that subsumes a picture, once tidied, maps to the picture's normal tree
  tidy_maps_to : (p : Table S) → KnownRoles S p → (n : ℕ) (u : Tree S) → Subsumed S (tree S p n) u → T (maps_to S (tidy S u) (normal_tree S p n))
  tidy_maps_to p k n u c =
      subsumed_maps_to S (tidy S u) (normal_tree S p n) (tidy_reduced S u) (normal_of_saturated S p k n (0 ∷ []))
      (λ I x l f. fits_tidy S (structure_of S I) u x (c I x l (normal_tree_is S p k n (structure_of S I) x f)))

  pub lcs_least : (p q : Table S) → KnownRoles S p → KnownRoles S q → (n m : ℕ) (u : Tree S) → RolesKnown S u →
      Subsumed S (tree S p n) u → Subsumed S (tree S q m) u → Subsumed S (lcs S p q n m) u
  lcs_least p q kp kq n m u w a b I x l f =
      let t = tidy S u in
      let to-p = tidy_maps_to p kp n u a in
      let to-q = tidy_maps_to q kq m u b in
      let h = maps_to_product S t (normal_tree S p n) (normal_tree S q m) (tidy_reduced S u) (tidy_roles_known S u w) to-p to-q in
      tidy_fits S (structure_of S I) u x (maps_to_sound S t (lcs S p q n m) h (structure_of S I) x f)

  pub lcs_table_tree : (p q : Table S) (n : ℕ) → tree S (lcs_table S p q n) n ≡ lcs S p q n n
  lcs_table_tree p q n = let t = lcs S p q n n in encoded_tree S t n (confined_height S t n (lcs_confined S p q n))

  pub lcs_table_known : 0 < S.roles → (p q : Table S) (n : ℕ) → KnownRoles S (lcs_table S p q n)
  lcs_table_known z p q n = let t = lcs S p q n n in encoded_known S z t (confined_roles_known S t n (lcs_confined S p q n))
