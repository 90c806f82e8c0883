-- A homomorphism by rows exists exactly if `maps_to` passes, and then our map is one (003, Definition 39 and Theorem 41).
-- With a homomorphism by rows, each row's tree maps to its image's tree, by induction on the depth; and where the test passes, taking the
-- lowest possible image of each row, parents first, never fails.
--   homomorphism_exists    there is a homomorphism of two tables exactly if their trees map
--   lowest_whenever        our map is a homomorphism whenever there is one
--   encoded_homomorphism   there is one of the tables of two trees exactly if the trees map
--   subsumed_map           a picture is subsumed by another exactly if there is one of their normal tables
use Prim.Native.Nat.{◌<◌, ℕ}
use lib.Dec.{T}
use mathlib.Core.Logic.{◌↔◌}
use mathlib.Core.Path.{subst}
use native.Mathlib.Omega.{arith}
use Rattle.ale.specs.Countermodel.{encoded_inhabited}
use Rattle.ale.specs.Encoding.{encoded}
use Rattle.ale.specs.Homomorphism.{maps_to}
use Rattle.ale.specs.Interpretation.{Subsumed}
use Rattle.ale.specs.Normal.{normal_tree}
use Rattle.ale.specs.RowMap.{IsHomomorphism, image}
use Rattle.ale.specs.Signature.{Signature}
use Rattle.ale.specs.Table.{KnownRoles, ParentsFirst, Table, tree}
use Rattle.ale.specs.Tree.{Tree}
use Rattle.ale.proofs.Encodings.{encoded_back, encoded_parents_first}
use Rattle.ale.proofs.LowestMap.{lowest_homomorphism}
use Rattle.ale.proofs.RowMaps.{homomorphism_maps_to}
use Rattle.ale.proofs.Subsumption.{subsumption_homomorphism}

module _ (S : Signature) (p q : Table S) (up : ParentsFirst S p) (uq : ParentsFirst S q) (pp : 0 < p.rows) (pq : 0 < q.rows) where
  pub homomorphism_exists : ((im : ℕ → ℕ) × IsHomomorphism S p q im) ↔ T (maps_to S (tree S q q.rows) (tree S p p.rows))
  homomorphism_exists = (
    λ (im, h). homomorphism_maps_to S p q im h up pq q.rows p.rows (omega arith),
    λ t. (image S p q, lowest_homomorphism S p q up uq pp t pq),
  )

  pub lowest_whenever : (im : ℕ → ℕ) → IsHomomorphism S p q im → IsHomomorphism S p q (image S p q)
  lowest_whenever im h = lowest_homomorphism S p q up uq pp (homomorphism_exists.0 (im, h)) pq

module _ (S : Signature) where
  -- a homomorphism from the table of d to that of v
  abbrev Mapping : Tree S → Tree S → Type 0
  Mapping v d = (im : ℕ → ℕ) × IsHomomorphism S (encoded S v) (encoded S d) im

  pub encoded_homomorphism : (v d : Tree S) → ((im : ℕ → ℕ) × IsHomomorphism S (encoded S v) (encoded S d) im) ↔ T (maps_to S d v)
  encoded_homomorphism v d =
      let p = encoded S v in
      let q = encoded S d in
      subst (λ t. Mapping v d ↔ T (maps_to S d t)) (encoded_back S v)
      (subst (λ t. Mapping v d ↔ T (maps_to S t (tree S p p.rows))) (encoded_back S d)
      (homomorphism_exists S p q (encoded_parents_first S v) (encoded_parents_first S d) (encoded_inhabited S v) (encoded_inhabited S d)))

  pub subsumed_map : (p q : Table S) → KnownRoles S p → KnownRoles S q → (n m : ℕ) →
      Subsumed S (tree S p n) (tree S q m) ↔ ((im : ℕ → ℕ) × IsHomomorphism S (encoded S (normal_tree S p n)) (encoded S (normal_tree S q m)) im)
  subsumed_map p q kp kq n m =
      let (a, b) = subsumption_homomorphism S p q kp kq n m in
      let (c, d) = encoded_homomorphism (normal_tree S p n) (normal_tree S q m) in
      (λ s. d (a s), λ h. b (c h))
