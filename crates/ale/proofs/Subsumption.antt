-- One picture is subsumed by another exactly if the other's normal tree maps to its own (003, Theorem 41). Each normal tree is
-- equivalent to its picture's tree, so the question is one about normal trees. There a homomorphism is sound for any trees; and where
-- there is none, the countermodel refutes subsumption, because the normal tree of p is saturated and that of q is reduced.
--   tree_normal, normal_tree_is       whatever fits the picture's tree fits the normal tree, and the reverse, in every structure
--   normal_equivalent              so the two are equivalent
--   normal_tree_normal              the normal tree is normal
--   subsumption_homomorphism       p ⊑ q exactly if the normal tree of q maps to that of p
--   subsumed_decidable             so subsumption is decidable
--   subsumed_in_all                 subsumption over finite interpretations is subsumption over all structures
--   not_subsumed                   if it does not map, individual 0 of the numbered countermodel fits p's tree and not q's
use Prim.Native.Nat.{ℕ}
use lib.Dec.{T}
use mathlib.Core.Bool.{not}
use mathlib.Core.List.{[], ◌∷◌}
use mathlib.Core.Logic.{◌↔◌, ⊎_elim}
use Rattle.ale.specs.Countermodel.{countermodel, numbered}
use Rattle.ale.specs.Homomorphism.{maps_to}
use Rattle.ale.specs.Interpretation.{Equivalent, Subsumed, structure_of}
use Rattle.ale.specs.Merged.{merged}
use Rattle.ale.specs.Normal.{normal_tree}
use Rattle.ale.specs.Theory.{Normal, SubsumedInAll}
use Rattle.ale.specs.Signature.{Signature}
use Rattle.ale.specs.Structure.{Fits}
use Rattle.ale.specs.Table.{KnownRoles, Table, tree, tree_of}
use Rattle.ale.specs.Tree.{Tree}
use Rattle.ale.proofs.Completeness.{countermodel_refutes, subsumed_maps_to}
use Rattle.ale.proofs.NormalBottoms.{tidy_canonical}
use Rattle.ale.proofs.Normalizing.{fits_normal_of, normal_of_fits, normal_of_saturated}
use Rattle.ale.proofs.Orderings.{merged_ordered, tidy_ordered}
use Rattle.ale.proofs.RowLists.{member_cons, member_head}
use Rattle.ale.proofs.Soundness.{maps_to_sound}
use Rattle.ale.proofs.Structures.{in_all_subsumed}
use Rattle.ale.proofs.Tests.{clash, decide}
use Rattle.ale.proofs.Tidying.{tidy_reduced}

module _ (S : Signature) where
  pub tree_normal : (p : Table S) (n : ℕ) → SubsumedInAll S (tree S p n) (normal_tree S p n)
  tree_normal p n M x f = fits_normal_of S p M n (0 ∷ []) x (member_cons (λ i. Fits S M (tree_of S p n i) x) 0 [] f (λ i m. absurd m))

  pub normal_tree_is : (p : Table S) → KnownRoles S p → (n : ℕ) → SubsumedInAll S (normal_tree S p n) (tree S p n)
  normal_tree_is p k n M x f = normal_of_fits S p k M n (0 ∷ []) x f 0 (member_head 0 [])

  pub normal_equivalent : (p : Table S) → KnownRoles S p → (n : ℕ) → Equivalent S (tree S p n) (normal_tree S p n)
  normal_equivalent p k n =
      let t = tree S p n in
      let v = normal_tree S p n in
      (in_all_subsumed S t v (tree_normal p n), in_all_subsumed S v t (normal_tree_is p k n))

  pub normal_tree_normal : (p : Table S) → KnownRoles S p → (n : ℕ) → Normal S (normal_tree S p n)
  normal_tree_normal p k n = record {
    saturated = normal_of_saturated S p k n (0 ∷ []);
    reduced = tidy_reduced S (merged S p n (0 ∷ []));
    canonical_bottom = tidy_canonical S (merged S p n (0 ∷ []));
    ordered = tidy_ordered S (merged S p n (0 ∷ [])) (merged_ordered S p n (0 ∷ []));
  }

module _ (S : Signature) (p q : Table S) (kp : KnownRoles S p) (kq : KnownRoles S q) (n m : ℕ) where
  -- the normal trees of p and of q
  abbrev v : Tree S
  v = normal_tree S p n

  abbrev d : Tree S
  d = normal_tree S q m

  maps_to_in_all : T (maps_to S d v) → SubsumedInAll S (tree S p n) (tree S q m)
  maps_to_in_all t M x f = normal_tree_is S q kq m M x (maps_to_sound S d v t M x (tree_normal S p n M x f))

  subsumed_normal : Subsumed S (tree S p n) (tree S q m) → T (maps_to S d v)
  subsumed_normal c =
      subsumed_maps_to S d v (normal_tree_normal S q kq m).reduced (normal_tree_normal S p kp n).saturated
      (λ I x l f. tree_normal S q m (structure_of S I) x (c I x l (normal_tree_is S p kp n (structure_of S I) x f)))

  pub subsumption_homomorphism : Subsumed S (tree S p n) (tree S q m) ↔ T (maps_to S (normal_tree S q m) (normal_tree S p n))
  subsumption_homomorphism = (subsumed_normal, λ t. in_all_subsumed S (tree S p n) (tree S q m) (maps_to_in_all t))

  pub subsumed_decidable : Dec (Subsumed S (tree S p n) (tree S q m))
  subsumed_decidable =
      let test = maps_to S d v in
      ⊎_elim (λ t. yes (subsumption_homomorphism.1 t)) (λ t. no (λ c. clash test (subsumed_normal c) t)) (decide test)

  pub subsumed_in_all : Subsumed S (tree S p n) (tree S q m) ↔ SubsumedInAll S (tree S p n) (tree S q m)
  subsumed_in_all = (λ c. maps_to_in_all (subsumed_normal c), in_all_subsumed S (tree S p n) (tree S q m))

  pub not_subsumed : T (not (maps_to S (normal_tree S q m) (normal_tree S p n))) →
      let I = structure_of S (numbered S (countermodel S (normal_tree S q m) (normal_tree S p n))) in
      Fits S I (tree S p n) 0 × (Fits S I (tree S q m) 0 → ⊥)
  not_subsumed t =
      let I = structure_of S (numbered S (countermodel S d v)) in
      let (a, b) = countermodel_refutes S d v (normal_tree_normal S q kq m).reduced (normal_tree_normal S p kp n).saturated t in
      (normal_tree_is S p kp n I 0 a, λ f. b (tree_normal S q m I 0 f))
