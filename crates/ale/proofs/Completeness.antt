-- Completeness, and with it 003, Theorem 41: a reduced tree d subsumes a saturated tree v exactly if d maps to v.
-- If d maps to v, whatever fits v fits d (Soundness). If not, the countermodel of d and v is a tree of individuals whose root fits v and not
-- d (Countermodels); its rows are a finite interpretation that is bisimilar to it (Individuals), so individual 0 refutes v ⊑ d.
--   fits_numbered, numbered_fits   individual 0 of a numbered tree of individuals fits what the tree fits, and no more
--   countermodel_refutes           if d does not map to v, individual 0 of the numbered countermodel fits v and not d
--   countermodel_count             it has at most (height of d + 1) * (size of v) individuals
--   subsumed_maps_to                completeness: if d subsumes v, it maps to v
--   subsumption                    d subsumes v exactly if it maps to v
use Prim.Native.Nat.{◌*◌, ◌≤◌, suc}
use lib.Dec.{T}
use lib.ListN.{length}
use mathlib.Core.Bool.{not}
use mathlib.Core.Logic.{◌↔◌, ⊎_elim}
use mathlib.Core.Path.{subst, sym}
use native.Mathlib.Omega.{arith}
use Rattle.ale.specs.Countermodel.{countermodel, encoded_inhabited, numbered}
use Rattle.ale.specs.Encoding.{encode, encoded}
use Rattle.ale.specs.Homomorphism.{maps_to}
use Rattle.ale.specs.Interpretation.{Subsumed, structure_of}
use Rattle.ale.specs.Theory.{Reduced, Saturated}
use Rattle.ale.specs.Signature.{Signature}
use Rattle.ale.specs.Structure.{Fits}
use Rattle.ale.specs.Tree.{Tree, exists, height, size}
use Rattle.ale.proofs.CountermodelSize.{countermodel_size}
use Rattle.ale.proofs.Countermodels.{countermodel_complete}
use Rattle.ale.proofs.Encodings.{encode_tree_length, encoded_back, encoded_parents_first}
use Rattle.ale.proofs.Individuals.{fits_numbered_table, numbered_table_fits}
use Rattle.ale.proofs.Soundness.{maps_to_sound}
use Rattle.ale.proofs.Structures.{in_all_subsumed}
use Rattle.ale.proofs.Tests.{decide}
use Rattle.ale.proofs.TreeStructure.{tree_structure}

module _ (S : Signature) where
  pub fits_numbered : (b t : Tree S) → Fits S (tree_structure S) t b → Fits S (structure_of S (numbered S b)) t 0
  fits_numbered b t f =
      fits_numbered_table S (encoded S b) (encoded_inhabited S b) (encoded_parents_first S b) t
      (subst (λ z. Fits S (tree_structure S) t z) (sym (encoded_back S b)) f)

  pub numbered_fits : (b t : Tree S) → Fits S (structure_of S (numbered S b)) t 0 → Fits S (tree_structure S) t b
  numbered_fits b t f =
      subst (λ z. Fits S (tree_structure S) t z) (encoded_back S b)
      (numbered_table_fits S (encoded S b) (encoded_inhabited S b) (encoded_parents_first S b) t f)

  pub countermodel_refutes : (d v : Tree S) → Reduced S d → Saturated S v → T (not (maps_to S d v)) →
      Fits S (structure_of S (numbered S (countermodel S d v))) v 0 × (Fits S (structure_of S (numbered S (countermodel S d v))) d 0 → ⊥)
  countermodel_refutes d v n w x =
      let b = countermodel S d v in
      let z = countermodel_complete S d v n w x in
      (fits_numbered b v z.0, λ f. z.1 (numbered_fits b d f))

  pub countermodel_count : (d v : Tree S) → length (encode S (countermodel S d v)) ≤ suc (height S d) * size S v
  countermodel_count d v = omega (arith, encode_tree_length S (countermodel S d v) 0 exists 0 0, countermodel_size S d v)

  pub subsumed_maps_to : (d v : Tree S) → Reduced S d → Saturated S v → Subsumed S v d → T (maps_to S d v)
  subsumed_maps_to d v n w c = ⊎_elim (λ t. t) (λ x. absurd (refuted x)) (decide (maps_to S d v))
    where
      refuted : T (not (maps_to S d v)) → ⊥
      refuted x =
          let b = countermodel S d v in
          let z = countermodel_refutes d v n w x in
          z.1 (c (numbered S b) 0 (encoded_inhabited S b) z.0)

  pub subsumption : (d v : Tree S) → Reduced S d → Saturated S v → Subsumed S v d ↔ T (maps_to S d v)
  subsumption d v n w = (subsumed_maps_to d v n w, λ t. in_all_subsumed S v d (maps_to_sound S d v t))
