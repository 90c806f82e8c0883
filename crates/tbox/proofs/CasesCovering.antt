-- What respects definitions, what negates or excludes no defined name, computed. Names 3, 4 and 5 are defined; the
-- picture of 3 wants 7, or asks nothing.
--   name_without      not an individual of which 3 holds, but not 7
--   fits_without      not one that fits the picture of 3, and 3 does not hold
--   negates_other     ¬7 negates no defined name
--   negates_defined   ∃8.¬3 negates one
--   excludes_below    27: a row below the root excludes 3
use Prim.Native.Nat.{ℕ}
use lib.Dec.{eqb}
use mathlib.Core.Bool.{Bool, false}
use mathlib.Core.List.{[], ◌∷◌}
use native.Mathlib.Omega.{arith}
use Rattle.table.specs.NameSet.{has}
use Rattle.ale.specs.Concept.{existential, negation}
use Rattle.ale.specs.Interpretation.{Interpretation, structure_of}
use Rattle.ale.specs.Tree.{exists}
use Rattle.ale.proofs.CasesTree.{Sig, excludes, none, three}
use Rattle.ale.proofs.Structures.{satisfies_empty_label}
use Rattle.tbox.specs.Theory.{ExcludesNone, Respects}
use Rattle.tbox.specs.Definitions.{Definitions, NegatesNone}
use Rattle.tbox.proofs.CasesBooks.{define, labelled, picture, plain, root, seven}

-- one individual, of which some names hold, and no pairs
abbrev single : (ℕ → Bool) → Interpretation Sig
single h = record {
  count = 1;
  inhabited = omega arith;
  holds = λ n x. h n;
  edge = λ r x y. false;
  respects = λ r s x y i e. e;
}

abbrev wants_seven : Definitions Sig
wants_seven = define (root seven ∷ []) plain plain

pub name_without : Respects Sig wants_seven (single (λ n. eqb n 3)) → ⊥
unfolding has
name_without r = ((r 3 tt 0 (omega arith)).0 tt).0.held 7 tt

pub fits_without : Respects Sig (define plain plain plain) (single (λ n. false)) → ⊥
unfolding has
fits_without r =
    (r 3 tt 0 (omega arith)).1 (satisfies_empty_label Sig (structure_of Sig (single (λ n. false))) 0, tt)

pub negates_other : NegatesNone Sig wants_seven (negation 7)
unfolding has
negates_other = tt

pub negates_defined : NegatesNone Sig wants_seven (existential 8 (negation 3)) → ⊥
unfolding has
negates_defined h = h

pub excludes_below :
    ExcludesNone Sig wants_seven (picture (root none ∷ labelled 0 exists 8 (excludes three) ∷ [])) → ⊥
unfolding has
excludes_below h = h 1 (omega arith) 3 tt tt
