-- Laws of the parts of the normal form: ⊤, trivial trees, and the all-successor of a role.
use Prim.Native.Nat.{ℕ}
use lib.Dec.{T, eqb}
use mathlib.Core.Path.{◌≡◌, refl}
use Rattle.ale.specs.Forest.{trivial}
use Rattle.ale.specs.Homomorphism.{maps_to}
use Rattle.ale.specs.Countermodel.{value_of}
use Rattle.ale.specs.Theory.{IfForAll, Saturated}
use Rattle.ale.specs.Signature.{Signature}
use Rattle.ale.specs.Tree.{All, Forest, Tree, cons, exists, forAll, nil, node, top}
use Rattle.ale.proofs.NameLaws.{none_has}
use Rattle.ale.proofs.Tests.{chosen}

module _ (S : Signature) where
  -- a tree is trivial exactly if it maps to ⊤
  pub trivial_maps_to : (d : Tree S) → trivial S d ≡ maps_to S d (top S)
  trivial_maps_to (node l nil) = refl
  trivial_maps_to (node l (cons k r t f)) = refl

  pub saturated_top : Saturated S (top S)
  saturated_top = (record { consistent = λ u n w e. none_has S n w; into_exists = tt; into_for_all = λ r. tt }, tt)

  -- `value_of` has every property that ⊤ and each all-successor of the role have
  pub value_of_elim {ℓ} : (P : Tree S → Type ℓ) (r : ℕ) (f : Forest S) → P (top S) → All S (IfForAll S (λ s b. T (eqb s r) → P b)) f →
      P (value_of S r f)
  value_of_elim P r nil p h = p
  value_of_elim P r (cons exists s t f) p h = value_of_elim P r f p h.1
  value_of_elim P r (cons forAll s t f) p h = chosen P (eqb s r) t (value_of S r f) h.0 (λ b. value_of_elim P r f p h.1)
