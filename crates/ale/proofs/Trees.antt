-- Laws of kinds, and of properties of every or of some successor.
--   same_kind_eq, same_kind_refl   `sameKind` decides equality of kinds
--   All-map                      a property of every successor implies what it implies of each
--   All-Any                      a property of every successor and one of some successor meet at that one
--   any_any, Any-any             `any` decides whether some successor passes a test
use Prim.Native.Nat.{ℕ}
use lib.Dec.{T}
use mathlib.Core.Bool.{Bool}
use mathlib.Core.Logic.{inl, inr, ⊎_elim}
use mathlib.Core.Path.{◌≡◌, refl}
use Rattle.ale.specs.Signature.{Signature}
use Rattle.ale.specs.Tree.{All, Any, Forest, Kind, Tree, any, cons, exists, forAll, nil, same_kind}
use Rattle.ale.proofs.Tests.{or_left, or_right, or_split}

pub same_kind_eq : (k j : Kind) → T (same_kind k j) → k ≡ j
same_kind_eq exists exists t = refl
same_kind_eq exists forAll t = absurd t
same_kind_eq forAll exists t = absurd t
same_kind_eq forAll forAll t = refl

pub same_kind_refl : (k : Kind) → T (same_kind k k)
same_kind_refl exists = tt
same_kind_refl forAll = tt

module _ (S : Signature) where
  pub All-map {ℓ κ} : (P : Kind → ℕ → Tree S → Type ℓ) (Q : Kind → ℕ → Tree S → Type κ) →
      ((k : Kind) (r : ℕ) (t : Tree S) → P k r t → Q k r t) → (f : Forest S) → All S P f → All S Q f
  All-map P Q h nil p = tt
  All-map P Q h (cons k r t f) p = (h k r t p.0, All-map P Q h f p.1)

  pub All-Any {ℓ} : (P : Kind → ℕ → Tree S → Type ℓ) (Q : Kind → ℕ → Tree S → Type 0) (C : Type 0) →
      ((k : Kind) (r : ℕ) (t : Tree S) → P k r t → Q k r t → C) → (f : Forest S) → All S P f → Any S Q f → C
  All-Any P Q C h nil p q = absurd q
  All-Any P Q C h (cons k r t f) p (inl q) = h k r t p.0 q
  All-Any P Q C h (cons k r t f) p (inr q) = All-Any P Q C h f p.1 q

  pub any_any : (p : Kind → ℕ → Tree S → Bool) (f : Forest S) → T (any S p f) → Any S (λ k r t. T (p k r t)) f
  any_any p nil h = h
  any_any p (cons k r t f) h = ⊎_elim (λ q. inl q) (λ q. inr (any_any p f q)) (or_split (p k r t) (any S p f) h)

  pub Any-any : (p : Kind → ℕ → Tree S → Bool) (f : Forest S) → Any S (λ k r t. T (p k r t)) f → T (any S p f)
  Any-any p nil h = h
  Any-any p (cons k r t f) (inl h) = or_left (p k r t) (any S p f) h
  Any-any p (cons k r t f) (inr h) = or_right (p k r t) (any S p f) (Any-any p f h)
