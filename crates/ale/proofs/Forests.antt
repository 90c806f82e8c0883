-- Laws of forests put together: what is true of every or of some successor, and what fits them.
--   All-append, All-append-left, All-append-right     true of every successor of an appended forest: of both its parts
--   Any-append-left, Any-append-right                 true of some successor of a part: of one of the whole
--   All-byRole-below, All-byRole, All-byRole-at       true of every successor by role: of those of each role
--   Any-byRole                                        true of some successor of one role: of one of the whole
--   All-consReduced                                   true of a successor and of every later one
--   Any-consReduced, Any-consReduced-later            true of a successor that is not dropped, or of a later one
--   reduced_append, reduced_by_role                    reduced forests put together are reduced
--   reduced_cons_reduced                               a forest stays reduced
--   trivial_fits                                      everything fits a trivial tree
--   fits_cons_reduced, cons_reduced_fits                so dropping a trivial all-successor keeps the meaning
use Prim.Native.Nat.{◌<◌, suc, zero, ℕ}
use lib.Dec.{T}
use mathlib.Core.Bool.{false, not, true}
use mathlib.Core.Logic.{inl, inr, ⊎_elim}
use mathlib.Core.Path.{subst, sym}
use native.Mathlib.Nat.{eq-or-lt_of_le}
use native.Mathlib.Omega.{arith}
use Rattle.ale.specs.Forest.{append, by_role, cons_reduced, dropped, trivial}
use Rattle.ale.specs.Homomorphism.{label_within}
use Rattle.ale.specs.Theory.{Reduced, ReducedAll}
use Rattle.ale.specs.Signature.{Signature}
use Rattle.ale.specs.Structure.{Fits, FitsAll, Restriction, Structure}
use Rattle.ale.specs.Tree.{All, Any, Forest, Kind, Tree, cons, empty_label, exists, forAll, nil, node}
use Rattle.ale.proofs.Soundness.{satisfies_within}
use Rattle.ale.proofs.Structures.{satisfies_empty_label}
use Rattle.ale.proofs.Tests.{and_left, and_right, chosen, clash}

module _ (S : Signature) where
  pub All-append {ℓ} : (P : Kind → ℕ → Tree S → Type ℓ) (f g : Forest S) → All S P f → All S P g → All S P (append S f g)
  All-append P nil g p q = q
  All-append P (cons k r t f) g p q = (p.0, All-append P f g p.1 q)

  pub All-append-left {ℓ} : (P : Kind → ℕ → Tree S → Type ℓ) (f g : Forest S) → All S P (append S f g) → All S P f
  All-append-left P nil g h = tt
  All-append-left P (cons k r t f) g h = (h.0, All-append-left P f g h.1)

  pub All-append-right {ℓ} : (P : Kind → ℕ → Tree S → Type ℓ) (f g : Forest S) → All S P (append S f g) → All S P g
  All-append-right P nil g h = h
  All-append-right P (cons k r t f) g h = All-append-right P f g h.1

  pub Any-append-left : (P : Kind → ℕ → Tree S → Type 0) (f g : Forest S) → Any S P f → Any S P (append S f g)
  Any-append-left P nil g p = absurd p
  Any-append-left P (cons k r t f) g (inl p) = inl p
  Any-append-left P (cons k r t f) g (inr p) = inr (Any-append-left P f g p)

  pub Any-append-right : (P : Kind → ℕ → Tree S → Type 0) (f g : Forest S) → Any S P g → Any S P (append S f g)
  Any-append-right P nil g p = p
  Any-append-right P (cons k r t f) g p = inr (Any-append-right P f g p)

  pub All-byRole-below {ℓ} : (P : Kind → ℕ → Tree S → Type ℓ) (h : ℕ → Forest S) (n : ℕ) → ((r : ℕ) → r < n → All S P (h r)) →
      All S P (by_role S h n)
  All-byRole-below P h zero p = tt
  All-byRole-below P h (suc n) p =
      All-append P (by_role S h n) (h n) (All-byRole-below P h n (λ r l. p r (omega arith))) (p n (omega arith))

  pub All-byRole {ℓ} : (P : Kind → ℕ → Tree S → Type ℓ) (h : ℕ → Forest S) → ((r : ℕ) → All S P (h r)) → (n : ℕ) → All S P (by_role S h n)
  All-byRole P h p n = All-byRole-below P h n (λ r l. p r)

  pub All-byRole-at {ℓ} : (P : Kind → ℕ → Tree S → Type ℓ) (h : ℕ → Forest S) (n r : ℕ) → r < n → All S P (by_role S h n) → All S P (h r)
  All-byRole-at P h zero r l a = absurd (omega arith)
  All-byRole-at P h (suc n) r l a =
      ⊎_elim
      (λ e. subst (λ q. All S P (h q)) (sym e) (All-append-right P (by_role S h n) (h n) a))
      (λ b. All-byRole-at P h n r b (All-append-left P (by_role S h n) (h n) a))
      (eq-or-lt_of_le {n = r} {m = n} (omega arith))

  pub Any-byRole : (P : Kind → ℕ → Tree S → Type 0) (h : ℕ → Forest S) (r n : ℕ) → r < n → Any S P (h r) → Any S P (by_role S h n)
  Any-byRole P h r zero l p = absurd (omega arith)
  Any-byRole P h r (suc n) l p =
      ⊎_elim
      (λ e. Any-append-right P (by_role S h n) (h n) (subst (λ q. Any S P (h q)) e p))
      (λ b. Any-append-left P (by_role S h n) (h n) (Any-byRole P h r n b p))
      (eq-or-lt_of_le {n = r} {m = n} (omega arith))

  pub All-consReduced {ℓ} : (P : Kind → ℕ → Tree S → Type ℓ) (k : Kind) (r : ℕ) (t : Tree S) (f : Forest S) → P k r t → All S P f →
      All S P (cons_reduced S k r t f)
  All-consReduced P k r t f p q = chosen (λ g. All S P g) (dropped S k t) f (cons k r t f) (λ b. q) (λ b. (p, q))

  pub Any-consReduced : (P : Kind → ℕ → Tree S → Type 0) (k : Kind) (r : ℕ) (t : Tree S) (f : Forest S) → T (not (dropped S k t)) → P k r t →
      Any S P (cons_reduced S k r t f)
  Any-consReduced P k r t f u p =
      chosen (λ g. Any S P g) (dropped S k t) f (cons k r t f) (λ b. absurd (clash (dropped S k t) b u)) (λ b. inl p)

  pub Any-consReduced-later : (P : Kind → ℕ → Tree S → Type 0) (k : Kind) (r : ℕ) (t : Tree S) (f : Forest S) → Any S P f →
      Any S P (cons_reduced S k r t f)
  Any-consReduced-later P k r t f p = chosen (λ g. Any S P g) (dropped S k t) f (cons k r t f) (λ b. p) (λ b. inr p)

  pub reduced_append : (f g : Forest S) → ReducedAll S f → ReducedAll S g → ReducedAll S (append S f g)
  reduced_append nil g a b = b
  reduced_append (cons k r t f) g a b = (a.0, a.1, reduced_append f g a.2 b)

  pub reduced_by_role : (h : ℕ → Forest S) → ((r : ℕ) → ReducedAll S (h r)) → (n : ℕ) → ReducedAll S (by_role S h n)
  reduced_by_role h a zero = tt
  reduced_by_role h a (suc n) = reduced_append (by_role S h n) (h n) (reduced_by_role h a n) (a n)

  pub reduced_cons_reduced : (k : Kind) (r : ℕ) (t : Tree S) (f : Forest S) → Reduced S t → ReducedAll S f → ReducedAll S (cons_reduced S k r t f)
  reduced_cons_reduced k r t f p q = chosen (λ g. ReducedAll S g) (dropped S k t) f (cons k r t f) (λ b. q) (λ b. (b, p, q))

module _ (S : Signature) (M : Structure S) where
  pub trivial_fits : (t : Tree S) → T (trivial S t) → (x : M.Element) → Fits S M t x
  trivial_fits (node l nil) b x =
      (satisfies_within S M l (empty_label S) (and_left (label_within S l (empty_label S)) true b) x (satisfies_empty_label S M x), tt)
  trivial_fits (node l (cons k r t f)) b x = absurd (and_right (label_within S l (empty_label S)) false b)

  pub fits_cons_reduced : (k : Kind) (r : ℕ) (t : Tree S) (f : Forest S) (x : M.Element) → Restriction S M k r (λ y. Fits S M t y) x → FitsAll S M f x →
      FitsAll S M (cons_reduced S k r t f) x
  fits_cons_reduced k r t f x p q = chosen (λ g. FitsAll S M g x) (dropped S k t) f (cons k r t f) (λ b. q) (λ b. (p, q))

  -- what is dropped says nothing
  dropped_restriction : (k : Kind) (r : ℕ) (t : Tree S) → T (dropped S k t) → (x : M.Element) → Restriction S M k r (λ y. Fits S M t y) x
  dropped_restriction exists r t b x = absurd b
  dropped_restriction forAll r t b x = λ y e. trivial_fits t b y

  pub cons_reduced_fits : (k : Kind) (r : ℕ) (t : Tree S) (f : Forest S) (x : M.Element) → FitsAll S M (cons_reduced S k r t f) x →
      Restriction S M k r (λ y. Fits S M t y) x × FitsAll S M f x
  cons_reduced_fits k r t f x p =
      chosen (λ g. FitsAll S M g x → Restriction S M k r (λ y. Fits S M t y) x × FitsAll S M f x) (dropped S k t) f (cons k r t f)
      (λ b q. (dropped_restriction k r t b x, q)) (λ b q. q) p
