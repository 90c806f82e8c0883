-- Soundness: if d maps to v, whatever fits v fits d, in every structure (003, Theorem 41, the if-direction).
-- By induction on d. Nothing fits a v whose root is ⊥. Otherwise v's root label contains d's, and each edge of d is served by an
-- edge of v: of the same kind, of a role that serves, to an end to which d's end maps; so v's restriction implies d's.
use Prim.Native.Nat.{ℕ}
use lib.Dec.{T, eqb→eq}
use mathlib.Core.Bool.{Bool, ◌&&◌}
use mathlib.Core.Logic.{⊎_elim}
use mathlib.Core.Path.{subst, sym}
use Rattle.ale.specs.Homomorphism.{edge_serves, label_within, maps_all_to, maps_to, role_serves}
use Rattle.ale.specs.Signature.{Signature}
use Rattle.ale.specs.Structure.{Fits, FitsAll, Restriction, Satisfies, Structure}
use Rattle.ale.specs.Theory.{SubsumedInAll}
use Rattle.ale.specs.Tree.{Forest, Kind, Label, Tree, any, cons, exists, forAll, nil, node, same_kind}
use Rattle.ale.proofs.Labels.{within_excluded, within_possible, within_wanted}
use Rattle.ale.proofs.Structures.{FitsEdge, fits_each, satisfies_narrow}
use Rattle.ale.proofs.Tests.{and_left, and_right, clash, or_split}
use Rattle.ale.proofs.Trees.{All-Any, any_any}

module _ (S : Signature) (M : Structure S) where
  -- what satisfies a label satisfies every label within it
  pub satisfies_within : (l m : Label S) → T (label_within S l m) → (x : M.Element) → Satisfies S M m x → Satisfies S M l x
  satisfies_within l m h x c =
      satisfies_narrow S M l m x (within_wanted S l m h) (within_excluded S l m h) (λ t. absurd (clash l.bottom t (within_possible S l m h))) c

  -- the restriction of an edge implies that of an edge it serves for, where its end's property implies the other's
  pub restriction_along : (k k' : Kind) (r r' : ℕ) (P Q : M.Element → Type 0) → T (same_kind k k') → T (role_serves S k r' r) →
      ((y : M.Element) → P y → Q y) → (x : M.Element) → Restriction S M k' r' P x → Restriction S M k r Q x
  restriction_along exists exists r r' P Q e i h x (y, s, p) = (y, M.respects r' r x y i s, h y p)
  restriction_along exists forAll r r' P Q e i h x p = absurd e
  restriction_along forAll exists r r' P Q e i h x p = absurd e
  restriction_along forAll forAll r r' P Q e i h x p = λ y s. h y (p y (subst (λ (q : ℕ). M.edge q x y) (sym (eqb→eq r' r i)) s))

  mutual
    pub maps_to_fits : (d v : Tree S) → T (maps_to S d v) → (x : M.Element) → Fits S M v x → Fits S M d x
    maps_to_fits (node l f) (node m g) h x fit =
        let a = label_within S l m in
        let b = maps_all_to S f g in
        ⊎_elim
        (λ k. absurd (clash m.bottom k fit.0.possible))
        (λ k. (satisfies_within l m (and_left a b k) x fit.0, maps_all_to_fits f g (and_right a b k) x fit.1))
        (or_split m.bottom (a && b) h)

    pub maps_all_to_fits : (f g : Forest S) → T (maps_all_to S f g) → (x : M.Element) → FitsAll S M g x → FitsAll S M f x
    maps_all_to_fits nil g h x fit = tt
    maps_all_to_fits (cons k r d f) g h x fit =
        let q : Kind → ℕ → Tree S → Bool = edge_serves S k r (λ c. maps_to S d c) in (
          All-Any S (FitsEdge S M x) (λ k' r' c. T (q k' r' c)) (Restriction S M k r (λ y. Fits S M d y) x)
              (λ k' r' c p t.
              let a = same_kind k k' in
              let b = role_serves S k r' r in
              let m = maps_to S d c in
              let u = and_right a (b && m) t in
              restriction_along k k' r r' (λ y. Fits S M c y) (λ y. Fits S M d y) (and_left a (b && m) t) (and_left b m u)
              (λ y w. maps_to_fits d c (and_right b m u) y w) x p)
              g (fits_each S M g x fit) (any_any S q g (and_left (any S q g) (maps_all_to S f g) h)),
          maps_all_to_fits f g (and_right (any S q g) (maps_all_to S f g) h) x fit,
        )

module _ (S : Signature) where
  pub maps_to_sound : (d v : Tree S) → T (maps_to S d v) → SubsumedInAll S v d
  maps_to_sound d v h M x fit = maps_to_fits S M d v h x fit
