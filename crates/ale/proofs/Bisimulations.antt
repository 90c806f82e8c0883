-- Bisimilar elements fit the same trees, by induction on the tree: an existential restriction goes over by `forth`, a value restriction by `back`.
--   Bisimulation                         related elements agree on names, and each edge of one is matched by an edge of the other
--   converse                             a bisimulation read the other way
--   bisimilar_fits, bisimilar_fits_all   what an element fits, a related one fits
use Prim.Native.Nat.{ℕ}
use lib.Dec.{T}
use mathlib.Core.Path.{◌≡◌, subst, sym}
use Rattle.ale.specs.Signature.{Signature}
use Rattle.ale.specs.Structure.{Fits, FitsAll, Restriction, Structure}
use Rattle.ale.specs.Tree.{Forest, Kind, Tree, cons, exists, forAll, nil, node}

module _ (S : Signature) where
  pub record Bisimulation (M N : Structure S) : Type 1 where
    pub Related : M.Element → N.Element → Type 0
    pub atoms : (x : M.Element) (y : N.Element) → Related x y → (n : ℕ) → M.holds n x ≡ N.holds n y
    pub forth : (x : M.Element) (y : N.Element) → Related x y →
        (r : ℕ) (x' : M.Element) → M.edge r x x' → (y' : N.Element) × N.edge r y y' × Related x' y'
    pub back : (x : M.Element) (y : N.Element) → Related x y →
        (r : ℕ) (y' : N.Element) → N.edge r y y' → (x' : M.Element) × M.edge r x x' × Related x' y'

  abbrev pub converse : (M N : Structure S) → Bisimulation M N → Bisimulation N M
  converse M N B = record {
    Related = λ y x. B.Related x y;
    atoms = λ y x z n. sym (B.atoms x y z n);
    forth = λ y x z. B.back x y z;
    back = λ y x z. B.forth x y z;
  }

module _ (S : Signature) (M N : Structure S) (B : Bisimulation S M N) where
  bisimilar_restriction : (k : Kind) (r : ℕ) (P : M.Element → Type 0) (Q : N.Element → Type 0) →
      ((x : M.Element) (y : N.Element) → B.Related x y → P x → Q y) →
      (x : M.Element) (y : N.Element) → B.Related x y → Restriction S M k r P x → Restriction S N k r Q y
  bisimilar_restriction exists r P Q h x y z (x', s, p) = let (y', s', z') = B.forth x y z r x' s in (y', s', h x' y' z' p)
  bisimilar_restriction forAll r P Q h x y z p = λ y' s. let (x', s', z') = B.back x y z r y' s in h x' y' z' (p x' s')

  mutual
    pub bisimilar_fits : (t : Tree S) (x : M.Element) (y : N.Element) → B.Related x y → Fits S M t x → Fits S N t y
    bisimilar_fits (node l f) x y z p = (
      record {
        held = λ n w. subst T (B.atoms x y z n) (p.0.held n w);
        free = λ n e h. p.0.free n e (subst T (sym (B.atoms x y z n)) h);
        possible = p.0.possible;
      },
      bisimilar_fits_all f x y z p.1,
    )

    pub bisimilar_fits_all : (f : Forest S) (x : M.Element) (y : N.Element) → B.Related x y → FitsAll S M f x → FitsAll S N f y
    bisimilar_fits_all nil x y z p = tt
    bisimilar_fits_all (cons k r t f) x y z p =
        let h : (q : M.Element) (q' : N.Element) → B.Related q q' → Fits S M t q → Fits S N t q' = λ q q' z' p'. bisimilar_fits t q q' z' p' in
        (bisimilar_restriction k r (λ q. Fits S M t q) (λ q. Fits S N t q) h x y z p.0, bisimilar_fits_all f x y z p.1)
