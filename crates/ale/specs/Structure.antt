-- 01, "What a picture means": when an individual fits a row, over individuals of any sort.
--   Structure       elements, the names that hold of each, and its edges by role; a pair of a role is a pair of every role including it
--   Restriction     some element reached by the role, or every one, has a property: the one place where fitting tells the kinds apart
--   Satisfies       every wanted name holds, no excluded one does, and the label is not ⊥
--   Fits            the label is satisfied, and so is each successor's restriction
use Rattle.std.specs.Prelude.{ℕ, T, Bool, not}
use Rattle.ale.specs.Signature.{Signature}
use Rattle.ale.specs.Tree.{Forest, Kind, Label, Tree, cons, exists, forAll, nil, node}

module _ (S : Signature) where
  pub record Structure : Type 1 where
    pub Element : Type 0
    pub holds : ℕ → Element → Bool
    pub edge : ℕ → Element → Element → Type 0
    pub respects : (r s : ℕ) (x y : Element) → T (S.subrole r s) → edge r x y → edge s x y

module _ (S : Signature) (M : Structure S) where
  abbrev pub Restriction : Kind → ℕ → (M.Element → Type 0) → M.Element → Type 0
  Restriction exists r P x = (y : M.Element) × M.edge r x y × P y
  Restriction forAll r P x = (y : M.Element) → M.edge r x y → P y

  pub record Satisfies (l : Label S) (x : M.Element) : Type 0 where
    pub held : (n : ℕ) → T (S.has l.wanted n) → T (M.holds n x)
    pub free : (n : ℕ) → T (S.has l.excluded n) → T (M.holds n x) → ⊥
    pub possible : T (not l.bottom)

  abbrev mutual
    pub Fits : Tree S → M.Element → Type 0
    Fits (node l f) x = Satisfies l x × FitsAll f x

    pub FitsAll : Forest S → M.Element → Type 0
    FitsAll nil x = Unit
    FitsAll (cons k r t f) x = Restriction k r (λ y. Fits t y) x × FitsAll f x
