-- Fitting, successor by successor.
--   FitsEdge               an element fits the restriction of one edge
--   restriction_map        a restriction is kept where what it asks of the ends is
--   fits_each, each_fits   it fits a forest exactly if it fits the restriction of each edge
--   satisfies_narrow       what satisfies a label satisfies one with no other names
--   satisfies_empty_label   every element satisfies the empty label
--   satisfies_union, satisfies_left, satisfies_right
--                          an element satisfies the union of two labels exactly if it satisfies both
--   in_all_subsumed         subsumption in all structures implies subsumption in the finite interpretations
--   subsumed_trans         subsumption is transitive
use Prim.Native.Nat.{ℕ}
use lib.Dec.{T}
use mathlib.Core.Bool.{◌||◌}
use mathlib.Core.Logic.{⊎_elim}
use Rattle.ale.specs.Interpretation.{Subsumed, structure_of}
use Rattle.ale.specs.Merged.{label_union}
use Rattle.ale.specs.Signature.{Signature}
use Rattle.ale.specs.Structure.{Fits, FitsAll, Restriction, Satisfies, Structure}
use Rattle.ale.specs.Theory.{SubsumedInAll}
use Rattle.ale.specs.Tree.{All, Forest, Kind, Label, Tree, cons, empty_label, exists, forAll, nil}
use Rattle.ale.proofs.NameLaws.{none_has, union_elim, union_left, union_right}
use Rattle.ale.proofs.Tests.{clash, or_left, or_right, or_split, refute}

module _ (S : Signature) (M : Structure S) where
  abbrev pub FitsEdge : M.Element → Kind → ℕ → Tree S → Type 0
  FitsEdge x k r t = Restriction S M k r (Fits S M t) x

  pub restriction_map : (k : Kind) (r : ℕ) (P Q : M.Element → Type 0) → ((y : M.Element) → P y → Q y) →
      (x : M.Element) → Restriction S M k r P x → Restriction S M k r Q x
  restriction_map exists r P Q h x (y, s, p) = (y, s, h y p)
  restriction_map forAll r P Q h x p = λ y s. h y (p y s)

  pub fits_each : (f : Forest S) (x : M.Element) → FitsAll S M f x → All S (FitsEdge x) f
  fits_each nil x h = tt
  fits_each (cons k r t f) x h = (h.0, fits_each f x h.1)

  pub each_fits : (f : Forest S) (x : M.Element) → All S (FitsEdge x) f → FitsAll S M f x
  each_fits nil x h = tt
  each_fits (cons k r t f) x h = (h.0, each_fits f x h.1)

  pub satisfies_narrow : (l u : Label S) (x : M.Element) → ((n : ℕ) → T (S.has l.wanted n) → T (S.has u.wanted n)) →
      ((n : ℕ) → T (S.has l.excluded n) → T (S.has u.excluded n)) → (T l.bottom → T u.bottom) → Satisfies S M u x → Satisfies S M l x
  satisfies_narrow l u x a b f c = record {
    held = λ n h. c.held n (a n h);
    free = λ n h. c.free n (b n h);
    possible = refute l.bottom (λ t. clash u.bottom (f t) c.possible);
  }

  pub satisfies_empty_label : (x : M.Element) → Satisfies S M (empty_label S) x
  satisfies_empty_label x = record { held = λ n h. absurd (none_has S n h); free = λ n h t. none_has S n h; possible = tt }

  pub satisfies_union : (l m : Label S) (x : M.Element) → Satisfies S M l x → Satisfies S M m x →
      Satisfies S M (label_union S l m) x
  satisfies_union l m x c d = record {
    held = λ n h. union_elim S l.wanted m.wanted (T (M.holds n x)) n h (c.held n) (d.held n);
    free = λ n h t. union_elim S l.excluded m.excluded ⊥ n h (λ a. c.free n a t) (λ a. d.free n a t);
    possible = refute (l.bottom || m.bottom) (λ t.
        ⊎_elim (λ a. clash l.bottom a c.possible) (λ a. clash m.bottom a d.possible)
        (or_split l.bottom m.bottom t));
  }

  pub satisfies_left : (l m : Label S) (x : M.Element) → Satisfies S M (label_union S l m) x → Satisfies S M l x
  satisfies_left l m x c =
      satisfies_narrow l (label_union S l m) x (union_left S l.wanted m.wanted)
      (union_left S l.excluded m.excluded) (or_left l.bottom m.bottom) c

  pub satisfies_right : (l m : Label S) (x : M.Element) → Satisfies S M (label_union S l m) x → Satisfies S M m x
  satisfies_right l m x c =
      satisfies_narrow m (label_union S l m) x (union_right S l.wanted m.wanted)
      (union_right S l.excluded m.excluded) (or_right l.bottom m.bottom) c

module _ (S : Signature) where
  pub in_all_subsumed : (t u : Tree S) → SubsumedInAll S t u → Subsumed S t u
  in_all_subsumed t u h I x b = h (structure_of S I) x

  pub subsumed_trans : (t u v : Tree S) → Subsumed S t u → Subsumed S u v → Subsumed S t v
  subsumed_trans t u v a b I x l f = b I x l (a I x l f)
