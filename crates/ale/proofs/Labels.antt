-- Labels within labels: by their names.
--   within_intro                                       a label is within another that has its names, if it is not ⊥
--   within_wanted, within_excluded, within_possible    what it says
--   within_intersection, within_trans
use Prim.Native.Nat.{ℕ}
use lib.Dec.{T}
use mathlib.Core.Bool.{◌&&◌, not}
use Rattle.ale.specs.Homomorphism.{label_within}
use Rattle.ale.specs.Product.{label_intersection}
use Rattle.ale.specs.Signature.{Signature}
use Rattle.ale.specs.Tree.{Label}
use Rattle.ale.proofs.NameLaws.{intersection_intro}
use Rattle.ale.proofs.Tests.{and_intro, and_left, and_right}

module _ (S : Signature) where
  -- a label within another, by its three parts
  pub within_intro : (l m : Label S) → ((n : ℕ) → T (S.has l.wanted n) → T (S.has m.wanted n)) →
      ((n : ℕ) → T (S.has l.excluded n) → T (S.has m.excluded n)) → T (not l.bottom) → T (label_within S l m)
  within_intro l m p q u =
      let b = S.subset l.excluded m.excluded in
      and_intro (S.subset l.wanted m.wanted) (b && not l.bottom) (S.subset_intro l.wanted m.wanted p)
      (and_intro b (not l.bottom) (S.subset_intro l.excluded m.excluded q) u)

  module _ (l m : Label S) (h : T (label_within S l m)) where
    pub within_wanted : (n : ℕ) → T (S.has l.wanted n) → T (S.has m.wanted n)
    within_wanted =
        S.subset_has l.wanted m.wanted (and_left (S.subset l.wanted m.wanted) (S.subset l.excluded m.excluded && not l.bottom) h)

    within_rest : T (S.subset l.excluded m.excluded && not l.bottom)
    within_rest = and_right (S.subset l.wanted m.wanted) (S.subset l.excluded m.excluded && not l.bottom) h

    pub within_excluded : (n : ℕ) → T (S.has l.excluded n) → T (S.has m.excluded n)
    within_excluded = S.subset_has l.excluded m.excluded (and_left (S.subset l.excluded m.excluded) (not l.bottom) within_rest)

    pub within_possible : T (not l.bottom)
    within_possible = and_right (S.subset l.excluded m.excluded) (not l.bottom) within_rest

  pub within_intersection : (a l m : Label S) → T (label_within S a l) → T (label_within S a m) → T (label_within S a (label_intersection S l m))
  within_intersection a l m p q =
      within_intro a (label_intersection S l m)
      (λ n h. intersection_intro S l.wanted m.wanted n (within_wanted a l p n h) (within_wanted a m q n h))
      (λ n h. intersection_intro S l.excluded m.excluded n (within_excluded a l p n h) (within_excluded a m q n h))
      (within_possible a l p)

  pub within_trans : (a l m : Label S) → T (label_within S a l) → T (label_within S l m) → T (label_within S a m)
  within_trans a l m p q =
      within_intro a m (λ n h. within_wanted l m q n (within_wanted a l p n h)) (λ n h. within_excluded l m q n (within_excluded a l p n h))
      (within_possible a l p)
