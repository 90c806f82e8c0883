-- Laws of sets of names, by membership.
--   none_has                                                     the empty set has no name
--   union_left, union_right, union_elim                          a union has the names of either
--   intersection_intro, intersection_left, intersection_right    an intersection has the names of both
--   complement_in, complement_out                                a complement has the names that the set lacks
use Prim.Native.Nat.{◌<◌, suc, zero, ℕ}
use lib.Dec.{T}
use mathlib.Core.Bool.{Bool, ◌&&◌, false, not, true}
use mathlib.Core.Logic.{◌⊎◌, inl, inr, ⊎_elim}
use mathlib.Core.Path.{◌≡◌, subst, sym}
use native.Mathlib.Nat.{eq-or-lt_of_le}
use native.Mathlib.Omega.{arith}
use Rattle.ale.specs.Signature.{Signature}
use Rattle.ale.proofs.Tests.{and_fails, and_intro, and_left, and_right, clash, decide, or_left, or_right, or_split}

module _ (S : Signature) where
  pub none_has : (n : ℕ) → T (S.has S.none n) → ⊥
  none_has n h = subst T (S.has_none n) h

  pub union_left : (a b : S.Names) (n : ℕ) → T (S.has a n) → T (S.has (S.union a b) n)
  union_left a b n h = subst T (sym (S.has_union a b n)) (or_left (S.has a n) (S.has b n) h)

  pub union_right : (a b : S.Names) (n : ℕ) → T (S.has b n) → T (S.has (S.union a b) n)
  union_right a b n h = subst T (sym (S.has_union a b n)) (or_right (S.has a n) (S.has b n) h)

  pub union_elim : (a b : S.Names) (P : Type 0) (n : ℕ) → T (S.has (S.union a b) n) → (T (S.has a n) → P) → (T (S.has b n) → P) → P
  union_elim a b P n h f g = ⊎_elim f g (or_split (S.has a n) (S.has b n) (subst T (S.has_union a b n) h))

  pub intersection_intro : (a b : S.Names) (n : ℕ) → T (S.has a n) → T (S.has b n) → T (S.has (S.intersection a b) n)
  intersection_intro a b n h g = subst T (sym (S.has_intersection a b n)) (and_intro (S.has a n) (S.has b n) h g)

  pub intersection_left : (a b : S.Names) (n : ℕ) → T (S.has (S.intersection a b) n) → T (S.has a n)
  intersection_left a b n h = and_left (S.has a n) (S.has b n) (subst T (S.has_intersection a b n) h)

  pub intersection_right : (a b : S.Names) (n : ℕ) → T (S.has (S.intersection a b) n) → T (S.has b n)
  intersection_right a b n h = and_right (S.has a n) (S.has b n) (subst T (S.has_intersection a b n) h)

  -- set b shows that n is a name of the signature
  pub complement_in : (a b : S.Names) (n : ℕ) → T (S.has b n) → T (not (S.has a n)) → T (S.has (S.complement a) n)
  complement_in a b n h g = subst T (sym (S.has_complement a n (S.has_below b n h))) g

  pub complement_out : (a : S.Names) (n : ℕ) → T (S.has (S.complement a) n) → T (S.has a n) → ⊥
  complement_out a n h g = clash (S.has a n) g (subst T (S.has_complement a n (S.has_below a n g)) h)

  -- the names below k, one by one
  missing_below : (a b : S.Names) (k : ℕ) → ((n : ℕ) × T (S.has a n) × T (not (S.has b n))) ⊎ ((n : ℕ) → n < k → T (S.has a n) → T (S.has b n))
  missing_below a b zero = inr (λ n l h. absurd (omega arith))
  missing_below a b (suc k) =
      ⊎_elim inl
      (λ f. ⊎_elim
      (λ p. inl (k, and_left (S.has a k) (not (S.has b k)) p, and_right (S.has a k) (not (S.has b k)) p))
      (λ p. inr (λ n l h. ⊎_elim (λ e. kept k p (subst (λ z. T (S.has a z)) e h) n e) (λ m. f n m h) (eq-or-lt_of_le {n = n} {m = k} (omega arith))))
      (decide (S.has a k && not (S.has b k))))
      (missing_below a b k)
    where
      kept : (k : ℕ) → T (not (S.has a k && not (S.has b k))) → T (S.has a k) → (n : ℕ) → n ≡ k → T (S.has b n)
      kept k p h n e =
          subst (λ z. T (S.has b z)) (sym e)
          (⊎_elim (λ x. absurd (clash (S.has a k) h x)) (λ x. double (S.has b k) x) (and_fails (S.has a k) (not (S.has b k)) p))
        where
          double : (b : Bool) → T (not (not b)) → T b
          double true t = tt
          double false t = t

  -- a set that is not within another has a name that the other lacks
  pub subset_fails : (a b : S.Names) → T (not (S.subset a b)) → (n : ℕ) × T (S.has a n) × T (not (S.has b n))
  subset_fails a b t =
      ⊎_elim (λ h. h) (λ h. absurd (clash (S.subset a b) (S.subset_intro a b (λ n p. h n (S.has_below a n p) p)) t)) (missing_below a b S.names)
