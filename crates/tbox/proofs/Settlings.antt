-- The rounds in which rings are looked for. A name that is settled uses such as were settled in the round before; what
-- is settled stays so, and after a round that adds no name none adds any.
--   settled_out, settled_in     a name is settled in round k + 1 exactly if it is defined and uses names of round k
--   settled_uses                so what a settled name uses was settled before
--   all_settled, settled_all    28 is answered yes exactly if every defined name is settled
--   wants_uses, uses_defined    a defined name that a row wants is used; what is used is defined
--   settled_on, settled_later   what is settled stays so
--   Stable, stable_later        a round that adds nothing; no later one adds any
use Prim.Native.Nat.{◌+◌, ◌<◌, suc, zero, ℕ}
use lib.Dec.{T}
use mathlib.Core.Bool.{◌&&◌, ◌||◌, not}
use mathlib.Core.Path.{◌≡◌, subst}
use native.Mathlib.Omega.{arith}
use Rattle.ale.specs.Rows.{member}
use Rattle.ale.specs.Signature.{Signature}
use Rattle.ale.proofs.RowLists.{filter_below_in, filter_below_out}
use Rattle.ale.proofs.Tests.{and_intro, and_left, and_right}
use Rattle.tbox.specs.Acyclic.{acyclic, settled, uses, uses_only}
use Rattle.tbox.specs.Definitions.{Definitions, wants_in}
use Rattle.tbox.proofs.RangeTests.{each_in, each_out, implied_in, implied_out, some_in}

module _ (S : Signature) (D : Definitions S) where
  abbrev Defined : ℕ → Type 0
  Defined n = T (S.has D.defined n)

  abbrev pub In : ℕ → ℕ → Type 0
  In k n = T (member n (settled S D k))

  pub settled_out : (k n : ℕ) → In (suc k) n → Defined n × T (uses_only S D (settled S D k) n)
  settled_out k n t =
      let d = S.has D.defined n in
      let u = uses_only S D (settled S D k) n in
      let h = (filter_below_out (λ n. S.has D.defined n && uses_only S D (settled S D k) n) S.names n t).0 in
      (and_left d u h, and_right d u h)

  pub settled_in : (k n : ℕ) → Defined n → ((m : ℕ) → T (uses S D n m) → In k m) → In (suc k) n
  settled_in k n d h =
      let s = settled S D k in
      filter_below_in (λ n. S.has D.defined n && uses_only S D s n) S.names n
      (and_intro (S.has D.defined n) (uses_only S D s n) d
      (each_in (λ m. not (uses S D n m) || member m s) S.names
      (λ m l. implied_in (uses S D n m) (member m s) (h m))))
      (S.has_below D.defined n d)

  pub uses_defined : (n m : ℕ) → T (uses S D n m) → Defined m
  uses_defined n m t = and_left (S.has D.defined m) (wants_in S (D.picture n) m) t

  pub settled_uses : (k n : ℕ) → In (suc k) n → (m : ℕ) → T (uses S D n m) → In k m
  settled_uses k n h m t =
      let s = settled S D k in
      implied_out (uses S D n m) (member m s)
      (each_out (λ m. not (uses S D n m) || member m s) S.names (settled_out k n h).1 m
      (S.has_below D.defined m (uses_defined n m t))) t

  pub all_settled : T (acyclic S D) → (n : ℕ) → Defined n → In S.names n
  all_settled r n d =
      let s = settled S D S.names in
      implied_out (S.has D.defined n) (member n s)
      (each_out (λ n. not (S.has D.defined n) || member n s) S.names r n (S.has_below D.defined n d)) d

  pub settled_all : ((n : ℕ) → Defined n → In S.names n) → T (acyclic S D)
  settled_all h =
      let s = settled S D S.names in
      each_in (λ n. not (S.has D.defined n) || member n s) S.names
      (λ n l. implied_in (S.has D.defined n) (member n s) (h n))

  pub wants_uses : (n k m : ℕ) → k < (D.picture n).rows → T (S.has ((D.picture n).label k).wanted m) → Defined m →
      T (uses S D n m)
  wants_uses n k m l h d =
      let q = D.picture n in
      and_intro (S.has D.defined m) (wants_in S q m) d (some_in (λ k. S.has (q.label k).wanted m) q.rows k l h)

  pub settled_on : (k n : ℕ) → In k n → In (suc k) n
  settled_on zero n t = absurd t
  settled_on (suc k) n t =
      settled_in (suc k) n (settled_out k n t).0 (λ m u. settled_on k m (settled_uses k n t m u))

  pub settled_later : (i k n : ℕ) → In k n → In (i + k) n
  settled_later zero k n t = subst (λ z. In z n) (let e : k ≡ 0 + k = omega arith in e) t
  settled_later (suc i) k n t =
      subst (λ z. In z n) (let e : suc (i + k) ≡ suc i + k = omega arith in e)
      (settled_on (i + k) n (settled_later i k n t))

  abbrev pub Stable : ℕ → Type 0
  Stable k = (n : ℕ) → In (suc k) n → In k n

  pub stable_later : (k : ℕ) → Stable k → (i n : ℕ) → In (i + k) n → In k n
  stable_later k st zero n t = subst (λ z. In z n) (let e : 0 + k ≡ k = omega arith in e) t
  stable_later k st (suc i) n t =
      let u = subst (λ z. In z n) (let e : suc i + k ≡ suc (i + k) = omega arith in e) t in
      st n (settled_in k n (settled_out (i + k) n u).0
      (λ m h. stable_later k st i m (settled_uses (i + k) n u m h)))
