-- Boolean tests read as propositions: `T a` says that test a passes, `T (not a)` that it fails.
--   and_intro, and_left, and_right             a conjunction passes exactly if both tests do
--   or_left, or_right, or_split                a disjunction passes exactly if one of them does
--   and_fails, or_fails_left, or_fails_right   a conjunction fails: one does; a disjunction fails: both do
--   decide, clash, refute                      a test passes or fails; not both; it fails if it cannot pass
--   chosen, chosen_first                       a property of what `pick` picks: by cases; where the test passes
use lib.Dec.{T}
use mathlib.Core.Bool.{Bool, ◌&&◌, ◌||◌, false, not, true}
use mathlib.Core.Logic.{◌⊎◌, inl, inr}
use Rattle.table.specs.Pick.{pick}

pub and_intro : (a b : Bool) → T a → T b → T (a && b)
and_intro true true p q = tt
and_intro true false p q = q
and_intro false true p q = p
and_intro false false p q = p

pub and_left : (a b : Bool) → T (a && b) → T a
and_left true b p = tt
and_left false b p = p

pub and_right : (a b : Bool) → T (a && b) → T b
and_right true b p = p
and_right false b p = absurd p

pub or_left : (a b : Bool) → T a → T (a || b)
or_left true b p = tt
or_left false b p = absurd p

pub or_right : (a b : Bool) → T b → T (a || b)
or_right true b p = tt
or_right false b p = p

pub or_split : (a b : Bool) → T (a || b) → T a ⊎ T b
or_split true b p = inl tt
or_split false b p = inr p

pub decide : (a : Bool) → T a ⊎ T (not a)
decide true = inl tt
decide false = inr tt

pub clash : (a : Bool) → T a → T (not a) → ⊥
clash true p q = q
clash false p q = p

pub and_fails : (a b : Bool) → T (not (a && b)) → T (not a) ⊎ T (not b)
and_fails true b p = inr p
and_fails false b p = inl tt

pub or_fails_left : (a b : Bool) → T (not (a || b)) → T (not a)
or_fails_left true b p = p
or_fails_left false b p = tt

pub or_fails_right : (a b : Bool) → T (not (a || b)) → T (not b)
or_fails_right true b p = absurd p
or_fails_right false b p = p

pub refute : (a : Bool) → (T a → ⊥) → T (not a)
refute true h = h tt
refute false h = tt

pub chosen {ℓ κ} : {A : Type ℓ} (P : A → Type κ) (b : Bool) (x y : A) → (T b → P x) → (T (not b) → P y) → P (pick b x y)
chosen P true x y p q = p tt
chosen P false x y p q = q tt

pub chosen_first {ℓ κ} : {A : Type ℓ} (P : A → Type κ) (b : Bool) (x y : A) → T b → P x → P (pick b x y)
chosen_first P true x y t p = p
chosen_first P false x y t p = absurd t
