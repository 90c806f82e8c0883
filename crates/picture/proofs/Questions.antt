-- What a question that was answered yes says, 9 to 13, and when the answer is yes.
--   kind_root_is, kind_later       9
--   role_root, role_below       10
--   parent_root, parent_below   11
--   depth_most                  12
--   impossible_most             13
--   ok_kind .. ok_depth         when the answer is yes; ok-root: in row 0
use mathlib.Core.Logic.{◌⊎◌, inl, inr, ⊎_map}
use mathlib.Core.Path.{◌≡◌, refl}
use mathlib.Core.Bool.{Bool, true, false}
use Prim.Native.Nat.{ℕ, ◌≤◌, ◌<◌}
use borrow.Author.Tests.{eqb-true, ltb-true, leb-true, ne_eqb, lt-ltb, le-leb}
use native.Mathlib.Omega.{arith}
use lib.Dec.{eqb, ltb}
use Rattle.table.specs.Pick.{pick}
use Rattle.table.proofs.Bools.{either}
use Rattle.table.specs.Layout.{kind_root, kind_exists, kind_for_all, roles}
use Rattle.table.specs.declared.layout.Limits.{Limits}
use Rattle.picture.specs.Questions.{kind_ok, role_ok, parent_ok, depth_ok, impossible_ok}

pub kind_root_is : (kind : ℕ) → kind_ok 0 kind ≡ true → kind ≡ kind_root
unfolding kind_ok
kind_root_is kind h = eqb-true kind kind_root h

pub kind_later : (n kind : ℕ) → (n ≡ 0 → ⊥) → kind_ok n kind ≡ true → (kind ≡ kind_exists) ⊎ (kind ≡ kind_for_all)
unfolding kind_ok
kind_later n kind later h =
    ⊎_map (eqb-true kind kind_exists) (eqb-true kind kind_for_all) (either (eqb kind kind_exists) (eqb kind kind_for_all) (simp (ne_eqb n 0 later) at h))

pub role_root : (role : ℕ) → role_ok 0 role ≡ true → role ≡ 0
unfolding role_ok
role_root role h = eqb-true role 0 h

picked_below : (b : Bool) (role : ℕ) → pick b (eqb role 0) (ltb role roles) ≡ true → role < roles
picked_below true role h = omega (arith, eqb-true role 0 h)
picked_below false role h = ltb-true role roles h

pub role_below : (n role : ℕ) → role_ok n role ≡ true → role < roles
unfolding role_ok
role_below n role h = picked_below (eqb n 0) role h

pub parent_root : (parent : ℕ) → parent_ok 0 parent ≡ true → parent ≡ 0
unfolding parent_ok
parent_root parent h = eqb-true parent 0 h

pub parent_below : (n parent : ℕ) → (n ≡ 0 → ⊥) → parent_ok n parent ≡ true → parent < n
unfolding parent_ok
parent_below n parent later h = ltb-true parent n (simp (ne_eqb n 0 later) at h)

pub depth_most : (limits : Limits) (depth : ℕ) → depth_ok limits depth ≡ true → depth ≤ limits.depth
depth_most limits depth h = leb-true depth limits.depth h

pub impossible_most : (impossible : ℕ) → impossible_ok impossible ≡ true → impossible ≤ 1
impossible_most impossible h = leb-true impossible 1 h

-- and when the answer is yes

pub ok_kind : (n kind : ℕ) → (n ≡ 0 → ⊥) → (kind ≡ kind_exists) ⊎ (kind ≡ kind_for_all) → kind_ok n kind ≡ true
unfolding kind_ok
ok_kind n kind later (inl e) = simp (ne_eqb n 0 later, e)
ok_kind n kind later (inr e) = simp (ne_eqb n 0 later, e)

pub ok_role : (n role : ℕ) → (n ≡ 0 → ⊥) → role < roles → role_ok n role ≡ true
unfolding role_ok
ok_role n role later h = simp (ne_eqb n 0 later, lt-ltb role roles h)

pub ok_parent : (n parent : ℕ) → (n ≡ 0 → ⊥) → parent < n → parent_ok n parent ≡ true
unfolding parent_ok
ok_parent n parent later h = simp (ne_eqb n 0 later, lt-ltb parent n h)

pub ok_depth : (limits : Limits) (depth : ℕ) → depth ≤ limits.depth → depth_ok limits depth ≡ true
ok_depth limits depth h = le-leb depth limits.depth h

-- row 0 is the root
pub ok_root : (kind_ok 0 kind_root ≡ true) × (role_ok 0 0 ≡ true) × (parent_ok 0 0 ≡ true)
unfolding kind_ok role_ok parent_ok
ok_root = (refl, refl, refl)
