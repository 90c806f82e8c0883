-- The limits of the profiles: the paper's numbers, and such as the code can hold.
--   clip_agrees                     the clip reader's limits and picture size
--   profile_none                    no other number names limits
--   profile_bounded                 the limits that a number names are within the bounds
use Prim.Native.Nat.{ℕ, ◌≤◌}
use native.Mathlib.Omega.{arith}
use borrow.Author.Tests.{ne_eqb}
use lib.Dec.{eqb}
use mathlib.Core.Path.{◌≡◌, refl}
use Rattle.table.specs.Bounds.{clip_limits, picture_size}
use Rattle.table.specs.Profiles.{BoundedAt, profile_of}
use Rattle.std.specs.Prelude.{None}
use Rattle.table.proofs.Bools.{by_test}

pub clip_agrees : picture_size clip_limits ≡ 1539
clip_agrees = refl

pub profile_none : (n : ℕ) → 2 ≤ n → profile_of n ≡ None
profile_none n h = rw (ne_eqb n 0 (λ z. omega arith), ne_eqb n 1 (λ z. omega arith))

pub profile_bounded : (n : ℕ) → BoundedAt (profile_of n)
profile_bounded n =
    by_test (eqb n 0) (λ e. rw e (omega arith, omega arith))
    (λ e. by_test (eqb n 1) (λ f. rw (e, f) (omega arith, omega arith)) (λ f. rw (e, f) tt))
