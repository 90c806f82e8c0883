-- 02, U4: the profiles of the readers, by number. 0 is the bench tool, 1 the clip reader; no other number names one.
--   profile_of   the limits that a number names
--   at_profile   what is so at the limits that are named, or else where none are
use Rattle.std.specs.Prelude.{ℕ, eqb, Option, None, Some}
use Rattle.table.specs.Bounds.{Bounded, bench_limits, clip_limits}
use Rattle.table.specs.Pick.{pick}
use Rattle.table.specs.declared.layout.Limits.{Limits}

abbrev pub profile_of : ℕ → Option Limits
profile_of profile = pick (eqb profile 0) (Some bench_limits) (pick (eqb profile 1) (Some clip_limits) None)

abbrev pub at_profile {ℓ} : {A : Type ℓ} → Option Limits → (Limits → A) → A → A
at_profile (Some limits) at none = at limits
at_profile None at none = none

-- ---- what the code needs

abbrev pub BoundedAt : Option Limits → Type 0
BoundedAt (Some limits) = Bounded limits
BoundedAt None = Unit
