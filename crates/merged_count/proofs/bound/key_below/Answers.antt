-- The remainder is the key.
use native.Mathlib.Omega.{arith}
use mathlib.Core.Path.{refl}
use Rattle.merged_count.specs.Bound.{below_key}
use Rattle.merged_count.proofs.bound.key_below.Goals as goal

pub returns : goal.returns
unfolding below_key
returns c = (refl, omega arith)
