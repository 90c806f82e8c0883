-- Numbers of several bytes, the high byte first, as images are. The other laws are table/proofs/Numbers'.
--   be_more   one byte more
use Prim.Native.Nat.{◌*◌, ◌+◌, suc, ℕ}
use lib.ListN.{get_or}
use mathlib.Core.List.{List}
use mathlib.Core.Path.{◌∙◌, ◌≡◌, ap}
use Rattle.table.specs.Number.{be}

pub be_more : (s : List ℕ) (at k x r : ℕ) → x ≡ be s at k → r ≡ x * 256 + get_or s (at + k) 0 → r ≡ be s at (suc k)
unfolding be
be_more s at k x r p q = q ∙ ap (λ (n : ℕ). n * 256 + get_or s (at + k) 0) p
