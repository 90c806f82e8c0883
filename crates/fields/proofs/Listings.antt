-- What is listed of fields, one after the other.
--   length_listed   of so many
--   listed_at       at a place of the list
use Prim.Native.Nat.{◌+◌, ◌<◌, suc, zero, ℕ}
use lib.ListN.{get_or, length}
use mathlib.Core.Path.{◌∙◌, ◌≡◌, ap, refl}
use native.Mathlib.Omega.{arith}
use Rattle.fields.specs.Form.{listed}

module _ {A : Type 0} (f : ℕ → A) where
  pub length_listed : (more k : ℕ) → length (listed f more k) ≡ more
  length_listed zero k = refl
  length_listed (suc more) k = ap suc (length_listed more (k + 1))

  pub listed_at : (none : A) (more k j : ℕ) → j < more → get_or (listed f more k) j none ≡ f (k + j)
  listed_at none zero k j l = absurd (omega arith)
  listed_at none (suc more) k zero l = ap f (let e : k ≡ k + 0 = omega arith in e)
  listed_at none (suc more) k (suc j) l =
      listed_at none more (k + 1) j (omega arith) ∙ ap f (let e : k + 1 + j ≡ k + suc j = omega arith in e)
