-- Laws of the fourth call at any limits: when its questions are answered yes.
--   lent_decides   1 to 14: with room and of an acceptable pair
--   lcs_decides    and 15: its common picture has at most the rows of the limit; the first no, 15 being the last
use Prim.Native.Nat.{◌<◌, ◌≤◌, ℕ}
use mathlib.Core.List.{List}
use mathlib.Core.Logic.{◌⊎◌}
use mathlib.Core.Path.{◌≡◌}
use Rattle.picture.proofs.Orders.{Decides, and_decides, test_decides}
use Rattle.picture.specs.Refusal.{short_buffer}
use Rattle.picture.specs.declared.answer.Refusal.{Refusal}
use Rattle.table.specs.Bounds.{picture_size}
use Rattle.table.specs.declared.layout.Limits.{Limits}
use Rattle.workspace.proofs.Lendings.{Lent, TooShort, two_decides}
use Rattle.workspace.proofs.Pairs.{PairNo}
use Rattle.workspace.specs.Prepare.{work_size}
use Rattle.lcs.specs.Call.{large_asked, lcs_asked, lcs_lent, too_large}
use Rattle.lcs.specs.Product.{lcs_count}

module _ (limits : Limits) (first second : List ℕ) (work result : ℕ) where
  abbrev lent : Type 0
  lent = Lent limits first second (picture_size limits) work result

  -- 1 to 14
  abbrev pub LentNo : Refusal → Type 0
  LentNo r =
      (TooShort limits (picture_size limits) work result × (r ≡ short_buffer))
      ⊎ (((work_size limits ≤ work) × (picture_size limits ≤ result)) × PairNo limits first second r)

  pub lent_decides : Decides (lcs_lent limits first second work result) lent LentNo
  lent_decides = two_decides limits first second (picture_size limits) work result

  pub lcs_decides : Decides (lcs_asked limits first second work result)
      (lent × (lcs_count limits first second ≤ limits.rows))
      (λ r. LentNo r ⊎ (lent × ((limits.rows < lcs_count limits first second) × (r ≡ too_large))))
  lcs_decides =
      and_decides (lcs_lent limits first second work result) (large_asked limits first second) lent_decides
      (λ l. test_decides (lcs_count limits first second) limits.rows too_large)
