-- A walk over the rows of a set, as the code's iterator has it.
--   Over                          it goes over the rows of one set below a number
--   over_start                    so it begins
--   over_next, next_row, last_row   a step: it goes on over the same, is at the set's next row, or none is left
use mathlib.Core.Path.{◌∙◌, ◌≡◌, ap}
use Prim.Native.Nat.{◌+◌, ◌<◌, ℕ}
use Rattle.row_sets.specs.Rows.{Next}
use Rattle.row_sets.specs.Walks.{MemberStep}
use Rattle.row_sets.specs.declared.members.Members.{Members}
use Rattle.row_sets.specs.declared.rows.RowSet.{RowSet}
use Rattle.std.proofs.Common.{None, Some}

pub record Over (set : RowSet) (rows : ℕ) (m : Members) : Type 0 where
  pub set_is : m.set ≡ set
  pub rows_are : m.rows ≡ rows

pub over_start : (set : RowSet) (rows : ℕ) (m n : Members) → n ≡ m → m.set ≡ set → m.rows ≡ rows → Over set rows n
over_start set rows m n is sets same =
    record { set_is = ap (λ (m : Members). m.set) is ∙ sets; rows_are = ap (λ (m : Members). m.rows) is ∙ same }

module _ (set : RowSet) (rows : ℕ) (m n : Members) (over : Over set rows m) where
  pub over_next : (j : ℕ) → MemberStep m (Some j) n → Over set rows n
  over_next j step =
      let (l, next, from, sets, same) = step in
      record { set_is = sets ∙ over.set_is; rows_are = same ∙ over.rows_are }

  pub next_row : (j : ℕ) → MemberStep m (Some j) n → (j < rows) × (Next set m.from rows j) × (n.from ≡ j + 1)
  next_row j step = let (l, next, from, sets, same) = step in rw (← over.set_is, ← over.rows_are) (l, next, from)

  pub last_row : MemberStep m None n → Next set m.from rows rows
  last_row step = rw (← over.set_is, ← over.rows_are) step.0
