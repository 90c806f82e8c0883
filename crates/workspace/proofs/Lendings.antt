-- Laws of 1 of the calls on two pictures, at any limits and any length named of the result buffer.
--   room_no, room_yes,
--   room_both, room_long   1: one of the two buffers is too short, or both are long enough, or the other decides
--   Lent, two_decides      the questions of a call that is lent a result buffer too: all yes exactly with room and of
--                          an acceptable pair; the first no
use Prim.Native.Nat.{ℕ, ◌<◌, ◌≤◌}
use borrow.Author.Tests.{le-leb, leb-false, leb-true, lt-leb}
use lib.Dec.{leb}
use mathlib.Core.Bool.{Bool, and-false, false, true}
use mathlib.Core.List.{List}
use mathlib.Core.Logic.{◌⊎◌, inl, inr, ⊎_elim}
use mathlib.Core.Path.{◌∙◌, ◌≡◌, refl, sym}
use Rattle.table.proofs.Bools.{both, by_test}
use Rattle.table.specs.declared.layout.Limits.{Limits}
use Rattle.picture.proofs.Orders.{Decides, said_so}
use Rattle.picture.specs.Refusal.{short_buffer}
use Rattle.workspace.specs.Lent.{lent_asked, roomy}
use Rattle.workspace.specs.Prepare.{Acceptable, work_size}
use Rattle.workspace.proofs.Pairs.{PairNo, lent_decides}

-- ---- 1

-- one of the two buffers is shorter than the length named
abbrev pub TooShort : Limits → ℕ → ℕ → ℕ → Type 0
TooShort limits size work result = (work < work_size limits) ⊎ (result < size)

module _ (limits : Limits) (size work result : ℕ) where
  pub room_no : TooShort limits size work result → roomy limits size work result ≡ false
  room_no (inl h) = rw (lt-leb (work_size limits) work h)
  room_no (inr h) = rw (lt-leb size result h) (and-false (leb (work_size limits) work))

  pub room_long : work_size limits ≤ work → roomy limits size work result ≡ leb size result
  room_long enough = rw (le-leb (work_size limits) work enough)

  pub room_yes : work_size limits ≤ work → size ≤ result → roomy limits size work result ≡ true
  room_yes enough long = rw (le-leb (work_size limits) work enough, le-leb size result long)

  pub room_both : roomy limits size work result ≡ true → (work_size limits ≤ work) × (size ≤ result)
  room_both h =
      let (a, b) = both (leb (work_size limits) work) (leb size result) h in
      (leb-true (work_size limits) work a, leb-true size result b)

-- 1; first; second; 14 of each, of a call that is lent a result buffer too
module _ (limits : Limits) (first second : List ℕ) (size work result : ℕ) where
  pub record Lent : Type 0 where
    pub work_long : work_size limits ≤ work
    pub result_long : size ≤ result
    pub pair : Acceptable limits first second

  short_or_long : (b : Bool) → roomy limits size work result ≡ b → (b ≡ false) → TooShort limits size work result
  short_or_long b e none =
      by_test (leb (work_size limits) work)
      (λ long. inr (leb-false size result
      (sym (room_long limits size work result (leb-true (work_size limits) work long)) ∙ e ∙ none)))
      (λ short. inl (leb-false (work_size limits) work short))

  pub two_decides : Decides (lent_asked limits (roomy limits size work result) first second) Lent
      (λ r. (TooShort limits size work result × (r ≡ short_buffer))
      ⊎ (((work_size limits ≤ work) × (size ≤ result)) × PairNo limits first second r))
  two_decides =
      let room = roomy limits size work result in
      said_so (lent_asked limits room first second) (lent_decides limits first second room) (
        λ (e, pair). let (enough, long) = room_both limits size work result e in record
            { work_long = enough; result_long = long; pair = pair },
        λ l. (room_yes limits size work result l.work_long l.result_long, l.pair),
      )
      (λ r. (
        ⊎_elim (λ (e, is). inl (short_or_long room refl e, is))
            (λ (e, one). inr (room_both limits size work result e, one)),
        ⊎_elim (λ (short, is). inl (room_no limits size work result short, is))
            (λ ((enough, long), one). inr (room_yes limits size work result enough long, one)),
      ))
