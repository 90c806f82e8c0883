-- The rows that a table under construction has: its first bytes.
--   take_put        bytes put at a place, and what stands before them
--   take_before     what stands before them is as it was
--   prefix_put      a row put after them is one more
--   prefix_before   fewer rows of a longer prefix
use Prim.Native.Nat.{◌+◌, ◌≤◌, ℕ}
use lib.ListN.{length, length-append, take}
use lib.Seq.{length-take-le, take_at, take-take}
use mathlib.Core.List.{List, ◌++◌}
use mathlib.Core.Path.{◌∙◌, ◌≡◌, ap, refl, sym}
use native.Mathlib.Omega.{arith}
use Rattle.table.specs.Layout.{«place», row_size}
use Rattle.table.specs.Put.{put}
use Rattle.table_rows.specs.Rows.{prefix}

pub take_put : (d : List ℕ) (at : ℕ) (s : List ℕ) (n : ℕ) → at ≤ length d → n ≡ at + length s → take n (put d at s) ≡ take at d ++ s
unfolding put
take_put d at s n h e = take_at (take at d ++ s) _ n (length-append (take at d) s ∙ ap (λ (k : ℕ). k + length s) (length-take-le at d h) ∙ sym e)

pub take_before : (d : List ℕ) (at : ℕ) (s : List ℕ) → at ≤ length d → take at (put d at s) ≡ take at d
take_before d at s h =
    sym (take-take at (at + length s) (put d at s) (omega arith))
    ∙ ap (take at) (take_put d at s (at + length s) h refl)
    ∙ take_at (take at d) s at (length-take-le at d h)

pub prefix_put : (d : List ℕ) (n : ℕ) (row : List ℕ) → place n 0 ≤ length d → length row ≡ row_size → prefix (n + 1) (put d (place n 0) row) ≡ prefix n d ++ row
prefix_put d n row h l = take_put d (place n 0) row (place (n + 1) 0) h (omega arith)

pub prefix_before : (d e x : List ℕ) (m n : ℕ) → m ≤ n → place m 0 ≤ length d → prefix n e ≡ prefix m d ++ x → prefix m e ≡ prefix m d
prefix_before d e x m n l h p =
    sym (take-take (place m 0) (place n 0) e (omega arith))
    ∙ ap (take (place m 0)) p
    ∙ take_at (prefix m d) x (place m 0) (length-take-le (place m 0) d h)
