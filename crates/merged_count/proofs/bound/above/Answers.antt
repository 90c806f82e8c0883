-- A number of two bytes that is below 256 is its last byte.
use Prim.Native.Nat.{◌+◌, ◌<◌, ℕ}
use native.Mathlib.Omega.{arith}
use lib.ListN.{get_or}
use mathlib.Core.List.{List}
use mathlib.Core.Path.{◌∙◌, ◌≡◌, ap}
use Rattle.table.proofs.Numbers.{be_two}
use Rattle.table.specs.Fields.{parent_of}
use Rattle.table.specs.Layout.{parent_offset, «place»}
use Rattle.merged_count.proofs.bound.above.Goals as goal

last_byte : (s : List ℕ) (j at : ℕ) → at ≡ place j parent_offset + 1 → parent_of s j < 256 → get_or s at 0 ≡ parent_of s j
last_byte s j at e low =
    ap (λ (i : ℕ). get_or s i 0) e ∙ omega (arith, be_two s (place j parent_offset), low)

pub returns : goal.returns
returns c =
    let a = c.args in
    let before = c.requires.checked.parents a.j c.requires.later c.requires.inside in
    let low : parent_of a.s.now a.j < 256 = omega (arith, before, c.requires.inside, c.requires.checked.most) in
    let is = last_byte a.s.now a.j c.place.result (omega (arith, c.place.ensures)) low in
    (is, omega (arith, is, before))
