-- The row's bit is added to the word of its role and kind.
use mathlib.Core.Path.{ap, refl}
use Prim.Native.Nat.{ℕ, ◌%◌}
use Rattle.std.proofs.Common.{rules}
use Rattle.row_sets.proofs.Masks.{mask_next, mask_none}
use Rattle.row_sets.proofs.rows.fill_masks.Goals as goal

pub loop-j-init : goal.loop-j-init
loop-j-init c = mask_none _ _ _ c.requires.empty

pub loop-j-preserved : goal.loop-j-preserved
loop-j-preserved c =
    let a = c.args in
    let l = c.loop-j in
    mask_next a.s.now a.rows l.j c.role.result (c.kind.result % 2) c.bit.result _ l.masks c.loop-j-test.true c.requires.checked.most c.role.ensures (search rules) (ap (λ (n : ℕ). n % 2) c.kind.ensures) refl c.bit.ensures l.invariant
