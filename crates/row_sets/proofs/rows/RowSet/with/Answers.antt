-- The row is in one of the four words; the others stay.
use mathlib.Core.Path.{ap}
use Prim.Native.Nat.{ℕ}
use lib.Bits.{bit_or}
use Rattle.row_sets.proofs.Words.{with_row}
use Rattle.row_sets.proofs.rows.RowSet.with.Goals as goal

pub returns : goal.returns
returns c =
    let a = c.args in
    with_row _ a.self a.j _ c.bit-new.ensures (ap (λ (w : ℕ). bit_or a.self.a w) c.only.ensures) (ap (λ (w : ℕ). bit_or a.self.b w) c.only-2.ensures) (ap (λ (w : ℕ). bit_or a.self.c w) c.only-3.ensures) (ap (λ (w : ℕ). bit_or a.self.d w) c.only-4.ensures)
