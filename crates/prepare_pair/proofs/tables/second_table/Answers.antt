-- The second table begins with the second half.
use Prim.Native.Nat.{ℕ}
use mathlib.Core.Path.{◌∙◌, ap}
use Rattle.normal_writer.specs.Tables.{table_in}
use Rattle.prepare_pair.proofs.tables.second_table.Goals as goal

pub returns : goal.returns
returns c =
    let a = c.args in
    c.table_at.ensures ∙ ap (λ (n : ℕ). table_in a.work.now n a.pair.second) c.half_size.ensures
