use Prim.Native.Nat.{◌<◌, ℕ}
use native.Mathlib.Omega.{arith}
use mathlib.Core.Path.{◌∙◌, ap, refl}
use Rattle.std.proofs.Common.{rules}
use Rattle.std.proofs.iter.Serving.{serving}
use Rattle.std.proofs.lemmas.Iterator.{YieldsList-from_range}
use Rattle.std.proofs.lemmas.Iterator.Search.{any_from_yields_List}
use Rattle.table.specs.NameValues.{set_of}
use Rattle.table.specs.Range.{some}
use Rattle.table_rows.specs.Rows.{HasRow}
use Rattle.picture.specs.Readable.{row_count}
use Rattle.unfold_rows.proofs.Wanting.{asks, asks_read, some_list}
use Rattle.unfold_rows.proofs.wants.wants_defined.Goals as goal

pub any-requires-clause-callable : goal.any-requires-clause-callable
unfolding row_count
any-requires-clause-callable c =
    let has_row : (j : ℕ) → j < c.args.rows → HasRow c.args.picture.now j = λ j l. (omega (arith, c.requires.1), omega (arith, c.requires.0)) in
    grind (serving, has_row)

pub returns : goal.returns
returns c =
    let asked = asks c.args.picture.now (set_of c.args.defined) in
    any_from_yields_List asked _ _ _ c.any.ensures.ran (YieldsList-from_range 0 c.args.rows c.args.rows refl (omega arith))
    (λ x b q called. (search rules, search (rules, asks_read)))
    ∙ some_list asked c.args.rows 0
    ∙ ap (λ n. some asked n 0) c.requires.0
