-- The bound is within the limit, and the merged rows within the bound.
use native.Mathlib.Omega.{arith}
use borrow.Author.Tests.{leb-true}
use mathlib.Core.Path.{refl}
use Rattle.table_rows.proofs.Stores.{blank}
use Rattle.merged_count.proofs.bound.is_bounded.Goals as goal

pub fill_keys-requires : goal.fill_keys-requires
fill_keys-requires c = record { checked = c.requires.0; no_keys = blank _ _ refl; no_somes = blank _ _ refl }

pub returns : goal.returns
returns c =
    λ e.
    let limits = c.args.limits in
    let weigh = c.weigh in
    let within = leb-true weigh.result limits.rows e in
    omega (arith, weigh.ensures within limits)
