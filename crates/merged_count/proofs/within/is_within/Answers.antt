-- A bound within the limit says yes; a count up to the limit and one more is within it exactly if the merged rows are.
use Prim.Native.Nat.{ℕ}
use native.Mathlib.Omega.{arith}
use borrow.Author.Tests.{le-leb, leb-false, leb-true, lt-leb}
use lib.Dec.{leb}
use mathlib.Core.Path.{◌∙◌, ◌≡◌, ap, sym}
use Rattle.table.proofs.Bools.{by_test}
use Rattle.row_sets.proofs.Checks.{readable_rows}
use Rattle.row_sets.specs.Parts.{capped}
use Rattle.merged_count.proofs.within.is_within.Goals as goal

within : (limit n : ℕ) → leb (capped limit n) limit ≡ leb n limit
within limit n =
    by_test (leb n limit) (λ e. let l = leb-true n limit e in le-leb (capped limit n) limit (omega arith) ∙ sym e)
    (λ e. let l = leb-false n limit e in lt-leb (capped limit n) limit (omega arith) ∙ sym e)

pub is_bounded-requires : goal.is_bounded-requires
is_bounded-requires c =
    let a = c.args in
    (readable_rows a.limits a.picture.now c.requires.0 c.requires.1, c.requires.0)

pub returns-then-is_bounded : goal.returns-then-is_bounded
returns-then-is_bounded c = sym (le-leb _ _ (c.is_bounded.ensures c.if-is_bounded.true))

pub count-requires : goal.count-requires
count-requires c =
    let a = c.args in
    (readable_rows a.limits a.picture.now c.requires.0 c.requires.1, c.requires.0)

pub returns : goal.returns
returns c =
    let limit = c.args.limits.rows in
    ap (λ (n : ℕ). leb n limit) c.count.ensures ∙ within limit _
