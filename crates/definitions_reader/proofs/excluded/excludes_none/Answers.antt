use mathlib.Core.Bool.{not}
use mathlib.Core.Path.{◌∙◌, ap, sym}
use native.Mathlib.Nat.{sub-zero}
use native.Mathlib.Omega.{arith}
use Rattle.table.proofs.Ranges.{each_done, each_fails, each_on}
use Rattle.table.specs.NameValues.{set_of}
use Rattle.table.specs.Range.{each}
use Rattle.picture.specs.Readable.{row_count}
use Rattle.definitions_reader.specs.Excluded.{excludes_at}
use Rattle.definitions_reader.proofs.Exclusions.{excluded_read}
use Rattle.definitions_reader.proofs.excluded.excludes_none.Goals as goal

pub loop-j-init : goal.loop-j-init
loop-j-init c =
    let a = c.args in
    ap (λ n. each (λ k. not (excludes_at a.picture.now (set_of a.defined) k)) n 0) (sym (sub-zero a.rows ∙ c.requires.0))

pub excluded-names-requires : goal.excluded-names-requires
unfolding row_count
excluded-names-requires c = (omega (arith, c.requires.1), omega (arith, c.requires.0))

pub returns-then-overlaps : goal.returns-then-overlaps
returns-then-overlaps c =
    let a = c.args in
    let l = c.loop-j in
    let names = c.excluded-names.ensures in
    sym (l.invariant ∙ each_fails (λ k. not (excludes_at a.picture.now (set_of a.defined) k)) a.rows l.j (omega arith)
    (ap not (excluded_read _ _ _ _ _ names.0 names.1 c.overlaps.ensures ∙ c.if-overlaps.true)))

pub loop-j-preserved : goal.loop-j-preserved
loop-j-preserved c =
    let a = c.args in
    let l = c.loop-j in
    let names = c.excluded-names.ensures in
    l.invariant ∙ each_on (λ k. not (excludes_at a.picture.now (set_of a.defined) k)) a.rows l.j (omega arith)
    (ap not (excluded_read _ _ _ _ _ names.0 names.1 c.overlaps.ensures ∙ c.if-overlaps.false))

pub returns : goal.returns
returns c =
    let a = c.args in
    let l = c.loop-j in
    sym (l.invariant ∙ each_done (λ k. not (excludes_at a.picture.now (set_of a.defined) k)) a.rows l.j (omega arith))
