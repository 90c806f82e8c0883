-- The root is counted from nothing: no row and row 0 are {root}.
use mathlib.Core.Bool.{false}
use mathlib.Core.Path.{◌∙◌, ◌≡◌, ap, refl}
use Rattle.row_sets.specs.declared.linked.Table.{Table}
use native.Mathlib.Omega.{arith}
use Rattle.table_rows.proofs.Stores.{blank}
use Rattle.merged_count.proofs.Counts.{count_root}
use Rattle.merged_count.proofs.Hangings.{hung_none, hung_with_is}
use Rattle.merged_count.proofs.count.count.Goals as goal

pub new-requires-clause-empty : goal.new-requires-clause-empty
new-requires-clause-empty c = blank 512 512 refl

pub new-survey-requires : goal.new-survey-requires
new-survey-requires c = blank 256 256 refl

pub count_row-requires-clause-known : goal.count_row-requires-clause-known
count_row-requires-clause-known c =
    let t = c.new-survey.result.table in
    let none = c.none in
    (hung_with_is t.bytes.now t.rows (λ j. false) 0 none.result c.add-root.result t.linked.checked.some (hung_none t.bytes.now t.rows none.result none.ensures) c.add-root.ensures).known

pub returns : goal.returns
returns c =
    let a = c.args in
    let t = c.new-survey.result.table in
    let none = c.none in
    let root = hung_with_is t.bytes.now t.rows (λ j. false) 0 none.result c.add-root.result t.linked.checked.some (hung_none t.bytes.now t.rows none.result none.ensures) c.add-root.ensures in
    let same : t.bytes.now ≡ a.s.now = ap (λ (t : Table). t.bytes.now) c.new-survey.ensures ∙ c.new.ensures.bytes in
    rw (← same) (omega (arith, c.count_row.ensures, count_root a.limits t.bytes.now t.rows c.add-root.result t.linked.checked root))
