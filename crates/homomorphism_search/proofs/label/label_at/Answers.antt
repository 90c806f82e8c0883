-- The sets are read from eight bytes, so they are below 2 ^ nameCount; the mark is the row's.
use mathlib.Core.Path.{refl}
use Rattle.homomorphism_search.proofs.Labels.{row_label}
use Rattle.homomorphism_search.proofs.label.label_at.Goals as goal

pub returns : goal.returns
returns c =
    let a = c.args in
    let mark = c.impossible-bottom in
    row_label a.t.now a.w _ mark.result c.wanted.ensures c.excluded.ensures refl mark.ensures
