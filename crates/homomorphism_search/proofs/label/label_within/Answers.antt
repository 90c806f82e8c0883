-- A marked label is within none; of one that is not marked the names decide, as sets of 64 bits.
use mathlib.Core.Bool.{◌&&◌}
use mathlib.Core.List.{List}
use mathlib.Core.Path.{◌≡◌, ◌∙◌, sym}
use Prim.Native.Nat.{ℕ}
use Rattle.table.specs.NameSet.{subset}
use Rattle.table.specs.NameValues.{set_of}
use Rattle.homomorphism_search.specs.Search.{RowLabel, label_carried}
use Rattle.homomorphism_search.proofs.Labels.{carried_marked, carried_names}
use Rattle.homomorphism_search.proofs.label.label_within.Goals as goal

pub returns-then-label-eq1 : goal.returns-then-label-eq1
returns-then-label-eq1 c t w stands =
    let a = c.args in
    sym (carried_marked t w a.label a.s.now a.u stands c.if-label-eq1.true)

pub returns-then-subset : goal.returns-then-subset
returns-then-subset c t w stands =
    let by_names : (t : List ℕ) (w : ℕ) → let a = c.args in RowLabel t w a.label → label_carried a.s.now t w a.u ≡ (c.subset.result && subset (set_of a.label.excluded) (set_of c.excluded-lacks.result)) = λ t w stands. let a = c.args in
    let has = c.wanted-has in
    let lacks = c.excluded-lacks in
    carried_names t w a.label a.s.now a.u stands (set_of has.result) (set_of lacks.result) c.subset.result
    c.if-label-eq1.false has.ensures lacks.ensures c.subset.ensures in
    c.subset-then-subset.ensures ∙ sym (by_names t w stands ∙ rw c.if-subset.true)

pub returns-else-subset : goal.returns-else-subset
returns-else-subset c t w stands =
    let by_names : (t : List ℕ) (w : ℕ) → let a = c.args in RowLabel t w a.label → label_carried a.s.now t w a.u ≡ (c.subset.result && subset (set_of a.label.excluded) (set_of c.excluded-lacks.result)) = λ t w stands. let a = c.args in
    let has = c.wanted-has in
    let lacks = c.excluded-lacks in
    carried_names t w a.label a.s.now a.u stands (set_of has.result) (set_of lacks.result) c.subset.result
    c.if-label-eq1.false has.ensures lacks.ensures c.subset.ensures in
    c.if-subset.false ∙ sym (by_names t w stands ∙ rw c.if-subset.false)
