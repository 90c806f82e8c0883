use Prim.Native.Nat.{◌+◌}
use native.Mathlib.Omega.{arith}
use mathlib.Core.Path.{◌∙◌, ap, refl, sym}
use Rattle.table.specs.Layout.{head_size}
use Rattle.table.specs.NameValues.{set_of}
use Rattle.definitions_reader.specs.declared.index.Index.{Index}
use Rattle.definitions_reader.proofs.Indexes.{
  IndexedAll,
  at_counted,
  at_inside,
  at_most,
  at_name,
  at_place,
  index_all,
  index_next,
  index_start,
  indexes_once,
}
use Rattle.definitions_reader.proofs.index.index_of.Goals as goal
use Rattle.definitions_reader.proofs.index.index_of.Goals.{After-loop-k}

abbrev index : (c : After-loop-k) → Index
index c = record { starts = c.loop-k.starts; defined = c.loop-k.defined }

-- every definition is met
all : (c : After-loop-k) → IndexedAll c.args.tbox.now (index c) c.loop-k.once
all c =
    let l = c.loop-k in
    index_all _ c.requires.form (index c) l.once l.k (omega (arith, l.invariant.most, c.requires.placed.counted))
    l.invariant

pub loop-k-init : goal.loop-k-init
loop-k-init c = index_start c.args.tbox.now _ (set_of c.none-defined.result) c.none-defined.ensures refl

pub name_of-name-requires : goal.name_of-name-requires
name_of-name-requires c = (c.requires, omega arith)

pub only-only-requires : goal.only-only-requires
only-only-requires c = at_name _ _ c.requires c.loop-k.k (omega arith) _ c.name_of-name.ensures

pub offset_bounds-fields-k : goal.offset_bounds-fields-k
offset_bounds-fields-k c = omega (arith, at_most _ _ c.requires c.loop-k.k (omega arith))

pub bounds-fields-k : goal.bounds-fields-k
bounds-fields-k c = omega (arith, at_most _ _ c.requires c.loop-k.k (omega arith))

pub overflow_add-starts : goal.overflow_add-starts
overflow_add-starts c =
    omega (
      arith,
      at_place _ _ c.requires c.loop-k.k (omega arith),
      at_inside _ _ c.requires c.loop-k.k (omega arith),
    )

pub overflow_add-starts-in-loop-k : goal.overflow_add-starts-in-loop-k
overflow_add-starts-in-loop-k c =
    omega (
      arith,
      at_place _ _ c.requires c.loop-k.k (omega arith),
      at_inside _ _ c.requires c.loop-k.k (omega arith),
    )

pub offset_bounds-starts-name : goal.offset_bounds-starts-name
offset_bounds-starts-name c =
    omega (arith, at_name _ _ c.requires c.loop-k.k (omega arith) _ c.name_of-name.ensures)

pub bounds-starts-name : goal.bounds-starts-name
bounds-starts-name c = at_name _ _ c.requires c.loop-k.k (omega arith) _ c.name_of-name.ensures

pub loop-k-preserved : goal.loop-k-preserved
loop-k-preserved c =
    let l = c.loop-k in
    let name = c.name_of-name in
    index_next c.args.tbox.now l.starts (set_of l.defined) l.once l.k l.invariant
    (at_counted _ _ c.requires l.k (omega arith)) name.result (set_of c.only-only.result) _ name.ensures
    (at_name _ _ c.requires l.k (omega arith) _ name.ensures) c.only-only.ensures
    (ap (λ p. p + head_size + 1) (at_place _ _ c.requires l.k (omega arith))) (set_of c.union-defined.result)
    c.union-defined.ensures c.still_once-once.result c.still_once-once.ensures

pub returns-then-not-once : goal.returns-then-not-once
returns-then-not-once c =
    let found = all (goal.at.returns-then-not-once c).After-loop-k in
    (sym found.single ∙ c.if-not-once.true, found.names)

pub returns : goal.returns
returns c =
    let found = all (goal.at.returns c).After-loop-k in
    let once = c.if-not-once.false in
    (sym found.single ∙ once, indexes_once _ _ _ found once)
