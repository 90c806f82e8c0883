-- One name more where its uses are in the set, and none where not.
use Prim.Native.Nat.{◌^◌}
use mathlib.Core.Bool.{Bool, ◌||◌}
use mathlib.Core.Path.{◌∙◌, ap, sym}
use Rattle.table.specs.NameSet.{has}
use Rattle.table.specs.NameValues.{set_of}
use Rattle.table.proofs.Bools.{or_none}
use Rattle.table.proofs.NameSets.{has_power, has_union}
use Rattle.definitions_rings.proofs.rings.settle_name.Goals as goal

pub returns-then-subset : goal.returns-then-subset
returns-then-subset c =
    let found = set_of c.args.found in
    let within = sym c.subset.ensures ∙ c.if-subset.true in
    rw (c.union.ensures, c.only.ensures, within)
    (λ m.
    has_union found (2 ^ c.args.name) m
    ∙ ap (λ (b : Bool). has found m || b) (has_power c.args.name m))

pub returns : goal.returns
returns c =
    let not-Within = sym c.subset.ensures ∙ c.if-subset.false in
    rw not-Within (λ m. sym (or_none (has (set_of c.args.found) m)))
