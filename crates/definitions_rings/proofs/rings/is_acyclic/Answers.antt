-- The rounds over words are those of the theory.
use mathlib.Core.Path.{◌∙◌, ap}
use Prim.Native.Nat.{ℕ}
use Rattle.table.specs.NameSet.{subset}
use Rattle.table.specs.NameValues.{set_of}
use Rattle.definitions_rings.proofs.RingSets.{rings_acyclic}
use Rattle.definitions_rings.proofs.rings.is_acyclic.Goals as goal

pub returns : goal.returns
returns c =
    let a = c.args in
    let found = c.find_uses-uses in
    let defined = set_of a.tbox.now.defined in
    λ D agrees.
    c.subset.ensures
    ∙ ap (λ (w : ℕ). subset defined w) c.find_settled.ensures
    ∙ rings_acyclic D _ _ _ agrees found.result found.ensures
