use native.Mathlib.Omega.{arith}
use Rattle.table.specs.NameValues.{set_of}
use Rattle.definitions_rings.proofs.WantedNames.{row_counted, wants_more, wants_start, wants_used}
use Rattle.definitions_rings.proofs.uses.used_names.Goals as goal

pub loop-k-init : goal.loop-k-init
loop-k-init c = rw c.none-wants.ensures (wants_start c.args.picture.now)

pub wanted-requires : goal.wanted-requires
wanted-requires c = c.requires _ (row_counted c.args.picture.now _ (omega arith))

pub loop-k-preserved : goal.loop-k-preserved
loop-k-preserved c =
    rw c.union-wants.ensures
    (wants_more c.args.picture.now _ _ _ c.loop-k.invariant c.wanted.ensures.0 c.wanted.ensures.1)

pub returns : goal.returns
returns c =
    rw c.intersection.ensures
    (wants_used c.args.picture.now _ _ (set_of c.args.defined) c.loop-k.invariant (omega arith) (omega arith))
