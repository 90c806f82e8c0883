-- The lowest name, then those that are left without it.
use lib.ListN.{length}
use mathlib.Core.Path.{ap}
use native.Mathlib.Omega.{arith}
use Rattle.definition_parts.proofs.NameWalks.{names_end, names_next}
use Rattle.definition_parts.proofs.names.NameWalkIterator.next.Goals as goal

pub returns-then-name-lt-NAMES-clause-steps : goal.returns-then-name-lt-NAMES-clause-steps
returns-then-name-lt-NAMES-clause-steps c =
    names_next _ _ _ c.first-name.ensures c.if-name-lt-NAMES.true c.without-self.ensures

pub returns-then-name-lt-NAMES-clause-goes : goal.returns-then-name-lt-NAMES-clause-goes
returns-then-name-lt-NAMES-clause-goes c =
    let e = names_next _ _ _ c.first-name.ensures c.if-name-lt-NAMES.true c.without-self.ensures in
    record { on = λ _. (tt, tt, omega (arith, ap length e)); keeps = tt; rests = λ _. tt }

pub returns-clause-steps : goal.returns-clause-steps
returns-clause-steps c =
    let e = names_end _ _ c.first-name.ensures c.if-name-lt-NAMES.false in
    (e, e)
