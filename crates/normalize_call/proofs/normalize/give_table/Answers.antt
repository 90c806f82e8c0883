-- No row says that 14 is answered no.
use borrow.Author.Tests.{eq-eqb, ne_eqb}
use mathlib.Core.Path.{refl}
use Rattle.normalize_call.proofs.normalize.give_table.Goals as goal

pub returns-then-rows-eq0 : goal.returns-then-rows-eq0
returns-then-rows-eq0 c =
    let none = eq-eqb c.args.rows 0 c.if-rows-eq0.true in
    rw (c.too_many.ensures, none) (refl, refl)

pub returns : goal.returns
returns c =
    let some = ne_eqb c.args.rows 0 c.if-rows-eq0.false in
    rw some (refl, c.copy_in.ensures)
