-- Row suc p of a definition becomes row first + p.
use Rattle.unfold_rows.proofs.Copying.{hung_later}
use Rattle.unfold_rows.proofs.copy.hung_from.Goals as goal

pub returns : goal.returns
returns c =
    let a = c.args in hung_later a.i a.first a.up c.if-up-eq0.false
