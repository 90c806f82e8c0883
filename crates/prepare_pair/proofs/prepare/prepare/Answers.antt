-- 1 is answered no, or the questions of the pair decide.
use mathlib.Core.Path.{sym}
use Rattle.picture.proofs.Keeping.{kept_no}
use Rattle.picture.proofs.Orders.{on_no}
use Rattle.prepare_pair.proofs.TabledPairs.{long_asked, short_asked}
use Rattle.prepare_pair.proofs.prepare.prepare.Goals as goal

pub returns-then-not-enough : goal.returns-then-not-enough
returns-then-not-enough c =
    let a = c.args in
    let short = c.if-not-enough.true in
    let no-is = short_asked a.limits a.tbox.now a.first.now a.second.now a.enough short in
    rw c.short_buffer.ensures (sym (on_no _ _ _ no-is), sym (kept_no _ _ _ _ no-is))

pub read_pair-requires : goal.read_pair-requires
read_pair-requires c = (c.requires.0, c.requires.1 (c.if-not-enough.false))

pub returns : goal.returns
returns c =
    let a = c.args in
    let enough = c.if-not-enough.false in
    rw (long_asked a.limits a.tbox.now a.first.now a.second.now a.enough enough)
    c.read_pair.ensures
