-- Two tests on lengths.
use Prim.Native.Nat.{◌+◌, ◌<◌, ◌≤◌}
use borrow.Author.Tests.{lt-leb}
use mathlib.Core.Logic.{inl}
use mathlib.Core.Path.{◌∙◌, sym}
use native.Mathlib.Omega.{arith}
use Rattle.workspace.proofs.Lendings.{room_long, room_no}
use Rattle.workspace.specs.Prepare.{work_size}
use Rattle.prepare_pair.proofs.prepare.has_room.Goals as goal

pub returns-then-half-work : goal.returns-then-half-work
returns-then-half-work c =
    let a = c.args in
    let half = c.half_size-half in
    let enough : work_size a.limits ≤ a.work = omega (arith, c.if-half-work.true, half.ensures) in
    sym (room_long a.limits a.size a.work a.res enough)

pub returns-else-half-work : goal.returns-else-half-work
returns-else-half-work c =
    let a = c.args in
    let half = c.half_size-half in
    let short : a.work < half.result + half.result = omega (arith, c.if-half-work.false) in
    lt-leb (half.result + half.result) a.work short ∙ sym (room_no a.limits a.size a.work a.res (inl (omega (arith, short, half.ensures))))
