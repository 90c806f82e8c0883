-- A row is entered and left at once: grown by nothing in between.
use native.Mathlib.Omega.{arith}
use mathlib.Core.Path.{refl}
use Prim.Native.Nat.{◌<◌}
use Rattle.ale.specs.Tree.{nil}
use Rattle.normal_writer.proofs.Growth.{entered_room, grown_nil, grown_over}
use Rattle.normal_writer.proofs.Nodes.{grown_node}
use Rattle.normal_writer.proofs.node.graft_leaf.Goals as goal

pub returns-then-limit-branch : goal.returns-then-limit-branch
returns-then-limit-branch c =
    let a = c.args in
    λ l is. grown_over a.limit a.edge.parent a.branch _ a.out.now _ a.edge.role _ c.requires.room (omega (arith, c.if-limit-branch.true)) refl refl

pub returns : goal.returns
returns c =
    let a = c.args in
    let room = c.requires.room in
    let fits : a.branch.merged < a.limit = omega (arith, c.if-limit-branch.false) in
    let en = c.enter-entered in
    let le = c.leave in
    let below = grown_nil a.limit a.branch.table.rows en.result en.new.out (entered_room a.limit a.branch a.out.now a.edge a.label en.result en.new.out room fits en.ensures) in
    λ l is. grown_node a.limit a.branch a.out.now a.edge a.label l is c.requires.coded room fits nil en.result en.result le.result en.new.out en.new.out le.new.out en.ensures below le.ensures
