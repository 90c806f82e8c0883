-- A row is entered and left at once: grown by nothing in between.
use Prim.Native.Nat.{◌≤◌}
use mathlib.Core.Bool.{false}
use mathlib.Core.Path.{◌∙◌, ◌≡◌, sym}
use native.Mathlib.Omega.{arith}
use Rattle.ale.specs.Tree.{nil}
use Rattle.product_rows.specs.Grown.{stays}
use Rattle.product_rows.proofs.Growth.{grown_nil}
use Rattle.product_rows.proofs.Nodes.{entered_room, grown_node, grown_stays}
use Rattle.product_rows.proofs.node.graft_leaf.Goals as goal
use Rattle.product_rows.proofs.node.graft_leaf.Goals.{else-limit-table-via-then-limit-table+else-is_kept, else-limit-table-via-else-limit-table}

pub returns-then-is_kept : goal.returns-then-is_kept
returns-then-is_kept c l is possible =
    grown_stays c.args.edge.now is c.requires.code c.requires.room possible nil c.beyond.result c.if-limit-table.true
    (sym c.is_kept.ensures ∙ c.if-is_kept.true) c.beyond.ensures

pub returns : goal.returns
returns c l is possible =
    let a = c.args in
    let room-or : (a.limit ≤ a.table.rows → stays a.edge.now a.label ≡ false) = λ full. elim c.else-limit-table.branch [
      | else-limit-table-via-then-limit-table+else-is_kept w ↦ sym w.is_kept.ensures ∙ w.if-is_kept.false
      | else-limit-table-via-else-limit-table w ↦ absurd (omega (arith, w.if-limit-table.false))
    ] in
    grown_node a.edge.now is c.requires.code c.requires.room possible room-or c.enter-entered.ensures _ _ _
    c.leave.ensures nil
    (grown_nil a.limit a.table.rows _ _ (entered_room c.requires.room c.enter-entered.ensures))
