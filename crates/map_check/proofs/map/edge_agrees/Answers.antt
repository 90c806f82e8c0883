-- A successor of a row whose image is marked may stay at that image; every other edge has to be joined.
use mathlib.Core.Path.{◌∙◌, sym}
use Rattle.map_check.proofs.MapLaws.{edge_apart, edge_stays, edge_unmarked}
use Rattle.map_check.proofs.map.edge_agrees.Goals.{then-v-u+else-impossible-eq1, else-v-u}
use Rattle.map_check.proofs.map.edge_agrees.Goals as goal

pub returns-then-impossible-eq1 : goal.returns-then-impossible-eq1
returns-then-impossible-eq1 c =
    let a = c.args in
    sym
    (edge_stays a.first.now a.second.now a.i a.u a.v c.if-v-u.true
    (sym c.impossible.ensures ∙ c.if-impossible-eq1.true))

pub returns : goal.returns
returns c =
    let a = c.args in
    let joins = c.edge_joins in
    elim c.if-v-u.branch [
      | then-v-u+else-impossible-eq1 w ↦
          edge_unmarked a.first.now a.second.now a.i a.u a.v joins.result joins.ensures (λ e. w.if-impossible-eq1.false (w.impossible.ensures ∙ e))
      | else-v-u w ↦
          edge_apart a.first.now a.second.now a.i a.u a.v joins.result joins.ensures w.if-v-u.false
    ]
