-- Row 0 hangs from none, and another row from its parent alone; of such a row kind and role decide.
use mathlib.Core.Path.{◌∙◌, sym}
use Rattle.map_check.proofs.MapLaws.{edge_elsewhere, edge_joined, edge_root}
use Rattle.map_check.proofs.map.edge_joins.Goals as goal

pub returns-then-v-eq0 : goal.returns-then-v-eq0
returns-then-v-eq0 c =
    let a = c.args in
    sym (edge_root a.first.now a.second.now a.i a.u a.v c.if-v-eq0.true)

pub returns-then-parent-u : goal.returns-then-parent-u
returns-then-parent-u c =
    let a = c.args in
    sym (edge_elsewhere a.first.now a.second.now a.i a.u a.v (λ e. c.if-parent-u.true (c.parent.ensures.0 ∙ e)))

pub returns : goal.returns
returns c =
    let a = c.args in
    edge_joined a.first.now a.second.now a.i a.u a.v c.same_edge.result c.if-v-eq0.false
    (sym c.parent.ensures.0 ∙ c.if-parent-u.false) c.same_edge.ensures
