-- Each function counts a part of what the one above it counts.
use mathlib.Core.Logic.{◌⊎◌, inl, inr}
use mathlib.Core.Path.{◌≡◌, ap, refl, sym, ◌∙◌}
use native.Mathlib.Omega.{arith}
use Rattle.table.specs.Layout.{kind_exists, kind_for_all, roles}
use Prim.Native.Nat.{suc, ℕ}
use Rattle.row_sets.specs.declared.rows.RowSet.{RowSet}
use Rattle.row_sets.specs.declared.members.Members.{Members}
use Rattle.row_sets.specs.declared.members.Roles.{Roles}
use Rattle.row_sets.specs.Parts.{roles_at}
use Rattle.row_sets.specs.Rows.{holds, of_role}
use Rattle.row_sets.proofs.LabelLaws.{known_with}
use Rattle.row_sets.proofs.Masks.{edge_row}
use Rattle.row_sets.proofs.MemberWalks.{over_next, over_start}
use Rattle.row_sets.proofs.PartLaws.{roles_more, successors_leaf, successors_roles}
use Rattle.row_sets.proofs.PartWalks.{role_first, role_last, role_step}
use Rattle.merged_count.proofs.Counts.{counts_append, counts_full, counts_none, counts_same, leaf_size, role_beside, role_parts_counted}
use Rattle.merged_count.proofs.Counts.{turn_end, turn_full, turn_on, turn_start, value_turn}
use Rattle.merged_count.proofs.Hangings.{beside_leaf, beside_more}
use Prim.Native.Nat.{◌-◌, ◌<◌, ◌≤◌}
use Rattle.merged_count.proofs.count.+count.Goals.{count_role-then-first-rows, count_role-else-first-rows}
use Rattle.merged_count.proofs.count.+count.Goals as goal

pub count_beside-count_row-requires : goal.count_beside-count_row-requires
count_beside-count_row-requires t c =
    let a = c.args in
    let t = a.survey.now.table in
    let known = known_with t.bytes.now t.rows a.c a.parts.below c.add-whole.result c.requires.inside c.requires.beside.known c.add-whole.ensures in
    (omega arith, (c.requires.low, (c.requires.counted, known)))

pub count_beside-returns-then-table-c-ne0 : goal.count_beside-returns-then-table-c-ne0
count_beside-returns-then-table-c-ne0 t c =
    let a = c.args in
    let t = a.survey.now.table in
    let add = c.add-whole in
    let more = beside_more t.bytes.now t.rows a.c a.parts.below add.result add.ensures a.depth in
    omega (arith, c.count_row.ensures, more)

-- where nothing hangs from row c, what counts is what A does
pub count_beside-returns-then-limit-counted : goal.count_beside-returns-then-limit-counted
count_beside-returns-then-limit-counted t c =
    let a = c.args in
    let t = a.survey.now.table in
    let leaf = beside_leaf t.bytes.now t.rows t.links.now a.parts.below a.c t.linked.linked c.requires.inside c.if-table-c-ne0.false a.depth in
    omega (arith, leaf, c.requires.beside.each_is, c.if-limit-counted.true)

pub count_beside-returns-else-limit-counted : goal.count_beside-returns-else-limit-counted
count_beside-returns-else-limit-counted t c =
    let a = c.args in
    let t = a.survey.now.table in
    let leaf = beside_leaf t.bytes.now t.rows t.links.now a.parts.below a.c t.linked.linked c.requires.inside c.if-table-c-ne0.false a.depth in
    omega (arith, leaf, c.requires.beside.each_is, c.if-limit-counted.false)

pub count_exists-loop-j-init : goal.count_exists-loop-j-init
count_exists-loop-j-init t c =
    let a = c.args in
    let t = a.survey.now.table in
    let m = c.members-j-items in
    let is = c.into_iter-j-iterator.ensures.into_iter_gives in
    record {
      over = over_start a.parts.some t.rows m.result _ is m.ensures.set m.ensures.rows;
      turning = turn_start t.bytes.now t.rows a.depth a.parts a.limit a.merged _ (ap (λ (m : Members). m.from) is ∙ m.ensures.from) c.requires.counted;
    }

pub count_exists-returns-then-limit-counted : goal.count_exists-returns-then-limit-counted
count_exists-returns-then-limit-counted t c =
    let a = c.args in
    let t = a.survey.now.table in
    let l = c.loop-j in
    let one = c.count_beside-counted in
    turn_full t.bytes.now t.rows a.depth a.parts a.limit a.merged l.j-iterator c.next.new.self l.invariant.over l.counted l.invariant.turning
    t.linked.checked c.in-Some.j one.result c.in-Some.ensures.steps one.ensures c.if-limit-counted.true

pub count_exists-loop-j-preserved : goal.count_exists-loop-j-preserved
count_exists-loop-j-preserved t c =
    let a = c.args in
    let t = a.survey.now.table in
    let l = c.loop-j in
    let one = c.count_beside-counted in
    let over = l.invariant.over in
    let step = c.in-Some.ensures.steps in
    record {
      over = over_next a.parts.some t.rows l.j-iterator c.next.new.self over c.in-Some.j step;
      turning = turn_on t.bytes.now t.rows a.depth a.parts a.limit a.merged l.j-iterator c.next.new.self over l.counted l.invariant.turning t.linked.checked c.in-Some.j one.result step one.ensures;
    }

pub count_exists-returns : goal.count_exists-returns
count_exists-returns t c =
    let a = c.args in
    let t = a.survey.now.table in
    let l = c.loop-j in
    turn_end t.bytes.now t.rows a.depth a.parts a.limit a.merged l.j-iterator c.next.new.self l.invariant.over l.counted l.invariant.turning c.in-None.ensures.steps

pub count_role-count_exists-requires : goal.count_role-count_exists-requires
count_role-count_exists-requires t c =
    let a = c.args in
    let t = a.survey.now.table in
    let whole = c.count_row-whole in
    let counted = c.if-first-rows.counted in
    let between : (a.merged ≤ counted) × (counted ≤ suc a.limit) =
    elim c.if-first-rows.branch [
      | count_role-then-first-rows w ↦ (omega (arith, w.counted-is, whole.ensures, c.requires.counted), omega (arith, w.counted-is, whole.ensures))
      | count_role-else-first-rows w ↦ (omega (arith, w.counted-is), omega (arith, w.counted-is, c.requires.counted))
    ] in
    let beside = role_beside t.bytes.now t.rows a.depth c.of_edge-all.result c.hung-first.result.0 a.limit a.merged whole.result c.hung-first.ensures.successors c.requires.counted whole.ensures counted c.of_edge-some.result between.0 in
    (omega arith, (c.requires.low, (between.1, beside)))

pub count_role-returns : goal.count_role-returns
count_role-returns t c =
    let a = c.args in
    let t = a.survey.now.table in
    let checked = t.linked.checked in
    let all = c.of_edge-all in
    let hung = c.hung-first in
    let some = c.of_edge-some in
    let whole = c.count_row-whole in
    let counted = c.if-first-rows.counted in
    let which : ((hung.result.1 < t.rows) × (counted ≡ whole.result)) ⊎ ((t.rows ≤ hung.result.1) × (counted ≡ a.merged)) =
    elim c.if-first-rows.branch [
      | count_role-then-first-rows w ↦ inl (w.if-first-rows.true, w.counted-is)
      | count_role-else-first-rows w ↦ inr (w.if-first-rows.false, w.counted-is)
    ] in
    let value = value_turn t.bytes.now t.rows a.depth all.result hung.result.0 a.limit a.merged whole.result
    hung.ensures.successors c.requires.counted whole.ensures hung.result.1 counted a.role checked which in
    let edge = λ (r : RowSet) (kind : ℕ) (is : (kind ≡ kind_exists) ⊎ (kind ≡ kind_for_all)).
    edge_row t.bytes.now t.rows a.survey.now.masks.now r a.set kind a.role checked a.survey.now.masked c.requires.role_below is c.requires.rootless in
    role_parts_counted t.bytes.now t.rows a.depth a.role all.result some.result hung.result.1 a.limit a.merged counted c.count_exists.result
    (of_role t.bytes.now a.role (holds a.set)) hung.ensures.first (edge all.result kind_for_all (inr refl) all.ensures) (edge some.result kind_exists (inl refl) some.ensures)
    value (c.count_exists.ensures (holds all.result) a.role hung.ensures.successors)

pub count_row-returns-then-successors-eq0 : goal.count_row-returns-then-successors-eq0
count_row-returns-then-successors-eq0 t c =
    let a = c.args in
    let t = a.survey.now.table in
    let leaf = leaf_size t.bytes.now t.rows a.successors c.requires.known c.if-successors-eq0.true a.depth in
    omega (arith, c.if-limit-merged.false, leaf)

pub count_successors-returns-then-depth-eq0 : goal.count_successors-returns-then-depth-eq0
count_successors-returns-then-depth-eq0 t c =
    let a = c.args in
    let t = a.survey.now.table in
    counts_none a.limit a.merged _ c.requires.counted (successors_leaf t.bytes.now t.rows (holds a.successors.set) a.depth c.if-depth-eq0.true)

pub count_successors-loop-role-init : goal.count_successors-loop-role-init
count_successors-loop-role-init t c =
    let a = c.args in
    let t = a.survey.now.table in
    let m = c.distinct_roles-role-items in
    let is = c.into_iter-role-iterator.ensures.into_iter_gives in
    record {
      of = ap (λ (m : Roles). m.word) is ∙ m.ensures.word;
      counts = counts_none a.limit a.merged _ c.requires.counted (role_first t.bytes.now t.rows (a.depth - 1) a.successors _ (ap (λ (m : Roles). m.from) is ∙ m.ensures.from));
    }

pub count_successors-returns-then-limit-counted : goal.count_successors-returns-then-limit-counted
count_successors-returns-then-limit-counted t c =
    let a = c.args in
    let t = a.survey.now.table in
    let p = holds a.successors.set in
    let l = c.loop-role in
    let next = c.next.new.self in
    let turn = role_step t.bytes.now t.rows (a.depth - 1) a.successors c.requires.known l.role-iterator next l.invariant.of c.in-Some.role c.in-Some.ensures.steps in
    let whole = successors_roles t.bytes.now t.rows p a.depth c.if-depth-eq0.false in
    counts_same a.limit a.merged _ (roles_at t.bytes.now t.rows (a.depth - 1) p roles) _ (sym whole)
    (counts_full a.limit a.merged _ (roles_at t.bytes.now t.rows (a.depth - 1) p next.from) _
    (counts_append a.limit a.merged l.counted _ _ _ _ turn l.invariant.counts c.count_role-counted.ensures)
    c.if-limit-counted.true (roles_more t.bytes.now t.rows p (a.depth - 1) next.from roles next.within))

pub count_successors-loop-role-preserved : goal.count_successors-loop-role-preserved
count_successors-loop-role-preserved t c =
    let a = c.args in
    let t = a.survey.now.table in
    let l = c.loop-role in
    let next = c.next.new.self in
    let step = c.in-Some.ensures.steps in
    let turn = role_step t.bytes.now t.rows (a.depth - 1) a.successors c.requires.known l.role-iterator next l.invariant.of c.in-Some.role step in
    record {
      of = (let (_, _, _, _, same) = step in same ∙ l.invariant.of);
      counts = counts_append a.limit a.merged l.counted _ _ _ _ turn l.invariant.counts c.count_role-counted.ensures;
    }

pub count_successors-returns : goal.count_successors-returns
count_successors-returns t c =
    let a = c.args in
    let t = a.survey.now.table in
    let p = holds a.successors.set in
    let l = c.loop-role in
    let last = role_last t.bytes.now t.rows (a.depth - 1) a.successors c.requires.known l.role-iterator c.next.new.self l.invariant.of c.in-None.ensures.steps in
    counts_same a.limit a.merged l.counted _ _ (last ∙ sym (successors_roles t.bytes.now t.rows p a.depth c.if-depth-eq0.false)) l.invariant.counts
