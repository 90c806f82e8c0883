-- Each function grows a part of what the one above it grows.
use mathlib.Core.Logic.{◌⊎◌, inl, inr}
use mathlib.Core.Path.{◌≡◌, ap, refl, sym, ◌∙◌}
use native.Mathlib.Omega.{arith}
use Rattle.table.specs.Layout.{kind_exists, kind_for_all}
use Rattle.ale.specs.Merged.{label_of_set}
use Rattle.ale.specs.PictureSignature.{picture_signature}
use Rattle.ale.specs.Rows.{filter_below}
use Rattle.ale.specs.Tree.{cons, exists}
use Rattle.ale.specs.Tree.{nil}
use Rattle.meaning.specs.Meaning.{kind_at, picture_table}
use Rattle.row_sets.specs.Rows.{also, hangs, holds, of_role}
use Rattle.row_sets.specs.Parts.{successors_at}
use Rattle.row_sets.specs.declared.members.Members.{Members}
use Rattle.row_sets.specs.declared.members.Roles.{Roles}
use Rattle.row_sets.specs.declared.rows.RowSet.{RowSet}
use Rattle.normal_writer.proofs.Growth.{grown_append, grown_nil, grown_over, grown_room, grown_same, grown_some}
use Rattle.row_sets.proofs.LabelLaws.{valued_with}
use Rattle.row_sets.proofs.Masks.{edge_row}
use Rattle.row_sets.proofs.MemberWalks.{next_row, over_next, over_start}
use Rattle.normal_writer.proofs.Nodes.{grown_node}
use Rattle.row_sets.proofs.PartLaws.{code_later, merged_leaf, merged_node, role_parts_is, successors_leaf, successors_roles, successors_same, value_none, value_one}
use Rattle.row_sets.proofs.PartWalks.{exists_first, exists_last, role_first, role_last}
use Rattle.normal_writer.proofs.Turns.{exists_full, exists_turn, role_full, role_turn}
use Prim.Native.Nat.{ℕ, ◌-◌, ◌<◌}
use Rattle.normal_writer.proofs.grow.+graft.Goals as goal

pub graft-returns-then-limit-branch : goal.graft-returns-then-limit-branch
graft-returns-then-limit-branch t c =
    let a = c.args in
    λ q v. grown_over a.limit a.edge.parent a.branch _ a.out.now _ a.edge.role _ c.requires.room c.if-limit-branch.true refl refl

pub graft-returns : goal.graft-returns
graft-returns t c =
    let a = c.args in
    let t = a.survey.now.table in
    let room = c.requires.room in
    let fits : a.branch.merged < a.limit = omega (arith, c.if-limit-branch.false) in
    let en = c.enter-entered in
    let gr = c.graft_roles-below in
    let le = c.leave in
    λ q v.
    let f = successors_at t.bytes.now t.rows a.depth (hangs t.bytes.now q) in
    let l = label_of_set picture_signature (picture_table t.bytes.now) (filter_below q t.rows) in
    let same = successors_same t.bytes.now t.rows (holds a.values.successors.set) (hangs t.bytes.now q) v.successors_are a.depth in
    grown_same a.limit a.edge.parent a.branch le.result a.out.now le.new.out _ _ (ap (λ t. cons (kind_at a.edge.kind) a.edge.role t nil) (sym (merged_node t.bytes.now t.rows t.linked.checked q a.depth)))
    (grown_node a.limit a.branch a.out.now a.edge a.values.label l v.label_is c.requires.coded room fits f en.result gr.result le.result en.new.out gr.new.out le.new.out en.ensures
    (grown_same a.limit a.branch.table.rows en.result gr.result en.new.out gr.new.out _ _ same gr.ensures) le.ensures)

pub graft_exists-loop-j-init : goal.graft_exists-loop-j-init
graft_exists-loop-j-init t c =
    let a = c.args in
    let t = a.survey.now.table in
    let m = c.members-j-items in
    let is = c.into_iter-j-iterator.ensures.into_iter_gives in
    let first = ap (λ (m : Members). m.from) is ∙ m.ensures.from in
    record {
      over = over_start a.some t.rows m.result _ is m.ensures.set m.ensures.rows;
      grown = λ q v. grown_same a.limit a.parent a.branch a.branch a.out.now a.out.now _ _ (sym (exists_first t.bytes.now t.rows a.depth a.role a.some q _ first)) (grown_nil a.limit a.parent a.branch a.out.now c.requires.room);
    }

-- the values are those of a set, and with row j those of the set with the row
pub graft_exists-graft_row-grown-requires : goal.graft_exists-graft_row-grown-requires
graft_exists-graft_row-grown-requires t c =
    let a = c.args in
    let t = a.survey.now.table in
    let l = c.loop-j in
    let (q, v) = c.requires.valued in
    let g = l.invariant.grown q v in
    let (more, _, _) = next_row a.some t.rows l.j-iterator c.next.new.self l.invariant.over c.in-Some.j c.in-Some.ensures.steps in
    let whole = valued_with t.bytes.now t.rows q a.values c.in-Some.j c.add-whole.result more v c.add-whole.ensures in
    let some = grown_some a.limit a.parent a.branch l.grown a.out.now l.out _ c.requires.some g in
    (omega arith, ((also c.in-Some.j q, whole), (grown_room a.limit a.parent a.branch l.grown a.out.now l.out _ c.requires.room g, code_later l.grown.table.rows exists some)))

pub graft_exists-returns-then-limit-grown : goal.graft_exists-returns-then-limit-grown
graft_exists-returns-then-limit-grown t c =
    let a = c.args in
    let t = a.survey.now.table in
    let l = c.loop-j in
    let gr = c.graft_row-grown in
    let step = c.in-Some.ensures.steps in
    let (more, _, _) = next_row a.some t.rows l.j-iterator c.next.new.self l.invariant.over c.in-Some.j step in
    λ q v.
    let one = gr.ensures (also c.in-Some.j q) (valued_with t.bytes.now t.rows q a.values c.in-Some.j c.add-whole.result more v c.add-whole.ensures) in
    exists_full t.bytes.now t.rows a.depth a.role a.some q a.limit a.parent a.branch a.out.now l.j-iterator c.next.new.self l.invariant.over c.in-Some.j step l.grown gr.result l.out _ (l.invariant.grown q v) one c.if-limit-grown.true

pub graft_exists-loop-j-preserved : goal.graft_exists-loop-j-preserved
graft_exists-loop-j-preserved t c =
    let a = c.args in
    let t = a.survey.now.table in
    let l = c.loop-j in
    let gr = c.graft_row-grown in
    let over = l.invariant.over in
    let step = c.in-Some.ensures.steps in
    let (more, _, _) = next_row a.some t.rows l.j-iterator c.next.new.self over c.in-Some.j step in
    record {
      over = over_next a.some t.rows l.j-iterator c.next.new.self over c.in-Some.j step;
      grown = λ q v.
          let one = gr.ensures (also c.in-Some.j q) (valued_with t.bytes.now t.rows q a.values c.in-Some.j c.add-whole.result more v c.add-whole.ensures) in
          exists_turn t.bytes.now t.rows a.depth a.role a.some q a.limit a.parent a.branch a.out.now l.j-iterator c.next.new.self over c.in-Some.j step l.grown gr.result l.out _ (l.invariant.grown q v) one;
    }

pub graft_exists-returns : goal.graft_exists-returns
graft_exists-returns t c =
    let a = c.args in
    let t = a.survey.now.table in
    let l = c.loop-j in
    λ q v. grown_same a.limit a.parent a.branch l.grown a.out.now l.out _ _ (exists_last t.bytes.now t.rows a.depth a.role a.some q l.j-iterator c.next.new.self l.invariant.over c.in-None.ensures.steps) (l.invariant.grown q v)

pub graft_role-returns : goal.graft_role-returns
graft_role-returns t c =
    let a = c.args in
    let t = a.survey.now.table in
    let checked = t.linked.checked in
    let all = c.of_edge-all in
    let some = c.of_edge-some in
    let ga = c.gather-values in
    let gv = c.graft_value-grown in
    let ge = c.graft_exists in
    let edge = λ (r : RowSet) (kind : ℕ) (is : (kind ≡ kind_exists) ⊎ (kind ≡ kind_for_all)).
    edge_row t.bytes.now t.rows a.survey.now.masks.now r a.set kind a.role checked a.survey.now.masked c.requires.role_below is c.requires.rootless in
    let parts = role_parts_is t.bytes.now t.rows a.depth a.role (holds all.result) (holds some.result) ga.result.first ga.ensures.first (of_role t.bytes.now a.role (holds a.set))
    (edge all.result kind_for_all (inr refl) all.ensures) (edge some.result kind_exists (inl refl) some.ensures) in
    grown_same a.limit a.parent a.branch ge.result a.out.now _ _ _ parts
    (grown_append a.limit a.parent a.branch gv.result ge.result a.out.now _ _ _ _ (gv.ensures (holds all.result) ga.ensures.values) (ge.ensures (holds all.result) ga.ensures.values))

pub graft_roles-returns-then-depth-eq0 : goal.graft_roles-returns-then-depth-eq0
graft_roles-returns-then-depth-eq0 t c =
    let a = c.args in
    let t = a.survey.now.table in
    grown_same a.limit a.parent a.branch a.branch a.out.now a.out.now _ _ (sym (successors_leaf t.bytes.now t.rows (holds a.successors.set) a.depth c.if-depth-eq0.true)) (grown_nil a.limit a.parent a.branch a.out.now c.requires.room)

pub graft_roles-loop-role-init : goal.graft_roles-loop-role-init
graft_roles-loop-role-init t c =
    let a = c.args in
    let t = a.survey.now.table in
    let m = c.distinct_roles-role-items in
    let is = c.into_iter-role-iterator.ensures.into_iter_gives in
    let first = ap (λ (m : Roles). m.from) is ∙ m.ensures.from in
    record {
      of = ap (λ (m : Roles). m.word) is ∙ m.ensures.word;
      grown = grown_same a.limit a.parent a.branch a.branch a.out.now a.out.now _ _ (sym (role_first t.bytes.now t.rows (a.depth - 1) a.successors _ first)) (grown_nil a.limit a.parent a.branch a.out.now c.requires.room);
    }

pub graft_roles-returns-then-limit-grown : goal.graft_roles-returns-then-limit-grown
graft_roles-returns-then-limit-grown t c =
    let a = c.args in
    let t = a.survey.now.table in
    let l = c.loop-role in
    let gr = c.graft_role-grown in
    role_full t.bytes.now t.rows a.depth a.successors c.requires.known a.limit a.parent a.branch a.out.now l.role-iterator c.next.new.self l.invariant.of c.in-Some.role c.in-Some.ensures.steps l.grown gr.result l.out _ l.invariant.grown gr.ensures
    c.if-depth-eq0.false c.if-limit-grown.true

pub graft_roles-loop-role-preserved : goal.graft_roles-loop-role-preserved
graft_roles-loop-role-preserved t c =
    let a = c.args in
    let t = a.survey.now.table in
    let l = c.loop-role in
    let gr = c.graft_role-grown in
    let step = c.in-Some.ensures.steps in
    let (_, _, _, _, same) = step in
    record {
      of = same ∙ l.invariant.of;
      grown = role_turn t.bytes.now t.rows a.depth a.successors c.requires.known a.limit a.parent a.branch a.out.now l.role-iterator c.next.new.self l.invariant.of c.in-Some.role step l.grown gr.result l.out _ l.invariant.grown gr.ensures;
    }

pub graft_roles-returns : goal.graft_roles-returns
graft_roles-returns t c =
    let a = c.args in
    let t = a.survey.now.table in
    let l = c.loop-role in
    let last = role_last t.bytes.now t.rows (a.depth - 1) a.successors c.requires.known l.role-iterator c.next.new.self l.invariant.of c.in-None.ensures.steps in
    grown_same a.limit a.parent a.branch l.grown a.out.now l.out _ _ (last ∙ sym (successors_roles t.bytes.now t.rows (holds a.successors.set) a.depth c.if-depth-eq0.false)) l.invariant.grown

pub graft_row-returns-then-values-eq0 : goal.graft_row-returns-then-values-eq0
graft_row-returns-then-values-eq0 t c =
    let a = c.args in
    let t = a.survey.now.table in
    let leaf = c.graft_leaf in
    λ q v.
    grown_same a.limit a.edge.parent a.branch leaf.result a.out.now _ _ _ (ap (λ t. cons (kind_at a.edge.kind) a.edge.role t nil) (sym (merged_leaf t.bytes.now t.rows t.linked.checked q a.values v c.if-values-eq0.true a.depth)))
    (leaf.ensures (label_of_set picture_signature (picture_table t.bytes.now) (filter_below q t.rows)) v.label_is)

pub graft_value-returns-then-survey-values : goal.graft_value-returns-then-survey-values
graft_value-returns-then-survey-values t c =
    let a = c.args in
    let t = a.survey.now.table in
    λ q v. grown_same a.limit a.parent a.branch a.branch a.out.now a.out.now _ _ (sym (value_none t.bytes.now t.rows a.depth a.role q a.values.first c.if-survey-values.true)) (grown_nil a.limit a.parent a.branch a.out.now c.requires.room)

pub graft_value-returns : goal.graft_value-returns
graft_value-returns t c =
    let a = c.args in
    let t = a.survey.now.table in
    let gr = c.graft_row in
    λ q v. grown_same a.limit a.parent a.branch gr.result a.out.now _ _ _ (sym (value_one t.bytes.now t.rows a.depth a.role q a.values.first (omega (arith, c.if-survey-values.false)))) (gr.ensures q v)
