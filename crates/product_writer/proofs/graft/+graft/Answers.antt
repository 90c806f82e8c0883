use Prim.Native.Nat.{◌-◌, ◌<◌, ◌≤◌, ℕ}
use mathlib.Core.List.{List}
use Rattle.table_rows.specs.declared.builder.Builder.{Builder}
use Rattle.row_sets.specs.declared.linked.Table.{Table}
use borrow.Author.Tests.{eq-eqb, ne_eqb}
use mathlib.Core.Bool.{false}
use mathlib.Core.Path.{◌∙◌, ◌≡◌, ap, subst, sym}
use native.Mathlib.Omega.{arith}
use Rattle.homomorphism_search.specs.Search.{tree_at}
use Rattle.ale.specs.Forest.{cons_reduced}
use Rattle.ale.specs.PictureSignature.{picture_signature}
use Rattle.ale.specs.Tree.{nil}
use Rattle.meaning.specs.File.{code_at}
use Rattle.row_sets.specs.Rows.{Checked}
use Rattle.normal_writer.specs.declared.node.Edge.{Edge}
use Rattle.meaning.specs.Meaning.{kind_at}
use Rattle.row_sets.proofs.Walks.{turned}
use Rattle.product_rows.specs.Grown.{Grown, stays}
use Rattle.product_rows.specs.Siblings.{Kept, drop_lower, edge_of, siblings}
use Rattle.product_rows.proofs.Copies.{made_by}
use Rattle.product_rows.proofs.Edges.{code_kept}
use Rattle.product_rows.proofs.Growth.{grown_same}
use Rattle.product_rows.proofs.Nodes.{common_is}
use Rattle.product_rows.proofs.SiblingRows.{headed}
use Rattle.product_writer.specs.Tables.{Hung, Paired, pairs_from, product_at}
use Rattle.product_writer.proofs.Grafts.{graft_full, graft_leaf, graft_left, leaf_tests, pair_first, pair_second, pairs_leaf, pairs_none}
use Rattle.product_writer.proofs.Pairings.{each_end, each_full, each_kept, each_next, each_other, pairs_end, pairs_full, pairs_next, pairs_over, pairs_paired, pairs_start}
use Rattle.product_writer.proofs.graft.+graft.Goals as goal
use Rattle.product_writer.proofs.graft.+graft.Goals.{graft-else-limit-table-via-then-limit-table+else-is_kept, graft-else-limit-table-via-else-limit-table}

-- what is said of the table that a walk goes along, of that table
sought_along : {b t : Table} (key v e : ℕ) → b ≡ t → siblings b.bytes.now b.rows v
    ≡ drop_lower b.bytes.now key (siblings b.bytes.now b.rows e) →
    siblings t.bytes.now t.rows v ≡ drop_lower t.bytes.now key (siblings t.bytes.now t.rows e)
sought_along key v e same sought =
    subst (λ (u : Table). siblings u.bytes.now u.rows v ≡ drop_lower u.bytes.now key
    (siblings u.bytes.now u.rows e)) same sought

grown_along : (s : List ℕ) (depth c v : ℕ) {b t : Table} {limit parent : ℕ} {grown r : Builder} {out end : List ℕ} →
    b ≡ t →
    Grown limit parent grown out (pairs_from s b.bytes.now b.rows depth c v) r end →
    Grown limit parent grown out (pairs_from s t.bytes.now t.rows depth c v) r end
grown_along s depth c v {limit = limit} {parent} {grown} {r} {out} {end} same more =
    subst (λ (u : Table). Grown limit parent grown out (pairs_from s u.bytes.now u.rows depth c v) r end) same more

pub graft-returns-then-a-eq1 : goal.graft-returns-then-a-eq1
graft-returns-then-a-eq1 t c =
    let a = c.args in
    let one = c.label_at-a in
    grown_same a.limit a.edge.now.parent a.table c.copy_tree.result a.out.now c.copy_tree.new.out _ _
    (sym (pair_first a.first.now.bytes.now a.second.now.bytes.now a.depth a.u a.w
    (kind_at a.edge.now.kind) a.edge.now.role
    (sym one.ensures.bottom_is ∙ eq-eqb one.result.bottom 1 c.if-a-eq1.true) c.requires.kept.1))
    c.copy_tree.ensures

pub graft-returns-then-b-eq1 : goal.graft-returns-then-b-eq1
graft-returns-then-b-eq1 t c =
    let a = c.args in
    let one = c.label_at-a in
    let two = c.label_at-b in
    grown_same a.limit a.edge.now.parent a.table c.copy_tree-then-b-eq1.result a.out.now c.copy_tree-then-b-eq1.new.out
    _ _
    (sym (pair_second a.first.now.bytes.now a.second.now.bytes.now a.depth a.u a.w
    (kind_at a.edge.now.kind) a.edge.now.role
    (sym one.ensures.bottom_is ∙ ne_eqb one.result.bottom 1 c.if-a-eq1.false)
    (sym two.ensures.bottom_is ∙ eq-eqb two.result.bottom 1 c.if-b-eq1.true) c.requires.kept.0))
    c.copy_tree-then-b-eq1.ensures

pub graft-returns-then-is_kept : goal.graft-returns-then-is_kept
graft-returns-then-is_kept t c =
    let a = c.args in
    let one = c.label_at-a in
    let two = c.label_at-b in
    let both = c.common_label-label.ensures in
    graft_full a.first.now.bytes.now a.second.now.bytes.now a.depth a.u a.w a.edge.now c.requires.room c.requires.code
    (sym one.ensures.bottom_is ∙ ne_eqb one.result.bottom 1 c.if-a-eq1.false)
    (sym two.ensures.bottom_is ∙ ne_eqb two.result.bottom 1 c.if-b-eq1.false)
    (common_is one.ensures two.ensures both.wanted both.excluded both.bottom)
    c.if-limit-table.true (sym c.is_kept.ensures ∙ c.if-is_kept.true) c.beyond.ensures

pub graft-returns : goal.graft-returns
graft-returns t c =
    let a = c.args in
    let one = c.label_at-a in
    let two = c.label_at-b in
    let both = c.common_label-label.ensures in
    let room-or : (a.limit ≤ a.table.rows → stays a.edge.now c.common_label-label.result ≡ false) =
    λ full. elim c.else-limit-table.branch [
      | graft-else-limit-table-via-then-limit-table+else-is_kept w ↦ sym w.is_kept.ensures ∙ w.if-is_kept.false
      | graft-else-limit-table-via-else-limit-table w ↦ absurd (omega (arith, w.if-limit-table.false))
    ] in
    graft_left a.first.now.bytes.now a.second.now.bytes.now a.depth a.u a.w a.edge.now c.requires.room c.requires.code
    (sym one.ensures.bottom_is ∙ ne_eqb one.result.bottom 1 c.if-a-eq1.false)
    (sym two.ensures.bottom_is ∙ ne_eqb two.result.bottom 1 c.if-b-eq1.false)
    (common_is one.ensures two.ensures both.wanted both.excluded both.bottom)
    room-or c.enter-entered.ensures c.leave.ensures c.graft_pairs-below.ensures

pub graft_each-returns-then-edge_key-key : goal.graft_each-returns-then-edge_key-key
graft_each-returns-then-edge_key-key t c =
    let turn = turned c.loop-v.v-iterator c.next.new.self c.loop-v.invariant.table_kept c.in-Some.ensures.steps in
    each_other c.loop-v.invariant.at (headed turn) (λ same. c.if-edge_key-key.true
    (c.edge_key.ensures ∙ same ∙ sym c.requires.key))

pub graft_each-graft_pair-grown-requires : goal.graft_each-graft_pair-grown-requires
graft_each-graft_pair-grown-requires t c =
    let at = c.loop-v.invariant.at in
    let turn = turned c.loop-v.v-iterator c.next.new.self c.loop-v.invariant.table_kept c.in-Some.ensures.steps in
    let second = each_kept at (headed turn) (sym c.edge_key.ensures ∙ c.if-edge_key-key.false ∙ c.requires.key) in (
      omega arith,
      (
        (c.requires.hung, (turn.on turn.there).0),
        ((c.requires.paired.first_kept, second), (at.onward.room, at.onward.some)),
      ),
    )

pub graft_each-returns-then-limit-grown : goal.graft_each-returns-then-limit-grown
graft_each-returns-then-limit-grown t c =
    let turn = turned c.loop-v.v-iterator c.next.new.self c.loop-v.invariant.table_kept c.in-Some.ensures.steps in
    each_full c.loop-v.invariant.at (headed turn) (sym c.edge_key.ensures ∙ c.if-edge_key-key.false ∙ c.requires.key)
    c.graft_pair-grown.ensures c.if-limit-grown.true

pub graft_each-loop-v-preserved : goal.graft_each-loop-v-preserved
graft_each-loop-v-preserved t c =
    let turn = turned c.loop-v.v-iterator c.next.new.self c.loop-v.invariant.table_kept c.in-Some.ensures.steps in
    record {
      table_kept = turn.table;
      at = each_next c.loop-v.invariant.at (headed turn) (sym c.edge_key.ensures ∙ c.if-edge_key-key.false
          ∙ c.requires.key)
          c.graft_pair-grown.ensures c.if-limit-grown.false;
    }

pub graft_each-returns : goal.graft_each-returns
graft_each-returns t c = each_end c.loop-v.invariant.at c.in-None.ensures.steps.0

-- a row's edge is written as it stands
coded : {t : List ℕ} {rows : ℕ} {edge : Edge} (e parent : ℕ) {at : ℕ} → Checked t rows → Hung rows e →
    edge ≡ edge_of t e parent → 0 < at →
    code_at at (kind_at edge.kind) ≡ edge.kind
coded e parent {at} checked hung is some = subst (λ (x : Edge). code_at at (kind_at x.kind) ≡ x.kind) (sym is)
    (code_kept checked e hung.0 hung.1 some)

pub graft_pair-graft_leaf-requires-clause-code : goal.graft_pair-graft_leaf-requires-clause-code
graft_pair-graft_leaf-requires-clause-code t c =
    coded c.args.c c.args.parent c.args.first.now.linked.checked c.requires.rows.0 c.edge_at-leaf.ensures
    c.requires.some

pub graft_pair-returns-then-is_pair_leaf : goal.graft_pair-returns-then-is_pair_leaf
graft_pair-returns-then-is_pair_leaf t c =
    let a = c.args in
    let s = a.first.now in
    let t = a.second.now in
    let both = c.common_label-label.ensures in
    let tests = leaf_tests _ _ _ (sym c.is_pair_leaf.ensures ∙ c.if-is_pair_leaf.true) in
    let code = coded a.c a.parent s.linked.checked c.requires.rows.0 c.edge_at-leaf.ensures c.requires.some in
    made_by (λ k r. cons_reduced picture_signature k r
    (product_at s.bytes.now t.bytes.now a.depth a.c a.v) nil) c.edge_at-leaf.ensures
    (graft_leaf s.bytes.now t.bytes.now a.depth a.c a.v c.edge_at-leaf.result c.requires.room code tests.0 tests.1.0
    (common_is c.label_at.ensures c.label_at-then-is_pair_leaf.ensures both.wanted both.excluded both.bottom)
    (pairs_none s.bytes.now t.bytes.now a.depth a.c a.v s.linked t.linked c.requires.rows.0.1 c.requires.rows.1
    c.requires.kept.0.trim tests.1.1)
    c.graft_leaf.ensures)

pub graft_pair-graft-requires : goal.graft_pair-graft-requires
graft_pair-graft-requires t c =
    let a = c.args in
    let kept = subst (λ (e : Edge). (Kept (kind_at e.kind) (tree_at a.first.now.bytes.now a.depth a.c))
    × (Kept (kind_at e.kind) (tree_at a.second.now.bytes.now a.depth a.v)))
    (sym c.edge_at-edge.ensures) c.requires.kept in
    let code = coded a.c a.parent a.first.now.linked.checked c.requires.rows.0 c.edge_at-edge.ensures c.requires.some in
    (omega arith, ((c.requires.rows.0.1, c.requires.rows.1), (kept, (c.requires.room, code))))

pub graft_pair-returns : goal.graft_pair-returns
graft_pair-returns t c =
    let a = c.args in
    made_by (λ k r. cons_reduced picture_signature k r
    (product_at a.first.now.bytes.now a.second.now.bytes.now a.depth a.c a.v) nil) c.edge_at-edge.ensures
    c.graft.ensures

pub graft_pairs-returns-then-depth-eq0 : goal.graft_pairs-returns-then-depth-eq0
graft_pairs-returns-then-depth-eq0 t c =
    let a = c.args in
    pairs_leaf a.first.now.bytes.now a.second.now.bytes.now a.depth a.u a.w c.requires.room c.if-depth-eq0.true

pub graft_pairs-loop-c-init : goal.graft_pairs-loop-c-init
graft_pairs-loop-c-init t c =
    let a = c.args in
    let same = c.into_iter-c-iterator.ensures.into_iter_gives in
    let first = c.below-c-items.ensures in
    record {
      table_kept = ap (λ b. b.table.now) same ∙ first.table;
      rest_kept = c.below-rest.ensures.table;
      at = pairs_start a.first.now.linked a.second.now.linked c.requires.rows.0 c.requires.rows.1 c.requires.trim.0
          c.requires.trim.1
          c.requires.room c.requires.some c.if-depth-eq0.false
          (ap (λ b. b.next) same ∙ first.next) c.below-rest.ensures.next;
    }

pub graft_pairs-graft_each-grown-requires : goal.graft_pairs-graft_each-grown-requires
graft_pairs-graft_each-grown-requires t c =
    let at = c.loop-c.invariant.at in
    let turn = turned c.loop-c.c-iterator c.next.new.self c.loop-c.invariant.table_kept c.in-Some.ensures.steps in
    let kept = ap (λ u. u.now) c.seek-rest.ensures.table ∙ c.loop-c.invariant.rest_kept in
    let paired = subst (λ (u : Table). Paired c.args.first.now.bytes.now u.bytes.now u.rows
    (c.args.depth - 1) c.in-Some.c c.seek-rest.result.next) (sym kept)
    (pairs_paired at (headed turn) c.edge_key-key.ensures _
    (sought_along _ _ _ c.loop-c.invariant.rest_kept c.seek-rest.ensures.rest)) in (
      omega (arith, c.if-depth-eq0.false),
      (
        (turn.there, (turn.on turn.there).0),
        (c.edge_key-key.ensures, (paired, (at.onward.room, at.onward.some))),
      ),
    )

pub graft_pairs-returns-then-rest-eq0 : goal.graft_pairs-returns-then-rest-eq0
graft_pairs-returns-then-rest-eq0 t c =
    let turn = turned c.loop-c.c-iterator c.next.new.self c.loop-c.invariant.table_kept c.in-Some.ensures.steps in
    pairs_over c.loop-c.invariant.at (headed turn) c.edge_key-key.ensures _
    (sought_along _ _ _ c.loop-c.invariant.rest_kept c.seek-rest.ensures.rest)
    c.if-rest-eq0.true

pub graft_pairs-returns-then-limit-grown : goal.graft_pairs-returns-then-limit-grown
graft_pairs-returns-then-limit-grown t c =
    let turn = turned c.loop-c.c-iterator c.next.new.self c.loop-c.invariant.table_kept c.in-Some.ensures.steps in
    let kept = ap (λ u. u.now) c.seek-rest.ensures.table ∙ c.loop-c.invariant.rest_kept in
    pairs_full c.loop-c.invariant.at (headed turn) c.edge_key-key.ensures _
    (sought_along _ _ _ c.loop-c.invariant.rest_kept c.seek-rest.ensures.rest)
    (grown_along _ _ _ _ kept c.graft_each-grown.ensures) c.if-limit-grown.true

pub graft_pairs-loop-c-preserved : goal.graft_pairs-loop-c-preserved
graft_pairs-loop-c-preserved t c =
    let turn = turned c.loop-c.c-iterator c.next.new.self c.loop-c.invariant.table_kept c.in-Some.ensures.steps in
    let kept = ap (λ u. u.now) c.seek-rest.ensures.table ∙ c.loop-c.invariant.rest_kept in
    record {
      table_kept = turn.table;
      rest_kept = kept;
      at = pairs_next c.loop-c.invariant.at (headed turn) c.edge_key-key.ensures _
          (sought_along _ _ _ c.loop-c.invariant.rest_kept c.seek-rest.ensures.rest)
          (grown_along _ _ _ _ kept c.graft_each-grown.ensures) c.if-limit-grown.false;
    }

pub graft_pairs-returns : goal.graft_pairs-returns
graft_pairs-returns t c = pairs_end c.loop-c.invariant.at c.in-None.ensures.steps.0
