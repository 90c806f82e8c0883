use Prim.Native.Nat.{◌-◌}
use mathlib.Core.Path.{◌∙◌, ap}
use Rattle.ale.specs.Tree.{cons, nil}
use Rattle.homomorphism_search.specs.Search.{tree_at}
use Rattle.row_sets.proofs.Walks.{turned}
use Rattle.product_rows.proofs.Copies.{copy_row, made_by, rows_parts}
use Rattle.product_rows.proofs.Growth.{onward_end, onward_full, onward_next, onward_start}
use Rattle.product_rows.proofs.SiblingRows.{headed, siblings_none, trees_level}
use Rattle.product_rows.specs.Siblings.{forest_of}
use Rattle.product_rows.proofs.copy.+copy.Goals as goal

pub copy_below-loop-c-init : goal.copy_below-loop-c-init
copy_below-loop-c-init t c =
    let a = c.args in
    let same = c.into_iter-c-iterator.ensures.into_iter_gives in
    let first = c.below-c-items.ensures in
    record {
      table_kept = ap (λ b. b.table.now) same ∙ first.table;
      onward = onward_start c.requires.room c.requires.some
          (trees_level a.t.now.bytes.now a.depth a.v a.t.now.linked c.requires.row _
          (ap (λ b. b.next) same ∙ first.next) c.if-depth-eq0.false);
    }

pub copy_below-returns-then-limit-grown : goal.copy_below-returns-then-limit-grown
copy_below-returns-then-limit-grown t c =
    let turn = turned c.loop-c.c-iterator c.next.new.self c.loop-c.invariant.table_kept c.in-Some.ensures.steps in
    onward_full _ (rows_parts (headed turn) (c.args.depth - 1)) c.loop-c.invariant.onward
    (made_by (λ k r. cons k r (tree_at c.args.t.now.bytes.now
    (c.args.depth - 1) c.in-Some.c) nil) c.edge_at-edge.ensures c.copy_tree-grown.ensures)
    c.if-limit-grown.true

pub copy_below-loop-c-preserved : goal.copy_below-loop-c-preserved
copy_below-loop-c-preserved t c =
    let turn = turned c.loop-c.c-iterator c.next.new.self c.loop-c.invariant.table_kept c.in-Some.ensures.steps in
    record {
      table_kept = turn.table;
      onward = onward_next _ (rows_parts (headed turn) (c.args.depth - 1)) c.loop-c.invariant.onward
          (made_by (λ k r. cons k r (tree_at c.args.t.now.bytes.now
          (c.args.depth - 1) c.in-Some.c) nil) c.edge_at-edge.ensures c.copy_tree-grown.ensures)
          c.if-limit-grown.false;
    }

pub copy_below-returns : goal.copy_below-returns
copy_below-returns t c =
    let a = c.args in
    onward_end (ap (forest_of a.t.now.bytes.now (a.depth - 1))
    (siblings_none a.t.now.bytes.now a.t.now.rows c.loop-c.c-iterator.next c.in-None.ensures.steps.0))
    c.loop-c.invariant.onward

pub copy_tree-returns : goal.copy_tree-returns
copy_tree-returns t c =
    copy_row _ c.args.depth c.args.v c.args.edge.now c.label_at.ensures c.requires.code c.requires.room
    c.if-limit-table.false c.push_row-entered.ensures c.copy_below.ensures
