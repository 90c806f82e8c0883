use mathlib.Core.Path.{◌∙◌, ap, sym}
use native.Mathlib.Omega.{arith}
use Rattle.row_sets.proofs.Walks.{turned}
use Rattle.product_rows.proofs.SiblingRows.{drop_first, drop_later, headed}
use Rattle.product_rows.specs.Siblings.{siblings}
use Rattle.product_rows.proofs.edge.seek.Goals as goal

pub returns-then-key-edge_key-clause-rest : goal.returns-then-key-edge_key-clause-rest
returns-then-key-edge_key-clause-rest c =
    let w = c.args.walk in
    let table = w.table.now in
    let turn = turned {t = table} c.loop-e.e-iterator c.next.new.self
    (ap (λ u. u.now) c.loop-e.invariant.table_kept) c.in-Some.ensures.steps in
    ap (siblings table.bytes.now table.rows) (c.from.ensures.next ∙ sym turn.is)
    ∙ sym (c.loop-e.invariant.rest ∙ drop_first (headed turn) c.args.key (omega (arith, c.edge_key.ensures)))

pub loop-e-preserved : goal.loop-e-preserved
loop-e-preserved c =
    let turn = turned {t = c.args.walk.table.now} c.loop-e.e-iterator c.next.new.self
    (ap (λ u. u.now) c.loop-e.invariant.table_kept) c.in-Some.ensures.steps in
    record {
      table_kept = c.in-Some.ensures.steps.3 ∙ c.loop-e.invariant.table_kept;
      above_kept = turn.above ∙ c.loop-e.invariant.above_kept;
      rest = c.loop-e.invariant.rest ∙ drop_later (headed turn) c.args.key
          (omega (arith, c.edge_key.ensures, c.if-key-edge_key.false));
    }
