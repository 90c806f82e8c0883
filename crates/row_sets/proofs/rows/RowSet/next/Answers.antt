use native.Mathlib.Omega.{arith}
use Rattle.row_sets.proofs.Words.{at_word, before_word}
use Rattle.row_sets.proofs.rows.RowSet.next.Goals as goal

pub loop-at-init : goal.loop-at-init
loop-at-init c = (omega arith, λ k a b l. absurd (omega arith))

pub overflow_mul-result : goal.overflow_mul-result
overflow_mul-result c = omega (arith, c.loop-at-test.true, c.requires)

pub overflow_add-result : goal.overflow_add-result
overflow_add-result c = omega (arith, c.loop-at-test.true, c.requires)

pub returns-then-i-lt-WORD_ROWS : goal.returns-then-i-lt-WORD_ROWS
returns-then-i-lt-WORD_ROWS c =
    let a = c.args in
    let l = c.loop-at in
    let w = c.word-word in
    let n = c.next_bit-i in
    record {
      onward = omega (arith, l.invariant.0, n.ensures.0);
      between = λ k x y z. before_word a.self l.at n.result w.result w.ensures a.from a.rows l.invariant.1 n.ensures.2 k x y (omega (arith, c.if-i-lt-WORD_ROWS.true)) z;
      held = λ _. at_word a.self l.at n.result w.result w.ensures c.if-i-lt-WORD_ROWS.true (n.ensures.3 c.if-i-lt-WORD_ROWS.true);
    }

pub loop-at-preserved : goal.loop-at-preserved
loop-at-preserved c =
    let a = c.args in
    let l = c.loop-at in
    let w = c.word-word in
    let n = c.next_bit-i in (
      omega (arith, l.invariant.0),
      λ k x y z. before_word a.self l.at n.result w.result w.ensures a.from a.rows l.invariant.1 n.ensures.2 k x (omega (arith, c.if-i-lt-WORD_ROWS.false)) y z,
    )

pub returns : goal.returns
returns c =
    let l = c.loop-at in
    let m = c.loop-at-test.false in
    record { onward = l.invariant.0; between = l.invariant.1; held = λ x. absurd (omega (arith, m)) }
