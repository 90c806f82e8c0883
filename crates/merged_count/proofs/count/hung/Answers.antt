-- Each row of the set adds what hangs from it; once none is left, all have.
use mathlib.Core.Path.{◌∙◌, ap, refl}
use Rattle.row_sets.specs.Rows.{holds}
use Rattle.row_sets.specs.declared.members.Members.{Members}
use Rattle.row_sets.proofs.Gathers.{found_done, found_none, found_row}
use Rattle.row_sets.proofs.MemberWalks.{last_row, next_row, over_next, over_start}
use Rattle.merged_count.proofs.Hangings.{walk_end, walk_next, walk_start}
use Rattle.merged_count.proofs.count.hung.Goals as goal

pub loop-j-init : goal.loop-j-init
loop-j-init c =
    let a = c.args in
    let t = a.table.now in
    let m = c.members-j-items in
    let is = c.into_iter-j-iterator.ensures.into_iter_gives in
    let from = ap (λ (m : Members). m.from) is ∙ m.ensures.from in
    let none = c.none-successors in
    record {
      over = over_start a.set t.rows m.result _ is m.ensures.set m.ensures.rows;
      first = rw from (found_none (holds a.set) t.rows t.rows refl);
      hung = walk_start t.bytes.now t.rows t.linked.checked a.set _ none.result from none.ensures;
    }

pub loop-j-preserved : goal.loop-j-preserved
loop-j-preserved c =
    let a = c.args in
    let t = a.table.now in
    let l = c.loop-j in
    let over = l.invariant.over in
    let step = c.in-Some.ensures.steps in
    let (more, next, from) = next_row a.set t.rows l.j-iterator c.next.new.self over c.in-Some.j step in
    record {
      over = over_next a.set t.rows l.j-iterator c.next.new.self over c.in-Some.j step;
      first = found_row (holds a.set) t.rows _ c.in-Some.j _ refl more (next.held more);
      hung = walk_next t.bytes.now t.rows t.linked.checked a.set l.j-iterator c.next.new.self over c.in-Some.j l.successors _ step l.invariant.hung c.add-successors.ensures;
    }

pub returns : goal.returns
returns c =
    let a = c.args in
    let t = a.table.now in
    let l = c.loop-j in
    let step = c.in-None.ensures.steps in
    let last = last_row a.set t.rows l.j-iterator c.next.new.self l.invariant.over step in
    record {
      successors = walk_end t.bytes.now t.rows t.linked.checked a.set l.j-iterator c.next.new.self l.invariant.over l.successors step l.invariant.hung;
      first = found_done (holds a.set) t.rows l.j-iterator.from l.first last.between l.invariant.first;
    }
