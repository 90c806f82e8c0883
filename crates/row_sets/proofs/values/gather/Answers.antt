-- Each row of the set is added; once none is left, all have been.
use Rattle.row_sets.specs.Rows.{holds}
use Rattle.row_sets.proofs.Gathers.{gather_done, gather_none, gather_yes}
use Rattle.row_sets.proofs.LabelLaws.{valued_none}
use Rattle.row_sets.proofs.MemberWalks.{last_row, next_row, over_next, over_start}
use Rattle.row_sets.proofs.values.gather.Goals as goal

pub loop-j-init : goal.loop-j-init
loop-j-init c =
    let a = c.args in
    let t = a.table.now in
    let m = c.members-j-items in
    let is = c.into_iter-j-iterator.ensures.into_iter_gives in
    let v = c.none-values in
    record {
      over = over_start a.set t.rows m.result _ is m.ensures.set m.ensures.rows;
      gathered = rw (is, m.ensures.from) (gather_none t.bytes.now t.rows (holds a.set) t.linked.checked v.result v.ensures.1.0 (valued_none t.bytes.now t.rows v.result v.ensures.0 v.ensures.1.1));
    }

pub loop-j-preserved : goal.loop-j-preserved
loop-j-preserved c =
    let a = c.args in
    let t = a.table.now in
    let l = c.loop-j in
    let over = l.invariant.over in
    let (more, next, from) = next_row a.set t.rows l.j-iterator c.next.new.self over c.in-Some.j c.in-Some.ensures.steps in
    record {
      over = over_next a.set t.rows l.j-iterator c.next.new.self over c.in-Some.j c.in-Some.ensures.steps;
      gathered = rw from (gather_yes t.bytes.now t.rows (holds a.set) t.linked.checked l.j-iterator.from l.values l.invariant.gathered c.in-Some.j c.add-values.result next.onward next.between more (next.held more) c.add-values.ensures);
    }

pub returns : goal.returns
returns c =
    let a = c.args in
    let t = a.table.now in
    let l = c.loop-j in
    let last = last_row a.set t.rows l.j-iterator c.next.new.self l.invariant.over c.in-None.ensures.steps in
    let (first, values) = gather_done t.bytes.now t.rows (holds a.set) t.linked.checked l.j-iterator.from l.values l.invariant.gathered last.onward last.between in
    record { first = first; values = values }
