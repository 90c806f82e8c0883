-- Each verdict has its text, put from the first byte on; the lines of a map come after the first line, and there is
-- room for them.
use lib.ListN.{length-append}
use mathlib.Core.List.{◌++◌}
use mathlib.Core.Path.{◌∙◌, ◌≡◌, ap}
use native.Mathlib.Omega.{arith}
use Rattle.std.proofs.Common.{Ok}
use Rattle.subsumption.specs.declared.verdict.Verdict.TheVariants.{Yes}
use Rattle.verdict_lines.specs.Lines.{map_lines, map_rows, output, text}
use Rattle.verdict_lines.proofs.Gatherings.{added_front, added_on}
use Rattle.verdict_lines.proofs.MapLines.{map_room}
use Rattle.verdict_lines.proofs.gather.gather.Goals as goal
use Rattle.verdict_lines.proofs.gather.gather.Goals.{In-Ok-Yes}

yes_is : (c : In-Ok-Yes) → c.args.verdict ≡ Ok (Yes c.in-Ok-Yes.n)
yes_is c = c.in-Ok-Yes.is ∙ ap Ok (rw c.in-Ok-Yes.is at c.in-Ok-Yes.field-0-is)

pub put_map-requires : goal.put_map-requires
put_map-requires c =
    let map = c.requires.1 c.in-Ok-Yes.n (yes_is (goal.at.put_map-requires c).In-Ok-Yes) in
    let room = map_room c.args.res.now c.in-Ok-Yes.n map in
    (omega (arith, c.requires.0, room, c.put_text-first.ensures.place, c.put_text-first.auto), map)

pub returns-in-Ok-Yes : goal.returns-in-Ok-Yes
unfolding output
returns-in-Ok-Yes c =
    let a = c.args in
    let is = yes_is (goal.at.returns-in-Ok-Yes c).In-Ok-Yes in
    let first = c.put_text-first in
    let rest = c.put_map in
    let lines = map_lines a.res.now (map_rows c.in-Ok-Yes.n) in
    let room = map_room a.res.now c.in-Ok-Yes.n (c.requires.1 c.in-Ok-Yes.n is) in
    rw is
    (added_front a.out.now rest.new.out (text "verdict yes\n" ++ lines) rest.result
    (simp length-append (omega (arith, c.requires.0, room)))
    (added_on a.out.now first.new.out rest.new.out 0 first.result rest.result (text "verdict yes\n")
    lines (omega (arith, c.requires.0)) first.ensures rest.ensures))

pub returns-in-Ok-No : goal.returns-in-Ok-No
unfolding output
returns-in-Ok-No c =
    let put = c.put_text in
    rw (c.in-Ok-No.is, rw c.in-Ok-No.is at c.in-Ok-No.field-0-is)
    (added_front c.args.out.now put.new.out (text "verdict no\n") put.result
    (omega (arith, c.requires.0)) put.ensures)

pub returns-in-Err : goal.returns-in-Err
unfolding output
returns-in-Err c = rw c.in-Err.is c.put_refusal.ensures
