-- The two numbers, each with the byte after it, are the line.
use Prim.Native.Nat.{◌+◌, ◌≤◌, ℕ}
use lib.ListN.{length, length-append}
use native.Mathlib.Omega.{arith}
use Rattle.verdict_lines.specs.Lines.{decimal, map_line, number}
use Rattle.verdict_lines.proofs.Gatherings.{added_on}
use Rattle.verdict_lines.proofs.gather.put_row.Goals as goal

parts : (at row image size : ℕ) → at + length (map_line row image) ≤ size →
    at + (length (decimal row) + 1 + (length (decimal image) + 1)) ≤ size
parts at row image size room = simp length-append at room

pub put_number-next-requires : goal.put_number-next-requires
put_number-next-requires c =
    let a = c.args in
    omega (arith, parts a.at a.row a.image (length a.out.now) c.requires)

pub put_number-requires : goal.put_number-requires
put_number-requires c =
    let a = c.args in
    let row = c.put_number-next in
    let room = parts a.at a.row a.image (length a.out.now) c.requires in
    omega (arith, room, simp length-append at row.ensures.place, row.auto)

pub returns : goal.returns
returns c =
    let a = c.args in
    let row = c.put_number-next in
    let image = c.put_number in
    let room = parts a.at a.row a.image (length a.out.now) c.requires in
    added_on a.out.now row.new.out image.new.out a.at row.result image.result
    (number a.row " ") (number a.image "\n") (simp length-append (omega (arith, room)))
    row.ensures image.ensures
