use mathlib.Core.Path.{◌≡◌, subst}
use native.Mathlib.Omega.{arith}
use Rattle.homomorphism.specs.Layout.{image_of}
use Rattle.verdict_lines.specs.Gathering.{Added}
use Rattle.verdict_lines.specs.Lines.{map_lines, map_rows}
use Rattle.verdict_lines.proofs.Gatherings.{added_none}
use Rattle.verdict_lines.proofs.MapLines.{lines_turn, lines_within}
use Rattle.verdict_lines.proofs.gather.put_map.Goals as goal

pub loop-row-init : goal.loop-row-init
unfolding map_lines
loop-row-init c = added_none c.args.out.now c.args.at

pub put_row-end-requires : goal.put_row-end-requires
put_row-end-requires c =
    let a = c.args in
    let l = c.loop-row in
    let image : c.image.result ≡ image_of a.e.now l.row = c.image.ensures in
    let within = lines_within a.e.now l.row (map_rows a.n) (omega arith) in
    rw image (omega (arith, c.requires.0, l.invariant.place, within))

pub loop-row-preserved : goal.loop-row-preserved
loop-row-preserved c =
    let a = c.args in
    let l = c.loop-row in
    let image = c.image in
    let put = c.put_row-end in
    let within = lines_within a.e.now l.row (map_rows a.n) (omega arith) in
    lines_turn a.e.now a.out.now l.out put.new.out a.at l.end put.result l.row
    image.result (omega (arith, c.requires.0, within)) l.invariant image.ensures put.ensures

pub returns : goal.returns
returns c =
    let a = c.args in
    let l = c.loop-row in
    let all : l.row ≡ map_rows a.n = omega arith in
    subst (λ k. Added a.out.now a.at (map_lines a.e.now k) l.end l.out) all l.invariant
