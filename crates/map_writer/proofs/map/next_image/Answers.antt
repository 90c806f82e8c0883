-- Row 0 goes to row 0. Another row's image is told by its parent's, which stands in the file: that itself if it is marked, else what the search
-- left behind (Maps: `image_kept`).
use mathlib.Core.Path.{◌∙◌}
use native.Mathlib.Omega.{arith}
use Rattle.map_writer.proofs.Maps.{image_kept, image_marked, image_start, parent_image, parent_inside}
use Rattle.map_writer.proofs.map.next_image.Goals as goal

pub returns-then-i-eq0 : goal.returns-then-i-eq0
returns-then-i-eq0 c =
    let a = c.args in rw c.if-i-eq0.true (image_start c.requires.first c.requires.second c.requires.mapped)

pub impossible-requires : goal.impossible-requires
impossible-requires c =
    let a = c.args in
    let pre = c.requires in
    let inside = parent_inside c.requires.first c.requires.second pre.mapped a.out.now pre.inside c.if-i-eq0.false
    c.parent.ensures.0 c.image-u.ensures pre.before in
    let checked = c.requires.first in (omega arith, omega arith)

pub returns-then-impossible-eq1 : goal.returns-then-impossible-eq1
returns-then-impossible-eq1 c =
    let pre = c.requires in
    let above = parent_image pre.first pre.second pre.mapped c.args.out.now pre.inside c.if-i-eq0.false
    c.parent.ensures.0 c.image-u.ensures pre.before in
    image_marked pre.first pre.second pre.mapped pre.inside c.if-i-eq0.false above c.impossible.ensures
    c.if-impossible-eq1.true

pub returns : goal.returns
returns c =
    let pre = c.requires in
    let above = parent_image pre.first pre.second pre.mapped c.args.out.now pre.inside c.if-i-eq0.false
    c.parent.ensures.0 c.image-u.ensures pre.before in
    c.from.ensures
    ∙ image_kept pre.first pre.second pre.mapped pre.inside c.if-i-eq0.false above c.impossible.ensures
    c.if-impossible-eq1.false
