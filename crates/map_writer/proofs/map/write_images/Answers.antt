use native.Mathlib.Omega.{arith}
use Rattle.map_writer.specs.Images.{image_row}
use Rattle.map_writer.proofs.Maps.{image_below}
use Rattle.homomorphism.proofs.MapFiles.{images_none, images_read, images_turn}
use Rattle.map_writer.proofs.map.write_images.Goals as goal

pub loop-i-init : goal.loop-i-init
loop-i-init c = let a = c.args in images_none (image_row a.first.now a.second.now) a.out.now

-- an image is below 256, so it reads back
pub next_image-v-requires-clause-before : goal.next_image-v-requires-clause-before
next_image-v-requires-clause-before c k b =
    let a = c.args in
    let l = c.loop-i in
    let checked = c.requires.first in
    let below = image_below checked c.requires.second c.requires.mapped k (omega arith) in
    rw l.invariant (images_read (image_row a.first.now a.second.now) a.out.now l.i k (omega arith) b (omega arith))

pub loop-i-preserved : goal.loop-i-preserved
loop-i-preserved c =
    let a = c.args in
    let l = c.loop-i in
    images_turn (image_row a.first.now a.second.now) a.out.now l.out c.copy_in.new.dst l.i c.next_image-v.result c.image_place.result
    (omega arith) l.invariant c.next_image-v.ensures c.image_place.ensures c.copy_in.ensures
