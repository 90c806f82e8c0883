-- At the loop's head the images of the rows below i stand in the file, and all else is as it was.
use mathlib.Core.Path.{◌≡◌}
use Rattle.table.specs.Put.{put}
use Rattle.homomorphism.specs.Layout.{«image_place»}
use Rattle.homomorphism.specs.Map.{image_bytes}
use Rattle.map_writer.specs.Images.{image_row}
use Rattle.map_writer.proofs.map.write_images.Given as goal

abbrev pub invariant-loop-i : goal.invariant-loop-i
invariant-loop-i l = l.out ≡ put l.initial.out (image_place 0) (image_bytes (image_row l.first l.second) l.i)
