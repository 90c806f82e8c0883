-- Head, images and end field are put one after the other, which is putting the file: `map_put`.
use native.Mathlib.Omega.{arith}
use Rattle.homomorphism.proofs.MapFiles.{length_map_file, map_put}
use Rattle.map_writer.specs.Images.{image_row}
use Rattle.map_writer.proofs.Maps.{lowest_map_counted}
use Rattle.map_writer.proofs.map.write_map.Goals as goal

pub returns-clause-length : goal.returns-clause-length
returns-clause-length c =
    let a = c.args in
    rw (lowest_map_counted a.first.now c.requires.second)
    (omega (arith, length_map_file a.m (image_row a.first.now a.second.now)))

pub returns-clause-bytes : goal.returns-clause-bytes
returns-clause-bytes c =
    let a = c.args in
    rw (lowest_map_counted a.first.now c.requires.second)
    (map_put a.m (image_row a.first.now a.second.now) a.out.now _ _ _ _
    c.requires.room c.image_place-end.ensures c.copy_in.ensures c.write_images.ensures c.write_end.ensures)
