-- A map file by the paper's own numbers: the form that the definitions give is exactly this one.
--   MapFile              tag 41, a length of twice the rows, so many images of two bytes, and the end field, tag 2F and length 0; then the file stops
--   map_file_is, file_map   16 is answered yes for a map exactly of such a file
--   image_at             where the image of a row stands
use Prim.Native.Nat.{ℕ, ◌*◌, ◌+◌}
use borrow.Author.Tests.{eq-eqb, eqb-true}
use lib.Dec.{eqb}
use lib.ListN.{get_or, length}
use mathlib.Core.Bool.{◌&&◌, true}
use mathlib.Core.List.{List}
use mathlib.Core.Path.{◌≡◌, refl}
use Rattle.table.proofs.Bools.{both}
use Rattle.table.proofs.Rows.{ends_parts, parts_ends}
use Rattle.table.specs.Fields.{ends_at}
use Rattle.table.specs.Layout.{length_offset, number_size}
use Rattle.table.specs.Number.{be}
use Rattle.homomorphism.specs.Layout.{image_of, image_place, map_tag}
use Rattle.evidence.specs.Form.{map_form}

pub record MapFile (rows : ℕ) (e : List ℕ) : Type 0 where
  pub tag : get_or e 0 0 ≡ 0x41
  pub says : be e 1 2 ≡ 2 * rows
  pub size : length e ≡ 3 + 2 * rows + 3
  pub end_tag_is : get_or e (3 + 2 * rows) 0 ≡ 0x2F
  pub end_length_is : be e (3 + 2 * rows + 1) 2 ≡ 0

module _ (rows : ℕ) (e : List ℕ) where
  pub map_file_is : map_form rows e ≡ true → MapFile rows e
  unfolding map_form
  map_file_is h =
      let tagged = eqb (get_or e 0 0) map_tag in
      let long = eqb (be e length_offset number_size) (number_size * rows) in
      let (ends, r) = both (ends_at e (image_place rows)) (tagged && long) h in
      let (a, b) = both tagged long r in
      let (size, tag, none) = ends_parts e (image_place rows) ends in
      record {
        tag = eqb-true (get_or e 0 0) map_tag a;
        says = eqb-true (be e length_offset number_size) (number_size * rows) b;
        size = size;
        end_tag_is = tag;
        end_length_is = none;
      }

  pub file_map : MapFile rows e → map_form rows e ≡ true
  unfolding map_form
  file_map f =
      rw (parts_ends e (image_place rows) f.size f.end_tag_is f.end_length_is, eq-eqb (get_or e 0 0) map_tag f.tag, eq-eqb (be e length_offset number_size) (number_size * rows) f.says)

  pub image_at : (i : ℕ) → image_of e i ≡ be e (3 + 2 * i) 2
  image_at i = refl
