-- 29 is answered yes, so the file is written whole; since a row wants a defined name, it is the unfolded picture.
use mathlib.Core.Path.{◌∙◌, refl}
use native.Mathlib.Omega.{arith}
use Rattle.picture.proofs.Readables.{readable_most}
use Rattle.picture.specs.Readable.{row_count}
use Rattle.unfold_tables.proofs.Changes.{made_file}
use Rattle.unfold_tables.proofs.tables.unfold_changed.Goals as goal

pub unfold_file-count-requires : goal.unfold_file-count-requires
unfolding row_count
unfold_file-count-requires c =
    let a = c.args in
    let pre = c.requires.0.ready in
    let bounded = pre.ready.bounded in (
      record {
        limits = a.limits;
        bounded = bounded;
        readable = pre.readable;
        counted = refl;
        within = readable_most a.limits a.picture.now pre.readable;
        small = bounded.0;
        room = omega (arith, c.requires.1);
      },
      c.requires.1,
    )

pub file_part-requires : goal.file_part-requires
file_part-requires c =
    let made = made_file _ _ _ _ _ c.requires.0 _ _ _ c.requires.1 c.unfold_file-count.ensures in
    (made.few, made.there)

pub returns : goal.returns
returns c =
    let made = made_file _ _ _ _ _ c.requires.0 _ _ _ c.requires.1 c.unfold_file-count.ensures in
    c.file_part.ensures ∙ made.file
