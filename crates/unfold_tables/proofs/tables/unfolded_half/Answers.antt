-- The unfolded picture can be read.
use mathlib.Core.List.{List}
use mathlib.Core.Path.{◌≡◌}
use Prim.Native.Nat.{ℕ}
use Rattle.std.proofs.Common.{rules}
use Rattle.normal_writer.specs.Tables.{HalfRoom}
use Rattle.definitions.specs.Unfolded.{unfolded_file}
use Rattle.unfold_tables.proofs.Changes.{part_file}
use Rattle.unfold_tables.proofs.tables.unfolded_half.Goals as goal

pub with_unfolded-requires-clause-callable : goal.with_unfolded-requires-clause-callable
with_unfolded-requires-clause-callable c =
    let a = c.args in
    let room : (s half : List ℕ) → s ≡ unfolded_file a.limits a.tbox.now.bytes.now a.picture.now → half ≡ a.half.now →
    HalfRoom a.limits s half =
    λ s half is same. record {
      bounded = c.requires.ready.ready.bounded;
      readable = part_file _ _ _ _ _ c.requires.ready s is;
      few = rw is c.requires.few;
      long = rw same c.requires.long;
    } in
    search (rules, room)
