-- The unfolded picture can be read.
use mathlib.Core.List.{List}
use mathlib.Core.Path.{◌≡◌}
use Prim.Native.Nat.{ℕ}
use Rattle.std.proofs.Common.{rules}
use Rattle.normal_writer.specs.Tables.{TableRoom}
use Rattle.definitions.specs.Unfolded.{unfolded_file}
use Rattle.unfold_tables.proofs.Changes.{part_file}
use Rattle.unfold_tables.proofs.tables.unfolded_table.Goals as goal

pub with_unfolded-requires-clause-callable : goal.with_unfolded-requires-clause-callable
with_unfolded-requires-clause-callable c =
    let a = c.args in
    let room : (s out : List ℕ) → s ≡ unfolded_file a.limits a.tbox.now.bytes.now a.picture.now → out ≡ a.out.now →
    TableRoom a.limits s out =
    λ s out is same. record {
      bounded = c.requires.ready.ready.bounded;
      readable = part_file _ _ _ _ _ c.requires.ready s is;
      space = rw same c.requires.space;
    } in
    search (rules, room)
