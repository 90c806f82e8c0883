-- The unfolded picture can be read.
use mathlib.Core.List.{List}
use mathlib.Core.Path.{◌≡◌}
use Prim.Native.Nat.{ℕ}
use Rattle.std.proofs.Common.{rules}
use Rattle.picture.specs.Readable.{Readable}
use Rattle.definitions.specs.Unfolded.{unfolded_file}
use Rattle.unfold_tables.proofs.Changes.{part_file}
use Rattle.unfold_tables.proofs.tables.is_unfolded_within.Goals as goal

pub with_unfolded-requires-clause-callable : goal.with_unfolded-requires-clause-callable
with_unfolded-requires-clause-callable c =
    let a = c.args in
    let bounded = c.requires.ready.bounded in
    let readable : (s : List ℕ) → s ≡ unfolded_file a.limits a.tbox.now.bytes.now a.picture.now → Readable a.limits s =
    part_file _ _ _ _ _ c.requires in
    search (rules, bounded, readable)
