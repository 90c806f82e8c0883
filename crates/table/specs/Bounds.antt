-- 01, "The file": how many rows a picture may have, and how many edges from the root.
use Rattle.std.specs.Prelude.{ℕ, ◌≤◌}
use Rattle.table.specs.Layout.{«place», end_size}
use Rattle.table.specs.declared.layout.Limits.{Limits}

abbrev pub max_rows : ℕ
max_rows = 256

abbrev pub max_depth : ℕ
max_depth = 12

-- those of paper 01; paper 02 (U4) calls them the bench tool's
abbrev pub bench_limits : Limits
bench_limits = record { rows = max_rows; depth = max_depth }

abbrev pub clip_limits : Limits
clip_limits = record { rows = 64; depth = 6 }

-- limits that the code can hold: its local table of depths has a place for each row
abbrev pub Bounded : Limits → Type 0
Bounded limits = (limits.rows ≤ max_rows) × (limits.depth ≤ max_depth)

-- the longest picture within limits, in bytes
abbrev pub picture_size : Limits → ℕ
picture_size limits = place limits.rows end_size
