-- The length that the paper gives is the one that the layout computes.
use mathlib.Core.Path.{◌≡◌, refl}
use Rattle.table.specs.Bounds.{bench_limits}
use Rattle.workspace.specs.Prepare.{work_size}

pub work_size_agrees : work_size bench_limits ≡ 12294
work_size_agrees = refl
