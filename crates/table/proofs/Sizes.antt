-- The sizes that the paper gives are those that the layout computes.
use mathlib.Core.Path.{◌≡◌, refl}
use Rattle.table.specs.Layout.{name_count, row_length, row_size}
use Rattle.table.specs.Bounds.{bench_limits, picture_size}

pub name_count_agrees : name_count ≡ 64
name_count_agrees = refl

pub row_length_agrees : row_length ≡ 21
row_length_agrees = refl

pub row_size_agrees : row_size ≡ 24
row_size_agrees = refl

pub picture_size_agrees : picture_size bench_limits ≡ 6147
picture_size_agrees = refl
