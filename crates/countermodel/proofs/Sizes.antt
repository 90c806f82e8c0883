-- The sizes that the paper gives are those that the layout computes.
use mathlib.Core.Path.{◌≡◌, refl}
use Rattle.table.specs.Layout.{end_size}
use Rattle.countermodel.specs.Layout.{individual_length, individual_place, most_individuals}

pub individual_length_agrees : individual_length ≡ 11
individual_length_agrees = refl

pub individuals_agree : most_individuals ≡ 3328
individuals_agree = refl

pub refutation_size_agrees : individual_place most_individuals end_size ≡ 46595
refutation_size_agrees = refl
