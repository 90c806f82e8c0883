-- 01, "A refutation file: 1 to 3,328 fields, tag 42, length 11: parent (2), role (1), names that hold (8); then the end field."
--   individual_tag                      the tag
--   individual_parent_offset ..
--   individual_names_offset              where the parts of a field begin, from its tag on
--   individual_size, individual_length   a whole field, and the length that its head says
--   individual_place                    where a part of an individual's field stands
--   individual_count                    the individuals of a file; the end field is shorter than a field
--   individuals_within                  how many a refutation may have; mostIndividuals: at the largest limits
use Rattle.std.specs.Prelude.{ℕ, ◌+◌, ◌*◌, ◌-◌, ◌/◌, length, List}
use Rattle.table.specs.Bounds.{bench_limits}
use Rattle.table.specs.Layout.{head_size, name_bytes, number_size}
use Rattle.table.specs.declared.layout.Limits.{Limits}
use Rattle.ale.specs.Countermodel.{max_individuals}

abbrev pub individual_tag : ℕ
individual_tag = 0x42

abbrev pub individual_parent_offset : ℕ
individual_parent_offset = head_size

abbrev pub individual_role_offset : ℕ
individual_role_offset = individual_parent_offset + number_size

abbrev pub individual_names_offset : ℕ
individual_names_offset = individual_role_offset + 1

abbrev pub individual_size : ℕ
individual_size = individual_names_offset + name_bytes

abbrev pub individual_length : ℕ
individual_length = individual_size - head_size

abbrev pub individual_place : ℕ → ℕ → ℕ
individual_place k offset = individual_size * k + offset

unfoldable pub individual_count : List ℕ → ℕ
individual_count e = length e / individual_size

abbrev pub individuals_within : Limits → ℕ
individuals_within limits = max_individuals limits.depth limits.rows

abbrev pub most_individuals : ℕ
most_individuals = individuals_within bench_limits
