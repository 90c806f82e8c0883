-- 01, "Verdict with evidence": whether the second picture covers the first, and the evidence that is written.
--   verdict_of      003, Theorem 41: the normal tree of the second maps to that of the first (`covers`); that this is
--                  covering, by Table 1: proofs/Writers, `verdict-covers`
--   map_of          our map of the two normal tables: the lowest possible row each time, parents first
--   refutation_of   the countermodel of the two normal trees, as a refutation file; 01 leaves which one to the program
--   evidence_of     a map where the verdict is yes, else a refutation
--   evidence_size   the most bytes that evidence has: as many individuals as a refutation may have, and the end field
use Rattle.std.specs.Prelude.{ℕ, Bool, List}
use Rattle.table.specs.Layout.{end_size}
use Rattle.table.specs.Pick.{pick}
use Rattle.table.specs.declared.layout.Limits.{Limits}
use Rattle.ale.specs.Countermodel.{countermodel}
use Rattle.ale.specs.PictureSignature.{picture_signature}
use Rattle.meaning.specs.Covering.{covers}
use Rattle.meaning.specs.Meaning.{picture_table}
use Rattle.meaning.specs.NormalTable.{normal_file, normal_tree_of}
use Rattle.homomorphism.specs.Map.{lowest_map}
use Rattle.countermodel.specs.Layout.{individual_place, individuals_within}
use Rattle.countermodel.specs.Writing.{refutation_file}

module _ (limits : Limits) (first second : List ℕ) where
  unfoldable pub verdict_of : Bool
  verdict_of = covers limits second first

  unfoldable pub map_of : List ℕ
  map_of = lowest_map (picture_table (normal_file limits first)) (picture_table (normal_file limits second))

  unfoldable pub refutation_of : List ℕ
  refutation_of = refutation_file (countermodel picture_signature (normal_tree_of limits second) (normal_tree_of limits first))

  unfoldable pub evidence_of : List ℕ
  evidence_of = pick verdict_of map_of refutation_of

abbrev pub evidence_size : Limits → ℕ
evidence_size limits = individual_place (individuals_within limits) end_size
