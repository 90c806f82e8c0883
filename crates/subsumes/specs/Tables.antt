-- What the code decides on two tables as bytes, s (the first) and t (the second), down to a depth. Nobody has to believe these.
--   evidence_in   the evidence from the two tables alone
--   verdict_in    the answer from them
--   Settled      what the search and the writers need: the depth cuts nothing off, and the evidence has room
use Rattle.std.specs.Prelude.{ℕ, ◌+◌, ◌≤◌, length, List}
use Rattle.table.specs.Layout.{end_size}
use Rattle.table.specs.Pick.{pick}
use Rattle.meaning.specs.Meaning.{picture_table}
use Rattle.homomorphism.specs.Layout.{image_place}
use Rattle.homomorphism.specs.Map.{lowest_map}
use Rattle.homomorphism_search.specs.Search.{Shallow, row_maps}
use Rattle.refutation_writer.specs.Refuting.{against_tree}
use Rattle.countermodel.specs.Writing.{refutation_file}
use Rattle.refutation_writer.specs.Writing.{RefutationRoom}
use Rattle.subsumption.specs.declared.verdict.Verdict.{Verdict}
use Rattle.subsumption.specs.declared.verdict.Verdict.TheVariants.{No, Yes}

unfoldable pub evidence_in : List ℕ → List ℕ → ℕ → List ℕ
evidence_in s t depth = pick (row_maps s t depth 0 0) (lowest_map (picture_table s) (picture_table t)) (refutation_file (against_tree s t depth 0 0))

unfoldable pub verdict_in : List ℕ → List ℕ → ℕ → Verdict
verdict_in s t depth = pick (row_maps s t depth 0 0) (Yes (length (evidence_in s t depth))) (No (length (evidence_in s t depth)))

pub record Settled (s t : List ℕ) (depth size : ℕ) : Type 0 where
  pub first_shallow : Shallow s depth
  pub second_shallow : Shallow t depth
  pub map_room : image_place (picture_table t).rows + end_size ≤ size
  pub refutation_room : RefutationRoom (against_tree s t depth 0 0) size
