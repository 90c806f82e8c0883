-- What the code has of a refutation file. Nobody has to believe these.
--   HasIndividual      an individual's field stands whole in the file
--   Individuals        so many do, all that the file has
--   LinkedRefutation   they also pass 21, and `links` has those that each one reaches
use Rattle.std.specs.Prelude.{◌<◌, ◌≤◌, ℕ, length, true, List, ◌≡◌}
use Rattle.countermodel.specs.Individual.{individual_ok, individual_parent}
use Rattle.countermodel.specs.Layout.{individual_count, individual_place, individual_size, most_individuals}
use Rattle.table.specs.Range.{each}
use Rattle.table_rows.specs.Links.{Linked}

abbrev pub HasIndividual : List ℕ → ℕ → Type 0
HasIndividual e k = (k < most_individuals) × (individual_place k individual_size ≤ length e)

pub record Individuals (e : List ℕ) (n : ℕ) : Type 0 where
  pub counted : n ≡ individual_count e
  pub some : 0 < n
  pub most : n ≤ most_individuals
  pub whole : individual_place n 0 ≤ length e

pub record LinkedRefutation (e : List ℕ) (n : ℕ) (links : List ℕ) : Type 0 where
  pub all : Individuals e n
  pub passed : each (individual_ok e) n 0 ≡ true
  pub linked : Linked (individual_parent e) n most_individuals links
