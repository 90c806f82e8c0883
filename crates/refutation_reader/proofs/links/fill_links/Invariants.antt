-- At the loop's head the links have the individuals from k on. Each one becomes the lowest of its parent's.
use Rattle.table_rows.proofs.Links.{LinkedFrom}
use Rattle.countermodel.specs.Individual.{individual_parent}
use Rattle.countermodel.specs.Layout.{most_individuals}
use Rattle.refutation_reader.proofs.links.fill_links.Given as goal

abbrev pub invariant-loop-k : goal.invariant-loop-k
invariant-loop-k l = LinkedFrom (individual_parent l.e) l.n most_individuals l.k l.links
