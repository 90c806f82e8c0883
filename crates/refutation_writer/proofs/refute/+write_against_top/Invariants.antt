-- An individual whose names tell row w from ⊤ (any, if it is marked), or one below which the first row that hangs from w is not fitted; the remaining depth falls.
use Rattle.refutation_writer.proofs.refute.+write_against_top.Given as goal

abbrev pub decreases-write_against_top : goal.decreases-write_against_top
decreases-write_against_top l = l.depth
