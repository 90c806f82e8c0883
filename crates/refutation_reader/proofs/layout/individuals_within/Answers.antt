-- At no limits is the product more than 3,328.
use native.Mathlib.Omega.{arith}
use Rattle.countermodel.proofs.Individuals.{within_most}
use Rattle.refutation_reader.proofs.layout.individuals_within.Goals as goal

pub overflow_mul-result : goal.overflow_mul-result
overflow_mul-result c = omega (arith, within_most c.args.limits c.requires)
