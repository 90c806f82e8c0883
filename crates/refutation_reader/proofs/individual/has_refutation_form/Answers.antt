-- The individuals stand whole in the file, are all that it has, and are not too many for the loop that follows.
use native.Mathlib.Omega.{arith}
use Rattle.countermodel.proofs.Individuals.{count_whole, within_most}
use Rattle.refutation_reader.proofs.individual.has_refutation_form.Goals as goal

pub heads_ok-requires : goal.heads_ok-requires
heads_ok-requires c =
    let n = c.count-n in
    record {
      counted = n.ensures;
      some = omega (arith, c.if-n-eq0.false);
      most = omega (arith, c.if-individuals_within-n.false, c.individuals_within.ensures, within_most c.args.limits c.requires);
      whole = omega (arith, n.ensures, count_whole c.args.e.now);
    }
