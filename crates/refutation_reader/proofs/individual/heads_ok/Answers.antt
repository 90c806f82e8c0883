-- The numbers of the range are those of the definition.
use mathlib.Core.Path.{◌∙◌, refl}
use borrow.Author.Tests.{tests}
use native.Mathlib.Omega.{arith}
use Rattle.std.proofs.Common.{rules}
use Rattle.std.proofs.lemmas.Iterator.{YieldsList-from_range}
use Rattle.std.proofs.lemmas.Iterator.Search.{all_from_yields_List}
use Rattle.table.proofs.Ranges.{each_listed}
use Rattle.countermodel.specs.Individual.{individual_head}
use Rattle.refutation_reader.proofs.individual.heads_ok.Goals as goal

pub returns : goal.returns
returns c =
    let a = c.args in
    all_from_yields_List (individual_head a.e.now) _ _ _ c.all.ensures.ran (YieldsList-from_range 0 a.n a.n refl (omega arith))
    (λ x b q k. search (rules, tests)) ∙ each_listed (individual_head a.e.now) a.n 0
