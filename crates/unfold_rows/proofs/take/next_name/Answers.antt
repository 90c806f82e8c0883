-- The lowest bit of the names that are wanted, defined and not taken in.
use Rattle.table.specs.NameValues.{set_of}
use Rattle.unfold_rows.proofs.TakingLaws.{lowest_wanted}
use Rattle.unfold_rows.proofs.take.next_name.Goals as goal

pub returns : goal.returns
returns c =
    let a = c.args in
    lowest_wanted a.s (set_of a.defined) _ _ _ c.first.result
    c.requires c.intersection.ensures
    c.complement.ensures c.intersection-more.ensures c.first.ensures
