-- An empty book changes nothing. A no of another one is the answer; where all of it is answered yes, its definitions
-- are what 14 needs.
-- the ways back: from the test to the entry, from what the book has answered to the test
use mathlib.Core.Path.{◌∙◌, sym}
use Rattle.std.proofs.lemmas.Result.{MatchResult-at_err, MatchResult-at_ok}
use Rattle.picture.proofs.Keeping.{kept_no}
use Rattle.picture.proofs.Orders.{on_no}
use Rattle.prepare_pair.proofs.TabledPairs.{empty_opened, opened_no, opened_unfolds, opened_yes}
use Rattle.prepare_pair.proofs.prepare.open_pair.Goals as goal

pub write_pair-requires : goal.write_pair-requires
write_pair-requires c = c.requires

pub returns-then-ends_at : goal.returns-then-ends_at
returns-then-ends_at c =
    let done = c.write_pair in
    let a = c.args in
    empty_opened a.limits a.tbox.now a.first.now a.second.now
    (sym c.ends_at.ensures ∙ c.if-ends_at.true) c.requires.first_readable c.requires.second_readable
    done.result a.work.now done.new.work done.ensures

pub invariant_of-opened : goal.invariant_of-opened
invariant_of-opened c = record { opened = (MatchResult-at_ok _ _ _ c.in-Ok.is c.open_definitions-found.ensures).1.opened }

pub write_unfolded-requires : goal.write_unfolded-requires
write_unfolded-requires c =
    let a = c.args in
    let (all, ready) = MatchResult-at_ok _ _ _ c.in-Ok.is c.open_definitions-found.ensures in
    let (unfolds, unfolds-second) = opened_unfolds a.limits a.tbox.now a.first.now a.second.now all in
    record {
      first_ready = record { ready = ready; readable = c.requires.first_readable; unfolds = unfolds };
      second_ready = record { ready = ready; readable = c.requires.second_readable; unfolds = unfolds-second };
      space = c.requires.space;
    }

pub returns-in-Ok : goal.returns-in-Ok
returns-in-Ok c =
    let a = c.args in
    rw (opened_yes a.limits a.tbox.now a.first.now a.second.now (MatchResult-at_ok _ _ _ c.in-Ok.is c.open_definitions-found.ensures).0) c.write_unfolded.ensures

pub returns-in-Err : goal.returns-in-Err
returns-in-Err c =
    let a = c.args in
    let no-is = opened_no a.limits a.tbox.now a.first.now a.second.now _ (MatchResult-at_err _ _ _ c.in-Err.is c.open_definitions-found.ensures) in
    (sym (on_no _ _ _ no-is), sym (kept_no _ _ _ _ no-is))
