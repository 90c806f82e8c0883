-- Under the end field alone nothing is asked, and the picture is its own unfolded picture. Else the questions of the
-- book decide, and where all is answered yes the unfolded picture is tabulated.
use mathlib.Core.Path.{◌∙◌, sym}
use Rattle.std.proofs.lemmas.Result.{MatchResult-at_err, MatchResult-at_ok}
use Rattle.definitions.proofs.Questions.{asked_definable}
use Rattle.under.specs.Given.{one}
use Rattle.normalize_call.proofs.Writings.{written_as, written_empty, written_no}
use Rattle.normalize_call.proofs.normalize.write_under.Goals as goal

pub returns-then-ends_at : goal.returns-then-ends_at
returns-then-ends_at c =
    written_empty c.args.limits c.args.tbox.now c.args.picture.now _ _ _
    c.requires.readable (sym c.ends_at.ensures ∙ c.if-ends_at.true)
    c.write_normal.ensures

pub invariant_of-opened : goal.invariant_of-opened
invariant_of-opened c = record { opened = (MatchResult-at_ok _ _ _ c.in-Ok.is c.open_definitions-found.ensures).1.opened }

pub write_unfolded-requires : goal.write_unfolded-requires
write_unfolded-requires c =
    let a = c.args in
    let (all, ready) = MatchResult-at_ok _ _ _ c.in-Ok.is c.open_definitions-found.ensures in
    record {
      ready = record {
        ready = ready;
        readable = c.requires.readable;
        unfolds = (asked_definable a.limits a.tbox.now (one a.picture.now) all).1.0;
      };
      space = c.requires.space;
    }

pub returns-in-Ok : goal.returns-in-Ok
returns-in-Ok c =
    let a = c.args in
    written_as a.limits a.tbox.now a.picture.now _ _ _ (MatchResult-at_ok _ _ _ c.in-Ok.is c.open_definitions-found.ensures).0 c.write_unfolded.ensures

pub returns-in-Err : goal.returns-in-Err
returns-in-Err c =
    let a = c.args in
    written_no a.limits a.tbox.now a.picture.now a.res.now _ (MatchResult-at_err _ _ _ c.in-Err.is c.open_definitions-found.ensures)
