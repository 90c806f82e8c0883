-- Once all is answered yes, what was found in both books is what 14 needs.
use Rattle.std.proofs.lemmas.Result.{MatchResult-at_err, MatchResult-at_ok}
use Rattle.most_specific.specs.Asking.{after_cards, after_definitions, word_under}
use Rattle.most_specific.proofs.Calls.{definitions_passed, definitions_prepared, definitions_refused}
use Rattle.most_specific.proofs.Calls.{left_as, stopped}
use Rattle.most_specific.proofs.most_specific.ask_definitions.Goals as goal

pub invariant_of-opened : goal.invariant_of-opened
invariant_of-opened c = record { opened = (MatchResult-at_ok _ _ _ c.in-Ok.is c.open_definitions-found.ensures).1.opened }

pub select-requires : goal.select-requires
select-requires c =
    let a = c.args in
    let pre = c.requires in
    let (all, ready) = MatchResult-at_ok _ _ _ c.in-Ok.is c.open_definitions-found.ensures in (
      record {
        ready = ready;
        places_are = pre.places_are;
        prepared = definitions_prepared a.limits a.tbox.now a.case.now a.book a.cards a.work.now pre all;
      },
      pre.book_room.room,
    )

pub returns-in-Ok : goal.returns-in-Ok
returns-in-Ok c =
    let a = c.args in
    let left = c.select in
    left_as a.limits (word_under a.limits a.tbox.now a.case.now a.book.now) a.work.now
    (after_cards a.limits a.tbox.now a.case.now a.book.now)
    (after_definitions a.limits a.tbox.now a.case.now a.book.now)
    (definitions_passed a.limits a.tbox.now a.case.now a.book a.cards a.work.now c.requires (MatchResult-at_ok _ _ _ c.in-Ok.is c.open_definitions-found.ensures).0)
    left.result _ left.ensures

pub returns-in-Err : goal.returns-in-Err
returns-in-Err c =
    let a = c.args in
    stopped a.limits (word_under a.limits a.tbox.now a.case.now a.book.now) a.work.now
    (after_cards a.limits a.tbox.now a.case.now a.book.now) _
    (definitions_refused a.limits a.tbox.now a.case.now a.book a.cards a.work.now c.requires _ (MatchResult-at_err _ _ _ c.in-Err.is c.open_definitions-found.ensures))
