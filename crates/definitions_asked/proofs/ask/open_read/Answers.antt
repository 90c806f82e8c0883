-- A no of 26, or what is left to ask of the pictures; where all is yes, the index is what was looked for.
use mathlib.Core.Path.{◌∙◌, ◌≡◌, sym}
use Rattle.std.proofs.lemmas.Result.{MatchResult-at_err, MatchResult-at_ok}
use Rattle.picture.proofs.Exits.{exits}
use Rattle.definitions.specs.Asked.{definitions_asked}
use Rattle.definitions_reader.proofs.DefinitionsInTurn.{all_readable}
use Rattle.definitions_asked.specs.Given.{given_of}
use Rattle.definitions_asked.proofs.Openings.{found_ready, pictures_left, refused_names}
use Rattle.definitions_asked.proofs.ask.open_read.Goals as goal
use Rattle.definitions_asked.proofs.ask.open_read.Goals.{After-ask_pictures}

-- what is asked is what `ask_pictures` answers
left : (c : After-ask_pictures) →
    definitions_asked c.args.limits c.args.tbox.now (given_of c.args.first.now c.args.rest.now) ≡ c.ask_pictures.result
left c =
    let a = c.args in
    pictures_left a.limits a.tbox.now (given_of a.first.now a.rest.now) c.requires.formed.form c.requires.reads
    (MatchResult-at_ok _ _ _ c.in-Ok.is c.index_of-found.ensures).0
    ∙ sym c.ask_pictures.ensures

pub returns-in_default : goal.returns-in_default
returns-in_default c =
    let a = c.args in
    rw c.refuse.ensures
    (refused_names a.limits a.tbox.now (given_of a.first.now a.rest.now) c.requires.formed.form c.requires.reads
    (MatchResult-at_err _ _ _ c.in_default.is c.index_of-found.ensures).0)

pub invariant_of-opened : goal.invariant_of-opened
invariant_of-opened c =
    let a = c.args in
    let indexes = (MatchResult-at_ok _ _ _ c.in-Ok.is c.index_of-found.ensures).1 in
    record {
      opened = indexes.opened a.limits c.requires.given.bounded
          (all_readable a.limits a.tbox.now c.requires.reads);
    }

pub returns-in_err-ask_pictures : goal.returns-in_err-ask_pictures
returns-in_err-ask_pictures c =
    rw (exits c.from_residual.result _ c.from_residual.ensures.1)
    (left (goal.at.returns-in_err-ask_pictures c).After-ask_pictures ∙ c.in_err-ask_pictures.was)

pub returns : goal.returns
returns c =
    let a = c.args in
    let all = left (goal.at.returns c).After-ask_pictures ∙ c.in_ok-ask_pictures.was in (
      all,
      found_ready a.limits a.tbox.now (given_of a.first.now a.rest.now) c.requires.given.bounded _
          (MatchResult-at_ok _ _ _ c.in-Ok.is c.index_of-found.ensures).1 all,
    )
