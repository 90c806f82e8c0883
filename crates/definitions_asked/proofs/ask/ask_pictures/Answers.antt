-- 27 of all pictures, lot by lot; 28; and, where they are answered yes, 29 and 30.
use mathlib.Core.List.{List, ◌++◌}
use mathlib.Core.Path.{◌∙◌, ◌≡◌, ap, ap₂, sym}
use Rattle.ale.specs.PictureSignature.{picture_signature}
use Rattle.tbox.specs.Acyclic.{acyclic}
use Rattle.picture.proofs.Exits.{exits}
use Rattle.picture.proofs.Orders.{and_yes}
use Rattle.picture.specs.Asked.{Asked, and_then, yes}
use Rattle.picture.specs.declared.answer.Input.TheVariants.{Definitions}
use Rattle.definitions.proofs.Idle.{word_set}
use Rattle.definitions.proofs.Unfolds.{asked_sound}
use Rattle.definitions.specs.Asked.{Picture, asked_of, definitions_of, question, question_of}
use Rattle.definitions.specs.Tbox.{tbox_of}
use Rattle.definitions.specs.Unfolded.{excludes_none}
use Rattle.definitions_reader.proofs.DefinitionsInTurn.{all_readable}
use Rattle.definitions_asked.specs.Asking.{sizes_of}
use Rattle.definitions_asked.specs.Given.{given_of}
use Rattle.definitions_asked.specs.Lots.{lot_of}
use Rattle.definitions_asked.specs.declared.lots.Lot.TheVariants as lot
use Rattle.definitions_asked.proofs.AskedInTurn.{asks_on, passed_each, two_no, two_yes}
use Rattle.definitions_asked.proofs.PictureLots.{askable, first_lot, lots_all, own_lot}
use Rattle.definitions_asked.proofs.ask.ask_pictures.Goals as goal
use Rattle.definitions_asked.proofs.ask.ask_pictures.Goals.{After-and_then}

abbrev all : (c : After-and_then) → List Picture
all c = given_of c.args.first.now c.args.rest.now ++ definitions_of c.args.tbox.now.bytes.now

-- 27 of all, and 28
abbrev excluded : (c : After-and_then) → Asked
excluded c = asked_of (question_of 27 (excludes_none c.args.tbox.now.bytes.now)) (all c)

abbrev rings : (c : After-and_then) → Asked
rings c = question 28 Definitions (acyclic picture_signature (tbox_of c.args.tbox.now.bytes.now))

excluded_is : (c : After-and_then) → c.ask_excluded-all.result ≡ excluded c
excluded_is c =
    let a = c.args in
    let tbox = a.tbox.now.bytes in
    let ask = question_of 27 (excludes_none tbox.now) in
    let names = sym c.requires.agrees.names ∙ word_set tbox.now in
    let ps = lot_of (lot.First a.first) in
    let qs = lot_of a.rest.now in
    let rs = lot_of (lot.Definitions tbox a.fields) in
    let one = c.ask_excluded-one in
    let given = c.ask_excluded-given in
    asks_on ask (ps ++ qs) rs yes given.result c.ask_excluded-all.result
    (asks_on ask ps qs yes one.result given.result (one.ensures tbox.now names) (given.ensures tbox.now names))
    (c.ask_excluded-all.ensures tbox.now names)
    ∙ ap (asked_of ask) (lots_all tbox a.fields c.requires.reading.formed a.first a.rest.now)

ringed : (c : After-and_then) → c.and_then.result ≡ and_then (excluded c) (rings c)
ringed c =
    c.and_then.ensures
    ∙ ap₂ and_then (excluded_is c)
    (c.question-rings.ensures
    ∙ ap (λ b. question 28 Definitions b) (c.is_acyclic.ensures (tbox_of c.args.tbox.now.bytes.now) c.requires.agrees))

abbrev sizes : (c : After-and_then) → Asked
sizes c = sizes_of c.args.limits c.args.tbox.now.bytes.now (all c)

pub ask_excluded-one-requires : goal.ask_excluded-one-requires
ask_excluded-one-requires c =
    let given = c.requires.reading.given in
    askable _ given.bounded _ (first_lot c.args.limits c.args.first given.first_read)

pub ask_excluded-given-requires : goal.ask_excluded-given-requires
ask_excluded-given-requires c =
    let given = c.requires.reading.given in
    askable _ given.bounded _ given.rest_read

pub ask_excluded-all-requires : goal.ask_excluded-all-requires
ask_excluded-all-requires c =
    let a = c.args in
    let reading = c.requires.reading in
    askable _ reading.given.bounded _
    (own_lot a.tbox.now.bytes a.fields reading.formed a.limits (all_readable a.limits a.tbox.now.bytes.now reading.reads))

pub ask_sizes-requires : goal.ask_sizes-requires
ask_sizes-requires c =
    let a = c.args in
    let tbox = a.tbox.now.bytes.now in
    let reading = c.requires.reading in
    let given = reading.given in
    let here = (goal.at.ask_sizes-requires c).After-and_then in
    let passed = (and_yes (excluded here) (rings here)).0 (sym (ringed here) ∙ c.in_ok-and_then.was) in
    let readable = all_readable a.limits tbox reading.reads in
    record {
      known = record {
        bounded = given.bounded;
        agrees = c.requires.agrees;
        sound = asked_sound a.limits given.bounded tbox readable
            (passed_each 27 (excludes_none tbox) tbox (given_of a.first.now a.rest.now) passed.0);
      };
      first_read = first_lot a.limits a.first given.first_read;
      rest_read = given.rest_read;
      own_read = own_lot a.tbox.now.bytes a.fields reading.formed a.limits readable;
    }

pub returns : goal.returns
returns c =
    let a = c.args in
    let here = (goal.at.returns c).After-and_then in
    c.ask_sizes.ensures
    ∙ ap (sizes_of a.limits a.tbox.now.bytes.now)
    (lots_all a.tbox.now.bytes a.fields c.requires.reading.formed a.first a.rest.now)
    ∙ two_yes (excluded here) (rings here) (sizes here) c.and_then.result (ringed here) c.in_ok-and_then.was

pub returns-in_err-and_then : goal.returns-in_err-and_then
returns-in_err-and_then c =
    let here = (goal.at.returns-in_err-and_then c).After-and_then in
    exits c.from_residual.result _ c.from_residual.ensures.1
    ∙ two_no (excluded here) (rings here) (sizes here) c.and_then.result (ringed here) _ c.in_err-and_then.was
