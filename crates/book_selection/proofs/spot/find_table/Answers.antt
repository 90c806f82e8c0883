use native.Mathlib.Omega.{arith}
use mathlib.Core.Path.{◌∙◌, sym}
use Rattle.fields.proofs.Forms.{count_most}
use Rattle.book.specs.Form.{card_tag}
use Rattle.book_selection.proofs.Standings.{cached_stands, table_stands}
use Rattle.book_selection.proofs.spot.find_table.Goals as goal

pub find-requires : goal.find-requires
find-requires c = omega (arith, count_most card_tag c.args.book.now)

pub returns-in-Some : goal.returns-in-Some
returns-in-Some c =
    let known = c.requires.known in
    cached_stands c.args.limits _ c.args.cache.now c.args.part.now known.bounded known.cached c.args.k c.in-Some.span
    (sym c.find.ensures ∙ c.in-Some.is)

pub returns-in-None : goal.returns-in-None
returns-in-None c =
    let made = c.make_table in
    table_stands c.args.limits _ c.args.cache.now made.new.out c.requires.known.bounded c.args.k made.result (omega arith) made.ensures
