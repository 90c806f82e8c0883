-- The table is found, kept for the later cards, and compared with those of the earlier ones.
use native.Mathlib.Omega.{arith}
use mathlib.Core.Path.{◌∙◌, refl}
use Rattle.table_rows.proofs.Stores.{blank}
use Rattle.fields.proofs.Forms.{count_most}
use Rattle.book.specs.Form.{card_tag}
use Rattle.book_selection.proofs.Standings.{made_inside, stands_bytes, stands_checkable}
use Rattle.book_selection.proofs.compare.compare_card.Goals as goal

pub keep_made-requires-clause-below : goal.keep_made-requires-clause-below
keep_made-requires-clause-below c = omega (arith, count_most card_tag c.args.book.now)

pub keep_made-requires-clause-whole : goal.keep_made-requires-clause-whole
keep_made-requires-clause-whole c rows is =
    let found = c.find_table-spot in
    let inside = made_inside _ _ c.args.cache.now found.new.part found.result found.ensures rows is in
    (inside.0, omega (arith, inside.1))

pub table_of-own-requires-clause-checkable : goal.table_of-own-requires-clause-checkable
table_of-own-requires-clause-checkable c =
    let known = c.requires.known in
    let found = c.find_table-spot in
    let kept = c.keep_made.ensures.cached c.args.limits _ known.cached found.ensures in
    stands_checkable _ _ c.keep_made.new.cache found.new.part known.bounded found.result kept.1

pub table_of-own-requires-clause-empty : goal.table_of-own-requires-clause-empty
table_of-own-requires-clause-empty c = blank 512 512 refl

pub compare_earlier-requires-clause-known : goal.compare_earlier-requires-clause-known
compare_earlier-requires-clause-known c =
    let known = c.requires.known in
    let kept = c.keep_made.ensures.cached c.args.limits _ known.cached c.find_table-spot.ensures in
    record { bounded = known.bounded; taken = known.taken; cached = kept.0 }

pub compare_earlier-requires-clause-own : goal.compare_earlier-requires-clause-own
compare_earlier-requires-clause-own c =
    let found = c.find_table-spot in
    let kept = c.keep_made.ensures.cached c.args.limits _ c.requires.known.cached found.ensures in
    c.table_of-own.ensures ∙ stands_bytes _ _ c.keep_made.new.cache found.new.part found.result kept.1

pub returns-clause-cached : goal.returns-clause-cached
returns-clause-cached c = (c.keep_made.ensures.cached c.args.limits _ c.requires.known.cached c.find_table-spot.ensures).0
