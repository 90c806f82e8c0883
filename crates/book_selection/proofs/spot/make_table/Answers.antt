-- The card is the part of the book that is looked up; what is found in the definitions book is what unfolding needs.
use Rattle.std.proofs.lemmas.Result.{MatchResult-at_ok}
use Rattle.std.specs.Result.{result_copied}
use mathlib.Core.Path.{◌∙◌, ap, sym}
use Rattle.definitions_reader.proofs.Indexes.{index_there}
use Rattle.definitions_reader.specs.Index.{Indexes}
use Rattle.book_tables.proofs.CardTables.{card_made, card_room}
use Rattle.book_selection.proofs.spot.make_table.Goals as goal
use Rattle.book_selection.proofs.spot.make_table.Goals.{After-unwrap-index}

pub unwrap-index-requires : goal.unwrap-index-requires
unwrap-index-requires c =
    c.as_ref.ensures.variant ∙ index_there _ _ c.index_of-found.ensures c.requires.taken.accepted.prepared.definable.once

found : (c : After-unwrap-index) → Indexes c.args.tbox.now c.unwrap-index.result.now
found c =
    (MatchResult-at_ok _ _ _ (sym c.as_ref.ensures.value ∙ ap result_copied c.unwrap-index.ensures)
    c.index_of-found.ensures).1

pub invariant_of-opened : goal.invariant_of-opened
invariant_of-opened c =
    record {
      opened = (found (goal.at.invariant_of-opened c).After-unwrap-index).opened c.args.limits c.requires.bounded
          c.requires.taken.accepted.prepared.definable.readable;
    }

pub unfolded_table-requires : goal.unfolded_table-requires
unfolded_table-requires c =
    let pre = c.requires in
    let book = pre.taken.accepted.prepared.definable in
    let index = found (goal.at.unfolded_table-requires c).After-unwrap-index in
    card_room pre.bounded pre.taken c.args.k pre.below c.card.ensures
    (record {
      bounded = pre.bounded;
      definable = book;
      opened = index.opened c.args.limits pre.bounded book.readable;
      agrees = index.agrees;
    })
    pre.room

pub returns : goal.returns
returns c =
    let pre = c.requires in
    card_made pre.bounded pre.taken c.args.k pre.below c.card.ensures c.unfolded_table.ensures
