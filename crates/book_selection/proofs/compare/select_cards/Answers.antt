-- What is left of the covering cards are the most specific; the work space is cleared from its first byte to its last.
use native.Mathlib.Omega.{arith}
use mathlib.Core.Path.{refl}
use Rattle.workspace.specs.Prepare.{work_size}
use Rattle.fields.proofs.Forms.{count_most}
use Rattle.book.proofs.Selections.{cards_preorder}
use Rattle.book.specs.Form.{card_tag, most_cards}
use Rattle.book_tables.proofs.CardTables.{cards_taken}
use Rattle.book_selection.proofs.Comparisons.{cleared, selected_bits}
use Rattle.book_selection.proofs.compare.select_cards.Goals as goal

pub returns-clause-word : goal.returns-clause-word
returns-clause-word c =
    let a = c.args in
    let known = c.requires.known in
    selected_bits a.limits _ a.covering most_cards c.compare_cards-redundant.result c.without.result
    (cards_preorder a.limits _ (cards_taken known.bounded known.taken).readable) (count_most card_tag _) c.requires.inside
    c.compare_cards-redundant.ensures.compared c.without.ensures

pub returns-clause-work : goal.returns-clause-work
returns-clause-work c = cleared _ c.clear.new.dst _ (work_size c.args.limits) refl (omega (arith, c.requires.long)) c.clear.ensures
