-- The lots one after the other.
use mathlib.Core.List.{◌++◌}
use mathlib.Core.Path.{◌∙◌}
use Rattle.definitions_asked.specs.Lots.{lot_of}
use Rattle.definitions_asked.proofs.Sizes.{measured_all, measured_on}
use Rattle.definitions_asked.proofs.ask.ask_sizes.Goals as goal

pub measure_lot-one-requires : goal.measure_lot-one-requires
measure_lot-one-requires c = record { known = c.requires.known; read = c.requires.first_read }

pub measure_lot-given-requires : goal.measure_lot-given-requires
measure_lot-given-requires c = record { known = c.requires.known; read = c.requires.rest_read }

pub measure_lot-all-requires : goal.measure_lot-all-requires
measure_lot-all-requires c = record { known = c.requires.known; read = c.requires.own_read }

pub returns : goal.returns
returns c =
    let a = c.args in
    let tbox = a.tbox.now.bytes.now in
    let ps = lot_of a.first.now in
    let qs = lot_of a.rest.now in
    let rs = lot_of a.own.now in
    let one = c.measure_lot-one in
    let given = c.measure_lot-given in
    let all = c.measure_lot-all in
    c.and_then.ensures
    ∙ measured_all a.limits tbox ((ps ++ qs) ++ rs) all.result
    (measured_on a.limits tbox (ps ++ qs) rs _ given.result all.result
    (measured_on a.limits tbox ps qs _ one.result given.result one.ensures given.ensures) all.ensures)
