-- The part from after one kept place's head to the next place is the value.
use native.Mathlib.Omega.{arith}
use Rattle.field_places.proofs.KeptPlaces.{place_from, place_part, place_to}
use Rattle.field_places.proofs.places.value.Goals as goal

pub overflow_add-start : goal.overflow_add-start
overflow_add-start c =
    let a = c.args in
    let so = c.requires in
    omega (arith, place_from a.file.now a.fields a.k so.0 so.1, place_to a.file.now a.fields a.k so.0 so.1)

pub slice_bounds-result-count : goal.slice_bounds-result-count
slice_bounds-result-count c = omega (arith, place_from c.args.file.now c.args.fields c.args.k c.requires.0 c.requires.1)

pub slice_bounds-result-start : goal.slice_bounds-result-start
slice_bounds-result-start c = omega (arith, place_from c.args.file.now c.args.fields c.args.k c.requires.0 c.requires.1)

pub slice_bounds-result-end : goal.slice_bounds-result-end
slice_bounds-result-end c = place_to c.args.file.now c.args.fields c.args.k c.requires.0 c.requires.1

pub returns : goal.returns
returns c = place_part c.args.file.now c.args.fields c.args.k c.requires.0 c.requires.1
