-- The row test of the two roots, as in `row_maps`.
use mathlib.Core.Path.{◌∙◌, refl, sym}
use Prim.Native.Nat.{◌-◌}
use Rattle.homomorphism_search.proofs.Searches.{row_apart, row_deep, row_leaf, row_marked}
use Rattle.homomorphism_search.proofs.Traces.{found_deep, missed_deep}
use Rattle.homomorphism_search.proofs.Served.{if_none, none_served, row_missed}
use Rattle.homomorphism_search.specs.Search.{unserved_row}
use Rattle.homomorphism_search.proofs.search.maps.Goals as goal

pub returns-then-impossible-eq1-clause-is : goal.returns-then-impossible-eq1-clause-is
returns-then-impossible-eq1-clause-is c =
    let a = c.args in
    sym (row_marked a.first.now.bytes.now a.second.now.bytes.now 0 0 a.depth c.impossible.result c.impossible.ensures c.if-impossible-eq1.true)

pub returns-then-not-label_within-clause-is : goal.returns-then-not-label_within-clause-is
returns-then-not-label_within-clause-is c =
    let a = c.args in
    sym (row_apart a.first.now.bytes.now a.second.now.bytes.now 0 0 a.depth c.impossible.result c.impossible.ensures c.if-impossible-eq1.false
    c.label_within.result (c.label_within.ensures a.second.now.bytes.now 0 c.label_at.ensures) c.if-not-label_within.true)

pub returns-then-depth-eq0-clause-is : goal.returns-then-depth-eq0-clause-is
returns-then-depth-eq0-clause-is c =
    let a = c.args in
    sym (row_leaf a.first.now.bytes.now a.second.now.bytes.now 0 0 a.depth c.impossible.result c.impossible.ensures c.if-impossible-eq1.false
    c.label_within.result (c.label_within.ensures a.second.now.bytes.now 0 c.label_at.ensures) c.if-not-label_within.false c.if-depth-eq0.true)

pub returns-clause-is : goal.returns-clause-is
returns-clause-is c =
    let a = c.args in
    let found = unserved_row a.first.now.bytes.now a.second.now.bytes.now (a.depth - 1) 0 0 in
    none_served found c.unserved.result c.is_none.result c.is_none.ensures c.unserved.ensures.row
    ∙ sym (row_deep a.first.now.bytes.now a.second.now.bytes.now 0 0 a.depth c.impossible.result c.impossible.ensures c.if-impossible-eq1.false
    c.label_within.result (c.label_within.ensures a.second.now.bytes.now 0 c.label_at.ensures) found c.if-not-label_within.false
    c.if-depth-eq0.false refl)

pub returns-clause-found : goal.returns-clause-found
returns-clause-found c e =
    let a = c.args in
    found_deep a.first.now.bytes.now a.second.now.bytes.now c.unserved.new.found a.depth 0 0 c.if-depth-eq0.false
    (if_none c.unserved.result c.is_none.result c.is_none.ensures e c.unserved.ensures.found)

pub returns-clause-missed : goal.returns-clause-missed
returns-clause-missed c e =
    let a = c.args in
    let found = unserved_row a.first.now.bytes.now a.second.now.bytes.now (a.depth - 1) 0 0 in
    let kept = row_missed _ found c.unserved.result c.is_none.result c.is_none.ensures e c.unserved.ensures.row c.unserved.ensures.missed in
    missed_deep a.first.now.bytes.now a.second.now.bytes.now c.unserved.new.missed a.depth 0 0
    found c.if-depth-eq0.false refl kept.0 kept.1
