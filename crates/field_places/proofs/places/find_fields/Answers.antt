use native.Mathlib.Omega.{arith}
use mathlib.Core.Path.{◌∙◌, refl, sym}
use Rattle.fields.proofs.Forms.{field_whole}
use Rattle.field_places.specs.Places.{tag_of}
use Rattle.field_places.proofs.KeptPlaces.{scan_full, scan_next, scan_start, scan_stop}
use Rattle.field_places.proofs.places.find_fields.Goals as goal

pub loop-k-init : goal.loop-k-init
loop-k-init c =
    let args = c.args in scan_start (tag_of args.kind) args.file.now _ refl refl

pub field_with-requires : goal.field_with-requires
field_with-requires c = c.loop-k.invariant.at_inside

pub returns-then-not-field_with : goal.returns-then-not-field_with
returns-then-not-field_with c =
    let args = c.args in
    let l = c.loop-k in
    scan_stop (tag_of args.kind) args.file.now l.places l.k l.at l.invariant
    (sym c.field_with.ensures ∙ c.if-not-field_with.true)

pub next_place-at-requires : goal.next_place-at-requires
next_place-at-requires c =
    field_whole (tag_of c.args.kind) c.args.file.now c.loop-k.at (sym c.field_with.ensures ∙ c.if-not-field_with.false)

pub loop-k-preserved : goal.loop-k-preserved
loop-k-preserved c =
    let tag = tag_of c.args.kind in
    let file = c.args.file.now in
    let l = c.loop-k in
    let stands = sym c.field_with.ensures ∙ c.if-not-field_with.false in
    let whole = field_whole tag file l.at stands in
    scan_next tag file l.places l.k l.at l.invariant c.next_place-at.result
    c.loop-k-test.true stands c.next_place-at.ensures
    (omega (arith, c.next_place-at.ensures, whole))

pub returns : goal.returns
returns c =
    let args = c.args in
    let l = c.loop-k in
    scan_full (tag_of args.kind) args.file.now l.places l.k l.at l.invariant (omega (arith, c.loop-k-test.false))
