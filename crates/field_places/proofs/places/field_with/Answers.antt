-- A head that does not fit, another tag, and else the length that the head says.
use native.Mathlib.Omega.{arith}
use mathlib.Core.Path.{◌∙◌, sym}
use Rattle.field_places.specs.Places.{tag_of}
use Rattle.field_places.proofs.KeptPlaces.{not_head, not_tag, whole_field}
use Rattle.field_places.proofs.places.field_with.Goals as goal

pub returns-then-left-lt-HEAD_SIZE : goal.returns-then-left-lt-HEAD_SIZE
returns-then-left-lt-HEAD_SIZE c =
    let args = c.args in
    not_head (tag_of args.kind) args.file.now args.at (omega (arith, c.requires, c.if-left-lt-HEAD_SIZE.true))

pub returns-then-has_tag : goal.returns-then-has_tag
returns-then-has_tag c =
    let args = c.args in
    whole_field (tag_of args.kind) args.file.now args.at c.load16.result
    (sym c.has_tag.ensures ∙ c.if-has_tag.true) c.load16.ensures.0
    (omega (arith, c.requires, c.if-left-lt-HEAD_SIZE.false))

pub returns-else-has_tag : goal.returns-else-has_tag
returns-else-has_tag c =
    let args = c.args in
    c.if-has_tag.false ∙ not_tag (tag_of args.kind) args.file.now args.at (sym c.has_tag.ensures ∙ c.if-has_tag.false)
