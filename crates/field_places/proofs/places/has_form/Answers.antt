-- The place after the last field is kept. `t2` is `fields`, whose array is indexed.
use mathlib.Core.Path.{◌∙◌, ap}
use native.Mathlib.Omega.{arith}
use Rattle.table.specs.Fields.{ends_at}
use Rattle.fields.specs.Form.{field_place, fields_form}
use Rattle.field_places.proofs.places.has_form.Goals as goal

pub returns : goal.returns
unfolding fields_form
returns c =
    λ tag counted.
    let file = c.args.file.now in
    c.ends_at.ensures
    ∙ ap (ends_at file) (c.requires.placed c.args.fields.count (omega arith) ∙ ap (field_place file) counted)
