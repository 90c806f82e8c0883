-- 25 says that there is a name byte; the rest of the value is the picture.
use Prim.Native.Nat.{◌-◌, ◌≤◌}
use native.Mathlib.Omega.{arith}
use lib.ListN.{drop, length, length-drop}
use lib.Seq.{take_all}
use mathlib.Core.Path.{◌∙◌, ap}
use Rattle.definitions.specs.Form.{definition_file}
use Rattle.definitions_form.proofs.NamedDefinitions.{has_name}
use Rattle.definitions_form.proofs.form.picture_of.Goals as goal

pub slice_bounds-result-count : goal.slice_bounds-result-count
slice_bounds-result-count c =
    omega (arith, has_name c.args.tbox.now c.value-definition.result.now c.args.fields c.args.k c.requires.0 c.requires.1 c.value-definition.ensures)

pub slice_bounds-result-start : goal.slice_bounds-result-start
slice_bounds-result-start c =
    omega (arith, has_name c.args.tbox.now c.value-definition.result.now c.args.fields c.args.k c.requires.0 c.requires.1 c.value-definition.ensures)

pub returns : goal.returns
unfolding definition_file
returns c =
    let v = c.value-definition.result.now in
    let rest : length (drop 1 v) ≤ length v - 1 = rw length-drop (omega arith) in
    take_all (length v - 1) (drop 1 v) rest ∙ ap (drop 1) c.value-definition.ensures
