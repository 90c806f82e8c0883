-- 25 says that there is a name byte.
use lib.ListN.{get_or}
use mathlib.Core.Path.{◌∙◌, ap}
use Rattle.definitions_form.proofs.NamedDefinitions.{has_name}
use Rattle.definitions_form.proofs.form.name_of.Goals as goal

pub name_byte-requires : goal.name_byte-requires
name_byte-requires c = has_name c.args.tbox.now _ c.args.fields c.args.k c.requires.0 c.requires.1 c.value.ensures

pub returns : goal.returns
returns c = c.name_byte.ensures ∙ ap (λ v. get_or v 0 0) c.value.ensures
