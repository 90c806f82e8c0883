-- Formed   the fields of a definitions book are found, and 25 is answered yes of it. Nobody has to believe it.
use Rattle.std.specs.Prelude.{ℕ, true, List, ◌≡◌}
use Rattle.field_places.specs.Places.{Placed}
use Rattle.field_places.specs.declared.places.Fields.{Fields}
use Rattle.definitions.specs.Form.{definition_tag, definitions_form}

pub record Formed (tbox : List ℕ) (fields : Fields) : Type 0 where
  pub placed : Placed definition_tag tbox fields
  pub form : definitions_form tbox ≡ true
