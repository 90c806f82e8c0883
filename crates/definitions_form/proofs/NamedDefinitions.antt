-- Laws of 25, as the code asks it.
--   has_name   after 25 a value has a name byte
--   form_by    25, by the end field and by the definitions, of which there are n
use Prim.Native.Nat.{◌<◌, ◌≤◌, ℕ}
use lib.ListN.{length}
use mathlib.Core.Bool.{Bool, ◌&&◌}
use mathlib.Core.List.{List}
use mathlib.Core.Path.{◌∙◌, ◌≡◌, ap, sym}
use native.Mathlib.Omega.{arith}
use Rattle.table.specs.Range.{each}
use Rattle.fields.specs.Form.{field_value, fields_form}
use Rattle.field_places.specs.declared.places.Fields.{Fields}
use Rattle.definitions.proofs.Coverings.{name_byte}
use Rattle.definitions_form.specs.Formed.{Formed}
use Rattle.definitions.specs.Form.{definition_count, definition_tag, definitions_form, named}

pub has_name : (tbox v : List ℕ) (fields : Fields) (k : ℕ) → Formed tbox fields → k < fields.count → v ≡ field_value tbox k → 1 ≤ length v
has_name tbox v fields k formed l is =
    let has = name_byte tbox formed.form k (omega (arith, formed.placed.counted)) in
    omega (arith, has, ap length is)

pub form_by : (tbox : List ℕ) (n : ℕ) → n ≡ definition_count tbox → (a b : Bool) → fields_form definition_tag tbox ≡ a →
    each (named tbox) n 0 ≡ b → (a && b) ≡ definitions_form tbox
unfolding definitions_form
form_by tbox n counted a b ends are =
    sym (ap (λ (c : Bool). c && each (named tbox) (definition_count tbox) 0) ends
    ∙ ap (λ (c : Bool). a && c) (ap (λ (m : ℕ). each (named tbox) m 0) (sym counted) ∙ are))
