-- Rings of definitions, as the code finds them: sets of names are words. Nobody has to believe these.
--   used_in       some row of a picture wants a name, and it is defined
--   uses_at       the set that an array has for a name
--   Uses         an array has for each defined name those that its picture uses
--   settle_set    the defined names whose sets are within a set
--   settled_set   those found in k rounds
use Rattle.std.specs.Prelude.{◌<◌, suc, zero, ℕ, get_or, Bool, ◌&&◌, true, List, ◌≡◌}
use Rattle.table.specs.Layout.{name_count}
use Rattle.table.specs.NameSet.{has, none, set_below, subset}
use Rattle.table.specs.NameValues.{set_of}
use Rattle.table.specs.declared.names.Names.{Names}
use Rattle.ale.specs.PictureSignature.{picture_signature}
use Rattle.meaning.specs.Meaning.{picture_table}
use Rattle.tbox.specs.Definitions.{wants_in}
use Rattle.definition_parts.specs.Parts.{part_at}

abbrev pub used_in : List ℕ → ℕ → ℕ → Bool
used_in s defined m = has defined m && wants_in picture_signature (picture_table s) m

abbrev pub uses_at : List Names → ℕ → ℕ
uses_at uses n = set_of (get_or uses n (record { word = none }))

pub record Uses (tbox starts : List ℕ) (defined : ℕ) (uses : List Names) : Type 0 where
  pub right : (n : ℕ) → n < name_count → has defined n ≡ true →
      (m : ℕ) → has (uses_at uses n) m ≡ used_in (part_at tbox (get_or starts n 0)) defined m

abbrev pub settle_set : (ℕ → ℕ) → ℕ → ℕ → ℕ
settle_set uses defined done = set_below (λ n. has defined n && subset (uses n) done) name_count

unfoldable pub settled_set : (ℕ → ℕ) → ℕ → ℕ → ℕ
settled_set uses defined zero = none
settled_set uses defined (suc k) = settle_set uses defined (settled_set uses defined k)
