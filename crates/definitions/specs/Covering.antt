-- 02, U3, "Covering now ranges over interpretations in which a defined name holds of exactly the individuals that fit
-- its picture", with Table 1's extensions.
--   Belongs        an individual fits a picture: it is in the extension of its concept
--   RespectsBook   such an interpretation
--   CoversUnder    the second picture covers the first, under a definitions book
use Rattle.std.specs.Prelude.{ℕ, ◌<◌, T, List, ◌↔◌}
use Rattle.table.specs.declared.layout.Limits.{Limits}
use Rattle.ale.specs.Concept.{InExtension, concept_of}
use Rattle.ale.specs.Interpretation.{Interpretation, structure_of}
use Rattle.ale.specs.PictureSignature.{picture_signature}
use Rattle.meaning.specs.Meaning.{picture_tree}
use Rattle.definitions.specs.Form.{definition_count, definition_file, name_of}

abbrev pub Belongs : Limits → Interpretation picture_signature → List ℕ → ℕ → Type 0
Belongs limits I s x =
    InExtension picture_signature (structure_of picture_signature I) (concept_of picture_signature (picture_tree limits s)) x

abbrev pub RespectsBook : Limits → List ℕ → Interpretation picture_signature → Type 0
RespectsBook limits book I =
    (k : ℕ) → k < definition_count book → (x : ℕ) → x < I.count →
    T (I.holds (name_of book k) x) ↔ Belongs limits I (definition_file book k) x

abbrev pub CoversUnder : Limits → List ℕ → List ℕ → List ℕ → Type 0
CoversUnder limits book second first =
    (I : Interpretation picture_signature) → RespectsBook limits book I →
    (x : ℕ) → x < I.count → Belongs limits I first x → Belongs limits I second x
