-- 01, "For such a pair the check answers": what evidence has to be.
--   MapOf          a file in map form for the pair, for which 17 to 20 are answered yes of every row: a map of the theory (ale, RowMap: `IsHomomorphism`)
--   RefutationOf   a file in refutation form for which 21 is answered yes of every individual, and whose individual 0, in the interpretation that the
--                  file is, fits the first picture and not the second
use Rattle.std.specs.Prelude.{ℕ, ◌<◌, true, List, ◌≡◌}
use Rattle.table.specs.Range.{each}
use Rattle.table.specs.declared.layout.Limits.{Limits}
use Rattle.ale.specs.Interpretation.{structure_of}
use Rattle.ale.specs.PictureSignature.{picture_signature}
use Rattle.ale.specs.RowMap.{IsHomomorphism}
use Rattle.ale.specs.Structure.{Fits}
use Rattle.meaning.specs.Meaning.{picture_table, picture_tree}
use Rattle.meaning.specs.NormalTable.{normal_file}
use Rattle.countermodel.specs.Individual.{individual_ok, individuals, refutation_form}
use Rattle.countermodel.specs.Layout.{individual_count}
use Rattle.homomorphism.specs.Layout.{image_of}
use Rattle.evidence.specs.Form.{map_form}

module _ (limits : Limits) (first second e : List ℕ) where
  pub record MapOf : Type 0 where
    pub form : map_form (picture_table (normal_file limits second)).rows e ≡ true
    pub maps : IsHomomorphism picture_signature (picture_table (normal_file limits first)) (picture_table (normal_file limits second)) (image_of e)

  pub record RefutationOf : Type 0 where
    pub form : refutation_form limits e ≡ true
    pub passed : each (individual_ok e) (individual_count e) 0 ≡ true
    pub some : 0 < individual_count e
    pub fits : Fits picture_signature (structure_of picture_signature (individuals e some)) (picture_tree limits first) 0
    pub fails : Fits picture_signature (structure_of picture_signature (individuals e some)) (picture_tree limits second) 0 → ⊥
