-- 01, questions 16 to 23, for evidence e. p and q are the normal tables, of which a map speaks; t and u the pictures'
-- trees, which individual 0 of a refutation fits or not.
--   refutation_asked   21 of every individual, then 22, 23
--   check_asked        16; then the questions of the form that it has
--   taken_as           what is taken: a map, by its form, or else a refutation
use Rattle.std.specs.Prelude.{ℕ, ◌||◌, not, List}
use Rattle.table.specs.Pick.{pick}
use Rattle.table.specs.Range.{each}
use Rattle.table.specs.declared.layout.Limits.{Limits}
use Rattle.ale.specs.ModelCheck.{fits_test}
use Rattle.ale.specs.PictureSignature.{picture_signature}
use Rattle.ale.specs.Table.{Table}
use Rattle.ale.specs.Tree.{Tree}
use Rattle.picture.specs.Asked.{and_then, asked, Asked}
use Rattle.countermodel.specs.Individual.{individual_ok, refutation_form}
use Rattle.countermodel.specs.Layout.{individual_count}
use Rattle.countermodel.specs.Model.{model_tree}
use Rattle.homomorphism.specs.Layout.{image_of}
use Rattle.evidence.specs.Form.{map_form}
use Rattle.evidence.specs.Map.{map_asked, refusal_by}
use Rattle.evidence.specs.declared.check.Taken.{Taken}
use Rattle.evidence.specs.declared.check.Taken.TheVariants.{Map, Refutation}

-- 21. For each individual in order: parent below its number, role below 32, both 0 for individual 0?
-- 22. Does individual 0 fit the first? 23. Does it fail to fit the second?
unfoldable pub refutation_asked : Tree picture_signature → Tree picture_signature → List ℕ → Asked
refutation_asked t u e =
    and_then (asked (each (individual_ok e) (individual_count e) 0) (refusal_by 21))
    (and_then (asked (fits_test picture_signature t (model_tree e 0)) (refusal_by 22))
    (asked (not (fits_test picture_signature u (model_tree e 0))) (refusal_by 23)))

unfoldable pub check_asked : Limits → Table picture_signature → Table picture_signature →
    Tree picture_signature → Tree picture_signature → List ℕ → Asked
check_asked limits p q t u e =
    and_then (asked (map_form q.rows e || refutation_form limits e) (refusal_by 16))
    (pick (map_form q.rows e) (map_asked p q (image_of e)) (refutation_asked t u e))

abbrev pub taken_as : ℕ → List ℕ → Taken
taken_as rows e = pick (map_form rows e) Map Refutation
