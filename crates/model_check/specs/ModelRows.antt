-- Row by row, whether an individual of the refutation e fits a row of the table t: what the parts of the model check decide. Nobody has to believe
-- these.
--   satisfies_row   the names that hold of individual i, against the label of row w
--   fits_row        individual i fits row w
--   row_forest, reached_forest   what hangs from a row, and the individuals that i reaches, as successors
--   below_fits      what the successors of row w ask of the individuals that i reaches
--   reached_fits    what successor c asks of the individuals that i reaches
use Rattle.std.specs.Prelude.{ℕ, Bool, List}
use Rattle.ale.specs.ModelCheck.{fits_all_test, fits_test, restriction_test, satisfies_test}
use Rattle.ale.specs.PictureSignature.{picture_signature}
use Rattle.ale.specs.Table.{Table, successor_rows, successors}
use Rattle.ale.specs.Tree.{Forest}
use Rattle.meaning.specs.Meaning.{picture_table}
use Rattle.countermodel.specs.Individual.{individual_table}
use Rattle.countermodel.specs.Model.{model_tree, row_tree}

unfoldable pub satisfies_row : List ℕ → ℕ → List ℕ → ℕ → Bool
satisfies_row t w e i = satisfies_test picture_signature ((picture_table t).label w) ((individual_table e).label i).wanted

unfoldable pub fits_row : List ℕ → ℕ → List ℕ → ℕ → Bool
fits_row t w e i = fits_test picture_signature (row_tree (picture_table t) w) (model_tree e i)

-- what hangs from a row, as successors
abbrev pub row_forest : Table picture_signature → ℕ → Forest picture_signature
row_forest p i = successors picture_signature p (λ j. row_tree p j) (successor_rows picture_signature p i)

-- the individuals that i reaches, as successors
abbrev pub reached_forest : List ℕ → ℕ → Forest picture_signature
reached_forest e i = row_forest (individual_table e) i

unfoldable pub below_fits : List ℕ → ℕ → List ℕ → ℕ → Bool
below_fits t w e i = fits_all_test picture_signature (row_forest (picture_table t) w) (reached_forest e i)

unfoldable pub reached_fits : List ℕ → ℕ → List ℕ → ℕ → Bool
reached_fits t c e i =
    restriction_test picture_signature ((picture_table t).kind c) ((picture_table t).role c) (λ b. fits_test picture_signature (row_tree (picture_table t) c) b)
    (reached_forest e i)
