-- A file for which 21 to 23 are answered yes is an interpretation whose individual 0 fits t and not u, and the reverse.
--   fits_same                 trees that what fits one fits the other pass the test of fitting alike
--   refutation_asked_same     so 22 and 23 may look at the normal table in the place of the picture
--   refutation_exactly        21 to 23 answered yes
--   question_fits             the test of 22 and 23 is fitting, in the interpretation that the file is
use Prim.Native.Nat.{ℕ, ◌<◌}
use lib.Dec.{T}
use mathlib.Core.Bool.{Bool, not, true}
use mathlib.Core.List.{List}
use mathlib.Core.Logic.{◌↔◌}
use mathlib.Core.Path.{◌∙◌, ◌≡◌, sym}
use Rattle.table.proofs.Bools.{by_test, false_is, is_false, is_true, true_is}
use Rattle.table.specs.Range.{each}
use Rattle.ale.proofs.ModelChecks.{fits_checked, fits_test_is, test_fits}
use Rattle.ale.proofs.Tests.{clash, refute}
use Rattle.ale.proofs.TreeStructure.{tree_structure}
use Rattle.ale.specs.Interpretation.{structure_of}
use Rattle.ale.specs.ModelCheck.{fits_test}
use Rattle.ale.specs.PictureSignature.{picture_signature}
use Rattle.ale.specs.Structure.{Fits}
use Rattle.ale.specs.Theory.{SubsumedInAll}
use Rattle.ale.specs.Table.{ParentsFirst}
use Rattle.ale.specs.Tree.{Tree}
use Rattle.countermodel.specs.Individual.{individual_ok, individual_table, individuals}
use Rattle.countermodel.specs.Layout.{individual_count}
use Rattle.countermodel.specs.Model.{model_tree}
use Rattle.picture.proofs.Orders.{and_decides, asked_decides, yes_so}
use Rattle.picture.specs.Asked.{and_then, asked, yes}
use Rattle.evidence.specs.Check.{refutation_asked}
use Rattle.evidence.specs.Map.{refusal_by}

abbrev fitted : Tree picture_signature → List ℕ → Bool
fitted t e = fits_test picture_signature t (model_tree e 0)

-- by meaning: any tree of individuals that fits the one fits the other
pub fits_same : (t v : Tree picture_signature) → SubsumedInAll picture_signature t v → SubsumedInAll picture_signature v t →
    (b : Tree picture_signature) → fits_test picture_signature t b ≡ fits_test picture_signature v b
fits_same t v to from b =
    by_test (fits_test picture_signature v b)
    (λ e. is_true (fits_test picture_signature t b) (fits_test_is picture_signature t b (from (tree_structure picture_signature) b (test_fits picture_signature v b (true_is (fits_test picture_signature v b) e)))) ∙ sym e)
    (λ e. is_false (fits_test picture_signature t b) (refute (fits_test picture_signature t b) (λ h.
    clash (fits_test picture_signature v b) (fits_test_is picture_signature v b (to (tree_structure picture_signature) b (test_fits picture_signature t b h))) (false_is (fits_test picture_signature v b) e))) ∙ sym e)

pub refutation_asked_same : (t u v w : Tree picture_signature) (e : List ℕ) → fitted t e ≡ fitted v e → fitted u e ≡ fitted w e →
    refutation_asked t u e ≡ refutation_asked v w e
unfolding refutation_asked
refutation_asked_same t u v w e a b = rw (a, b)

module _ (t u : Tree picture_signature) (e : List ℕ) where
  abbrev passing : Bool
  passing = each (individual_ok e) (individual_count e) 0

  pub refutation_exactly : (refutation_asked t u e ≡ yes) ↔
      ((each (individual_ok e) (individual_count e) 0 ≡ true)
      × (T (fits_test picture_signature t (model_tree e 0)) × T (not (fits_test picture_signature u (model_tree e 0)))))
  unfolding refutation_asked
  refutation_exactly =
      let a = asked passing (refusal_by 21) in
      let b = asked (fitted t e) (refusal_by 22) in
      let c = asked (not (fitted u e)) (refusal_by 23) in
      yes_so (and_then a (and_then b c))
      (and_decides a (and_then b c) (asked_decides passing (refusal_by 21))
      (λ h. and_decides b c (asked_decides (fitted t e) (refusal_by 22))
      (λ h. asked_decides (not (fitted u e)) (refusal_by 23)))) (
        λ (passed, (fits, fails)). (passed, (true_is (fitted t e) fits, true_is (not (fitted u e)) fails)),
        λ (passed, (fits, fails)). (passed, (is_true (fitted t e) fits, is_true (not (fitted u e)) fails)),
      )

-- 22 and 23 ask for fitting in the sense of the theory
pub question_fits : (e : List ℕ) (some : 0 < individual_count e) → ParentsFirst picture_signature (individual_table e) → (t : Tree picture_signature) →
    Fits picture_signature (structure_of picture_signature (individuals e some)) t 0 ↔ T (fits_test picture_signature t (model_tree e 0))
question_fits e some up t = fits_checked picture_signature (individual_table e) some up t
