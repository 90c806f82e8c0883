-- The values that the calls give fit their part of the word.
--   normal_small    the length of the normal table
--   verdict_small   the length of the evidence
--   common_small    the length of the common picture
use Prim.Native.Nat.{◌<◌, ℕ}
use lib.ListN.{length}
use mathlib.Core.Bool.{Bool, false, true}
use mathlib.Core.List.{List}
use mathlib.Core.Path.{◌≡◌, subst, sym}
use native.Mathlib.Omega.{arith}
use Rattle.std.proofs.Common.{Err, Ok, Result}
use Rattle.table.specs.Bounds.{Bounded}
use Rattle.table.specs.Pick.{pick}
use Rattle.table.specs.declared.layout.Limits.{Limits}
use Rattle.picture.proofs.Orders.{on_by}
use Rattle.picture.specs.declared.answer.Refusal.{Refusal}
use Rattle.meaning.proofs.Normals.{normal_size}
use Rattle.meaning.specs.NormalTable.{normal_file}
use Rattle.countermodel.proofs.Individuals.{within_most}
use Rattle.subsumption.proofs.Writers.{evidence_size_is}
use Rattle.subsumption.specs.Call.{verdict_answer}
use Rattle.subsumption.specs.Verdict.{evidence_of, evidence_size, verdict_of}
use Rattle.subsumption.specs.declared.verdict.Verdict.TheVariants as verdict
use Rattle.lcs.proofs.Commons.{lcs_size}
use Rattle.lcs.specs.Product.{lcs_file}
use Rattle.definitions.specs.Unfolded.{unfolded_file}
use Rattle.under.proofs.Answers.{lcs_yes, one_yes, pair_yes}
use Rattle.under.proofs.Calls.{lcs_all_is, lcs_all, normalize_all_is, normalize_all, pair_all, subsumes_all_is}
use Rattle.under.proofs.Givens.{acceptable_unfolded}
use Rattle.under.specs.Calls.{lcs_under, normalize_under, subsumes_under}
use Rattle.subsumption.specs.declared.verdict.Verdict.{Verdict}
use Rattle.interface.specs.Word.{value_range}

abbrev SmallNormal : Result ℕ Refusal → Type 0
SmallNormal v = (n : ℕ) → v ≡ Ok n → n < value_range

abbrev SmallVerdict : Result Verdict Refusal → Type 0
SmallVerdict v = (n : ℕ) → (v ≡ Ok (verdict.Yes n) → n < value_range) × (v ≡ Ok (verdict.No n) → n < value_range)

abbrev SmallCommon : Result ℕ Refusal → Type 0
SmallCommon v = (n : ℕ) → v ≡ Ok n → n < value_range

either_small : (v : Bool) (m : ℕ) → m < value_range → SmallVerdict (Ok (pick v (verdict.Yes m) (verdict.No m)))
either_small true m l n = (
  λ e. let is : m ≡ n = cc in omega arith,
  λ e. absurd
      (let z : ◌≡◌ {A = ℕ} 0 1 = cc in omega arith),
)
either_small false m l n = (
  λ e. absurd (let z : ◌≡◌ {A = ℕ} 0 1 = cc in omega arith),
  λ e. let is : m
      ≡ n = cc in omega arith,
)

refused_small : (r : Refusal) → SmallVerdict (Err r)
refused_small r n = (
  λ e. absurd (let z : ◌≡◌ {A = ℕ} 0 1 = cc in omega arith),
  λ e. absurd
      (let z : ◌≡◌ {A = ℕ} 0 1 = cc in omega arith),
)

pub normal_small : (limits : Limits) → Bounded limits → (tbox picture : List ℕ) (room : ℕ) →
    SmallNormal (normalize_under limits tbox picture room)
normal_small limits bounded tbox picture room =
    let s = unfolded_file limits tbox picture in
    subst SmallNormal (sym (normalize_all_is limits tbox picture room))
    (on_by (Ok (length (normal_file limits s))) SmallNormal
    (normalize_all limits tbox picture room)
    (λ all n e.
    let (long, ok, few) = (one_yes limits bounded tbox picture room).0 all in
    let is : length (normal_file limits s) ≡ n = cc in
    omega (arith, normal_size limits s few, bounded.0))
    (λ r h n e. absurd (let z : ◌≡◌ {A = ℕ} 0 1 = cc in omega arith)))

module _ (limits : Limits) (bounded : Bounded limits) (tbox first second : List ℕ) (work result : ℕ) where
  abbrev p : List ℕ
  p = unfolded_file limits tbox first

  abbrev q : List ℕ
  q = unfolded_file limits tbox second

  pub verdict_small : SmallVerdict (subsumes_under limits tbox first second work result)
  unfolding verdict_answer
  verdict_small =
      subst SmallVerdict (sym (subsumes_all_is limits tbox first second work result))
      (on_by (Ok (verdict_answer limits p q)) SmallVerdict
      (pair_all limits tbox first second (evidence_size limits) work result)
      (λ all.
      let (enough, long, ok) = (pair_yes limits bounded tbox first second (evidence_size limits) work result).0 all in
      let base = acceptable_unfolded limits tbox first second bounded ok in
      either_small (verdict_of limits p q) (length (evidence_of limits p q))
      (omega (arith, evidence_size_is limits p q bounded base, within_most limits bounded)))
      (λ r e. refused_small r))

  pub common_small : SmallCommon (lcs_under limits tbox first second work result)
  common_small =
      subst SmallCommon (sym (lcs_all_is limits tbox first second work result))
      (on_by (Ok (length (lcs_file limits p q))) SmallCommon
      (lcs_all limits tbox first second work result)
      (λ all n e.
      let (enough, long, ok, few) = (lcs_yes limits bounded tbox first second work result).0 all in
      let is : length (lcs_file limits p q) ≡ n = cc in
      omega (arith, lcs_size limits p q few, bounded.0))
      (λ r h n e. absurd (let z : ◌≡◌ {A = ℕ} 0 1 = cc in omega arith)))
