-- A refutation file by the paper's own numbers: the form that the definitions give is exactly this one, and so is 21.
--   RefutationFile             n fields of tag 42 and length 11, and the end field, tag 2F and length 0; then the file stops
--   refutation_file_is, file_refutation   16 is answered yes exactly for such a file of 1 to so many individuals
--   question_21                of one individual, both ways
--   names_at                   where its names stand
use Prim.Native.Nat.{ℕ, ◌*◌, ◌+◌, ◌<◌, ◌≤◌, suc}
use native.Mathlib.Omega.{arith}
use borrow.Author.Tests.{eq-eqb, eqb-false, eqb-true, le-leb, lt-ltb}
use lib.Dec.{eqb}
use lib.ListN.{get_or, length}
use mathlib.Core.Bool.{true}
use mathlib.Core.List.{List}
use mathlib.Core.Logic.{◌↔◌}
use mathlib.Core.Path.{◌≡◌, refl, subst}
use Rattle.table.proofs.Bools.{both, by_test}
use Rattle.table.proofs.Ranges.{at_each, each_at}
use Rattle.table.proofs.Rows.{ends_parts, parts_ends}
use Rattle.table.specs.Layout.{length_offset, number_size, roles}
use Rattle.table.specs.Number.{be}
use Rattle.table.specs.declared.layout.Limits.{Limits}
use Rattle.countermodel.specs.Individual.{individual_head, individual_names, individual_ok, individual_parent, individual_role, refutation_form}
use Rattle.countermodel.specs.Layout.{individual_count, individual_length, individual_place, individual_tag, individuals_within}
use Rattle.countermodel.proofs.Individuals.{form_asks, later_ok, root_ok}

pub record RefutationFile (limits : Limits) (e : List ℕ) (n : ℕ) : Type 0 where
  pub some : 1 ≤ n
  pub most : n ≤ suc limits.depth * limits.rows
  pub size : length e ≡ 14 * n + 3
  pub tags : (k : ℕ) → k < n → get_or e (14 * k) 0 ≡ 0x42
  pub lengths : (k : ℕ) → k < n → be e (14 * k + 1) 2 ≡ 11
  pub end_tag_is : get_or e (14 * n) 0 ≡ 0x2F
  pub end_length_is : be e (14 * n + 1) 2 ≡ 0

head_is : (e : List ℕ) (k : ℕ) → individual_head e k ≡ true → (get_or e (14 * k) 0 ≡ 0x42) × (be e (14 * k + 1) 2 ≡ 11)
unfolding individual_head
head_is e k h =
    let tagged = eqb (get_or e (individual_place k 0) 0) individual_tag in
    let long = eqb (be e (individual_place k length_offset) number_size) individual_length in
    let (a, b) = both tagged long h in
    let z : 14 * k + 0 ≡ 14 * k = omega arith in
    (subst (λ at. get_or e at 0 ≡ 0x42) z (eqb-true (get_or e (individual_place k 0) 0) individual_tag a), eqb-true (be e (individual_place k length_offset) number_size) individual_length b)

is_head : (e : List ℕ) (k : ℕ) → get_or e (14 * k) 0 ≡ 0x42 → be e (14 * k + 1) 2 ≡ 11 → individual_head e k ≡ true
unfolding individual_head
is_head e k a b =
    let z : 14 * k ≡ 14 * k + 0 = omega arith in
    rw (eq-eqb (get_or e (individual_place k 0) 0) individual_tag (subst (λ at. get_or e at 0 ≡ 0x42) z a), eq-eqb (be e (individual_place k length_offset) number_size) individual_length b)

module _ (limits : Limits) (e : List ℕ) where
  pub refutation_file_is : refutation_form limits e ≡ true → RefutationFile limits e (individual_count e)
  refutation_file_is h =
      let n = individual_count e in
      let (some, few, ends, heads) = form_asks limits e h in
      let (size, tag, long) = ends_parts e (individual_place n 0) ends in
      let head : (k : ℕ) → k < n → (get_or e (14 * k) 0 ≡ 0x42) × (be e (14 * k + 1) 2 ≡ 11) =
      λ k l. head_is e k (each_at (individual_head e) n 0 heads k (omega arith) (omega arith)) in
      let z : 14 * n + 0 ≡ 14 * n = omega arith in
      record {
        some = some;
        most = few;
        size = omega arith;
        tags = λ k l. (head k l).0;
        lengths = λ k l. (head k l).1;
        end_tag_is = subst (λ at. get_or e at 0 ≡ 0x2F) z tag;
        end_length_is = subst (λ at. be e (at + 1) 2 ≡ 0) z long;
      }

  module _ (n : ℕ) (f : RefutationFile limits e n) where
    file_count : individual_count e ≡ n
    unfolding individual_count
    file_count = omega (arith, f.size)

    form_of : refutation_form limits e ≡ true
    unfolding refutation_form
    form_of =
        let z : 14 * n ≡ 14 * n + 0 = omega arith in
        let size = f.size in
        let ends = parts_ends e (individual_place n 0) (omega arith) (subst (λ at. get_or e at 0 ≡ 0x2F) z f.end_tag_is) (subst (λ at. be e (at + 1) 2 ≡ 0) z f.end_length_is) in
        let heads = at_each (individual_head e) n 0 (λ k a b. is_head e k (f.tags k (omega arith)) (f.lengths k (omega arith))) in
        rw (file_count, lt-ltb 0 n f.some, le-leb n (individuals_within limits) f.most, ends, heads)

  pub file_refutation : (n : ℕ) → RefutationFile limits e n → refutation_form limits e ≡ true
  file_refutation n f = form_of n f

-- ---- 21

module _ (e : List ℕ) (k : ℕ) where
  pub question_21 : individual_ok e k ≡ true ↔
      ((k ≡ 0 → (be e (14 * k + 3) 2 ≡ 0) × (get_or e (14 * k + 5) 0 ≡ 0)) × ((k ≡ 0 → ⊥) → (be e (14 * k + 3) 2 < k) × (get_or e (14 * k + 5) 0 < 32)))
  unfolding individual_ok
  question_21 = (
    λ h. (root_ok e k h, later_ok e k h),
    λ (first, later). by_test (eqb k 0)
        (λ e₀. let z = eqb-true k 0 e₀ in let (a, b) = first z in rw (e₀, eq-eqb (individual_parent e k) 0 a, eq-eqb (individual_role e k) 0 b))
        (λ e₀. let z = eqb-false k 0 e₀ in let (a, b) = later z in rw (e₀, lt-ltb (individual_parent e k) k a, lt-ltb (individual_role e k) roles b)),
  )

  pub names_at : individual_names e k ≡ be e (14 * k + 6) 8
  names_at = refl
