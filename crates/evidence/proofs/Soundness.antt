-- 01, "For such a pair the check answers": which evidence is taken, for arbitrary bytes, and what that shows of the two pictures.
--   forms_apart         no file has both forms
--   asked_map, asked_refutation             all is answered yes, by the form and the questions of it
--   TakenAs             16 to 23 are answered yes, and the evidence is of a kind
--   map_taken           "map taken" exactly when the evidence is a map and 17 to 20 are answered yes
--   refutation_taken    "refutation taken" exactly when it is a refutation and 21 to 23 are
--   evidence_taken      so 16 to 23 are answered yes exactly of one or the other
--   map_covers          there is a map only if the second covers the first,
--   refutation_fails    and a refutation only if it does not
use Prim.Native.Nat.{ℕ, ◌*◌}
use native.Mathlib.Omega.{arith}
use borrow.Author.Tests.{eqb-true}
use lib.Dec.{T, eqb}
use lib.ListN.{get_or}
use mathlib.Core.Bool.{Bool, ◌&&◌, ◌||◌, false, true}
use mathlib.Core.List.{List}
use mathlib.Core.Logic.{◌↔◌, ◌⊎◌, inl, inr, ⊎_elim}
use mathlib.Core.Path.{◌≡◌, refl, subst, sym}
use Rattle.table.proofs.Bools.{both, by_test}
use Rattle.table.proofs.Ranges.{each_at}
use Rattle.table.specs.Bounds.{Bounded}
use Rattle.table.specs.Fields.{ends_at}
use Rattle.table.specs.Layout.{length_offset, number_size}
use Rattle.table.specs.Number.{be}
use Rattle.table.specs.Pick.{pick}
use Rattle.table.specs.declared.layout.Limits.{Limits}
use Rattle.ale.proofs.MapExistence.{homomorphism_exists}
use Rattle.ale.proofs.Subsumption.{subsumption_homomorphism}
use Rattle.ale.proofs.Tests.{clash, refute}
use Rattle.ale.specs.Homomorphism.{maps_to}
use Rattle.ale.specs.ModelCheck.{fits_test}
use Rattle.ale.specs.PictureSignature.{picture_signature}
use Rattle.ale.specs.Table.{Table}
use Rattle.ale.specs.Tree.{Tree}
use Rattle.picture.specs.Asked.{and_then, asked, Asked, yes}
use Rattle.meaning.proofs.Coverings.{covers_fits}
use Rattle.meaning.proofs.Normals.{normal_readable}
use Rattle.meaning.proofs.Pictures.{picture_known, picture_parents}
use Rattle.meaning.specs.Covering.{Covers}
use Rattle.meaning.specs.Meaning.{picture_table, picture_tree}
use Rattle.meaning.specs.NormalTable.{normal_file, normal_tree_of}
use Rattle.countermodel.proofs.Individuals.{form_asks, ok_parents}
use Rattle.countermodel.specs.Individual.{individual_head, individuals, refutation_form}
use Rattle.countermodel.specs.Layout.{individual_count, individual_length, individual_place, individual_tag}
use Rattle.countermodel.specs.Model.{model_tree, row_tree}
use Rattle.workspace.specs.Prepare.{Acceptable}
use Rattle.evidence.specs.Call.{evidence_asked, evidence_kind}
use Rattle.evidence.specs.Check.{check_asked, refutation_asked, taken_as}
use Rattle.homomorphism.specs.Layout.{image_of, image_place, map_tag}
use Rattle.evidence.specs.Form.{map_form}
use Rattle.evidence.specs.Map.{map_asked, refusal_by}
use Rattle.evidence.specs.Taken.{MapOf, RefutationOf}
use Rattle.evidence.specs.declared.check.Taken.TheVariants.{Map, Refutation}
use Rattle.evidence.proofs.Homomorphisms.{map_yes, yes_map}
use Rattle.evidence.proofs.NormalTables.{normal_row_tree, normal_some}
use Rattle.evidence.specs.declared.check.Taken.{Taken}
use Rattle.evidence.proofs.Refutations.{question_fits, refutation_exactly}

-- ---- forms

refutation_tag : (limits : Limits) (e : List ℕ) → refutation_form limits e ≡ true → get_or e 0 0 ≡ individual_tag
unfolding individual_head
refutation_tag limits e h =
    let (some, few, ends, heads) = form_asks limits e h in
    eqb-true (get_or e 0 0) individual_tag
    (both (eqb (get_or e (individual_place 0 0) 0) individual_tag) (eqb (be e (individual_place 0 length_offset) number_size) individual_length)
    (each_at (individual_head e) (individual_count e) 0 heads 0 (omega arith) (omega arith))).0

map_tag_is : (rows : ℕ) (e : List ℕ) → map_form rows e ≡ true → get_or e 0 0 ≡ map_tag
unfolding map_form
map_tag_is rows e h =
    let tagged = eqb (get_or e 0 0) map_tag in
    let long = eqb (be e length_offset number_size) (number_size * rows) in
    eqb-true (get_or e 0 0) map_tag (both tagged long (both (ends_at e (image_place rows)) (tagged && long) h).1).0

pub forms_apart : (limits : Limits) (rows : ℕ) (e : List ℕ) → map_form rows e ≡ true → refutation_form limits e ≡ true → ⊥
forms_apart limits rows e h k = omega (arith, map_tag_is rows e h, refutation_tag limits e k)

-- ---- the kinds

-- neither is the other
other_taken : Map ≡ Refutation → ⊥
other_taken h = let z : ◌≡◌ {A = ℕ} 0 1 = cc in omega arith

-- b says whether it has the form of a map, c whether that of a refutation; m and n are what the questions of each
-- answer
module _ (m n : Asked) where
  abbrev checks : Bool → Bool → Asked
  checks b c = and_then (asked (b || c) (refusal_by 16)) (pick b m n)

  by_map : (b c : Bool) → checks b c ≡ yes → pick b Map Refutation ≡ Map → (b ≡ true) × (m ≡ yes)
  by_map true c h k = (refl, h)
  by_map false c h k = absurd (other_taken (sym k))

  by_refutation : (b c : Bool) → checks b c ≡ yes → pick b Map Refutation ≡ Refutation →
      (c ≡ true) × (n ≡ yes)
  by_refutation true c h k = absurd (other_taken k)
  by_refutation false true h k = (refl, h)
  by_refutation false false h k = absurd (let z : ◌≡◌ {A = ℕ} 0 1 = cc in omega arith)

module _ (p q : Table picture_signature) (t u : Tree picture_signature) (limits : Limits) (e : List ℕ) where
  pub asked_map : ((check_asked limits p q t u e ≡ yes) × (taken_as q.rows e ≡ Map)) ↔
      ((map_form q.rows e ≡ true) × (map_asked p q (image_of e) ≡ yes))
  unfolding check_asked
  asked_map = (
    λ (all, kind). by_map (map_asked p q (image_of e)) (refutation_asked t u e) (map_form q.rows e)
        (refutation_form limits e) all kind,
    λ (form, all). (rw (form, all), rw form),
  )

  pub asked_refutation : ((check_asked limits p q t u e ≡ yes) × (taken_as q.rows e ≡ Refutation)) ↔
      ((refutation_form limits e ≡ true) × (refutation_asked t u e ≡ yes))
  unfolding check_asked
  asked_refutation = (
    λ (all, kind). by_refutation (map_asked p q (image_of e)) (refutation_asked t u e) (map_form q.rows e)
        (refutation_form limits e) all kind,
    λ (form, all). let none = no_map form in (rw (none, form, all), rw none),
  )
    where
      no_map : refutation_form limits e ≡ true → map_form q.rows e ≡ false
      no_map form = by_test (map_form q.rows e) (λ map. absurd (forms_apart limits q.rows e map form))
          (λ none. none)

-- ---- what is taken

abbrev pub TakenAs : Limits → List ℕ → List ℕ → List ℕ → Taken → Type 0
TakenAs limits first second e kind = (evidence_asked limits first second e ≡ yes) × (evidence_kind limits second e ≡ kind)

module _ (limits : Limits) (first second e : List ℕ) (bounded : Bounded limits) (pair : Acceptable limits first second) where
  abbrev p : Table picture_signature
  p = picture_table (normal_file limits first)

  abbrev q : Table picture_signature
  q = picture_table (normal_file limits second)

  pub map_taken : TakenAs limits first second e Map ↔ MapOf limits first second e
  unfolding evidence_asked
  map_taken =
      let (to, from) = asked_map p q (picture_tree limits first) (picture_tree limits second) limits e in (
        λ h. let (form, all) = to h in
            record {
              form = form;
              maps = map_yes p q (image_of e) (normal_some limits second bounded pair.second_few)
                  all;
            },
        λ m. from (m.form, yes_map p q (image_of e) m.maps),
      )

  pub refutation_taken : TakenAs limits first second e Refutation ↔ RefutationOf limits first second e
  unfolding evidence_asked
  refutation_taken =
      let t = picture_tree limits first in
      let u = picture_tree limits second in
      let (to, from) = asked_refutation p q t u limits e in (
        λ h. let (form, all) = to h in
            let (passed, (fits, fails)) = (refutation_exactly t u e).0 all in
            let some = (form_asks limits e form).0 in
            let up = ok_parents e passed in
            record {
              form = form;
              passed = passed;
              some = some;
              fits = (question_fits e some up t).1 fits;
              fails = λ f. clash (fits_test picture_signature u (model_tree e 0)) ((question_fits e some up u).0 f) fails;
            },
        λ r. let up = ok_parents e r.passed in
            from (
              r.form,
              (refutation_exactly t u e).1 (
                r.passed,
                (
                  (question_fits e r.some up t).0 r.fits,
                  refute (fits_test picture_signature u (model_tree e 0))
                      (λ f. r.fails ((question_fits e r.some up u).1 f)),
                ),
              ),
            ),
      )

  -- all is answered yes exactly of one or the other
  pub evidence_taken : (evidence_asked limits first second e ≡ yes) ↔ (MapOf limits first second e
      ⊎ RefutationOf limits first second e)
  evidence_taken = (
    λ all. by_test (map_form q.rows e) (λ form. inl (map_taken.0 (all, rw form)))
        (λ none. inr (refutation_taken.0 (all, rw none))),
    ⊎_elim (λ m. (map_taken.1 m).0) (λ r. (refutation_taken.1 r).0),
  )

  pub map_covers : MapOf limits first second e → Covers limits second first
  unfolding normal_tree_of
  map_covers m =
      let up = picture_parents limits (normal_file limits first) (normal_readable limits first pair.first_few bounded) in
      let uq = picture_parents limits (normal_file limits second) (normal_readable limits second pair.second_few bounded) in
      let sp = normal_some limits first bounded pair.first_few in
      let sq = normal_some limits second bounded pair.second_few in
      let t = (homomorphism_exists picture_signature p q up uq sp sq).0 (image_of e, m.maps) in
      let v = subst (λ d. T (maps_to picture_signature d (normal_tree_of limits first))) (normal_row_tree limits second bounded pair.second_few)
      (subst (λ d. T (maps_to picture_signature (row_tree q 0) d)) (normal_row_tree limits first bounded pair.first_few) t) in
      (covers_fits limits first second).0
      ((subsumption_homomorphism picture_signature (picture_table first) (picture_table second)
      (picture_known limits first pair.first_readable) (picture_known limits second pair.second_readable)
      limits.depth limits.depth).1 v)

  pub refutation_fails : RefutationOf limits first second e → Covers limits second first → ⊥
  refutation_fails r c = r.fails ((covers_fits limits first second).1 c (individuals e r.some) 0 r.some r.fits)
