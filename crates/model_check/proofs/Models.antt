-- The model check goes along links: what is still to be decided at a row or at an individual of a chain, and one turn of each loop.
--   fits_unsatisfied, fits_satisfied         the label first, and then the successors decide
--   below_from                                individual i passes what the successors of row w from row c on ask
--   BelowAt                                  it has passed what those before c ask, so these decide
--   below_start, below_next                  before the loop over them, and one turn more
--   below_fails, below_end                   where it stops
--   differs                                  whether an answer is another than `every`, the answer that lets the loop go on
--   meets_from                                of the individuals that i reaches from j on, one decides what successor c asks
--   MeetsAt                                  none before j has, so these decide
--   decides                                  individual j does: it is reached by the role, and answers otherwise than `every`
--   other_role_is, agrees, decided              the three answers to that
--   meets_start, meets_next                  before the loop over them, and one turn more
--   meets_found, meets_end                   where it stops
use Prim.Native.Nat.{◌+◌, ◌<◌, ℕ}
use borrow.Author.Tests.{eq-eqb, ne_eqb}
use lib.Dec.{eqb}
use lib.ListN.{get_or}
use mathlib.Core.Bool.{Bool, beq, ◌&&◌, ◌||◌, and-false, false, not, true}
use mathlib.Core.List.{List}
use mathlib.Core.Path.{◌∙◌, ◌≡◌, ap, ap₂, refl, sym}
use Rattle.row_sets.proofs.LinkLists.{OnChain, ahead, chain_first, chain_next, chain_on_first, chain_on_next, child_of}
use Rattle.ale.proofs.WholeTrees.{whole_step}
use Rattle.ale.specs.ModelCheck.{fits_all_test, fits_test, reached_test, restriction_test}
use Rattle.ale.specs.PictureSignature.{picture_signature}
use Rattle.ale.specs.Rows.{filter_below}
use Rattle.ale.specs.Signature.{Signature}
use Rattle.ale.specs.Table.{ParentsFirst, successors}
use Rattle.ale.specs.Tree.{Forest, Tree, any, exists, forAll}
use Rattle.meaning.specs.Meaning.{picture_table}
use Rattle.row_sets.specs.Rows.{Checked}
use Rattle.table.specs.Bounds.{max_rows}
use Rattle.table.specs.Fields.{kind_of, parent_of, role_of}
use Rattle.table.specs.Layout.{kind_for_all}
use Rattle.table.specs.Pick.{pick}
use Rattle.homomorphism_search.proofs.Walks.{checked_parents, successors_ahead}
use Rattle.countermodel.specs.Individual.{individual_parent, individual_role, individual_table}
use Rattle.refutation_reader.specs.declared.refutation.Refutation.{Refutation}
use Rattle.row_sets.specs.declared.linked.Table.{Table}
use Rattle.countermodel.specs.Layout.{most_individuals}
use Rattle.countermodel.specs.Model.{model_tree, row_tree}
use Rattle.model_check.specs.ModelRows.{below_fits, fits_row, reached_fits, reached_forest, satisfies_row}
use Rattle.countermodel.proofs.Individuals.{ok_parents}

refutation_parents : (r : Refutation) → ParentsFirst picture_signature (individual_table r.bytes.now)
refutation_parents r = ok_parents r.bytes.now (rw r.linked.all.counted at r.linked.passed)

-- ---- 22: the label, and then each successor

module _ {t : List ℕ} {rows : ℕ} (checked : Checked t rows) (r : Refutation) (w i : ℕ) where
  fits_split : fits_row t w r.bytes.now i ≡ (satisfies_row t w r.bytes.now i && below_fits t w r.bytes.now i)
  unfolding fits_row satisfies_row below_fits
  fits_split =
      ap₂ (fits_test picture_signature)
      (whole_step picture_signature (picture_table t) (checked_parents checked) w)
      (whole_step picture_signature (individual_table r.bytes.now) (refutation_parents r) i)

  pub fits_unsatisfied : {s : Bool} → s ≡ satisfies_row t w r.bytes.now i → s ≡ false → fits_row t w r.bytes.now i ≡ false
  fits_unsatisfied is f = fits_split ∙ rw (sym is ∙ f)

  pub fits_satisfied : {s b : Bool} → s ≡ satisfies_row t w r.bytes.now i → s ≡ true → b ≡ below_fits t w r.bytes.now i →
      fits_row t w r.bytes.now i ≡ b
  fits_satisfied is f rest = fits_split ∙ rw (sym is ∙ f, rest)

-- ---- along the rows that hang from row w

-- what the rows of a list ask
abbrev fits_rows : List ℕ → List ℕ → ℕ → List ℕ → Bool
fits_rows t e i s =
    fits_all_test picture_signature (successors picture_signature (picture_table t) (row_tree (picture_table t)) s) (reached_forest e i)

unfoldable pub below_from : List ℕ → ℕ → ℕ → List ℕ → ℕ → ℕ → Bool
below_from t rows w e i c = fits_rows t e i (ahead (parent_of t) rows w c)

pub record BelowAt (t : List ℕ) (rows w : ℕ) (e : List ℕ) (i c : ℕ) : Type 0 where
  pub on : OnChain (parent_of t) rows w c
  pub rest : below_fits t w e i ≡ below_from t rows w e i c

module _ (t : Table) (e : List ℕ) (i : ℕ) {w : ℕ} where
  below_all : w < t.rows → below_fits t.bytes.now w e i ≡ below_from t.bytes.now t.rows w e i (get_or t.links.now w 0)
  unfolding below_fits below_from
  below_all l = ap (fits_rows t.bytes.now e i) (successors_ahead t.bytes.now t.links.now t.rows w t.linked l)

  pub below_start : {c : ℕ} → w < t.rows → c ≡ get_or t.links.now w 0 → BelowAt t.bytes.now t.rows w e i c
  below_start l first =
      rw first
      (record {
        on = chain_on_first (parent_of t.bytes.now) t.rows w max_rows t.links.now t.linked.linked l;
        rest = below_all l;
      })

  module _ {c : ℕ} (z : c ≡ 0 → ⊥) (at : BelowAt t.bytes.now t.rows w e i c) {r : Bool} (is : r ≡ reached_fits t.bytes.now c e i) where
    below_turn : below_fits t.bytes.now w e i ≡ (r && below_from t.bytes.now t.rows w e i (get_or t.links.now (max_rows + c) 0))
    unfolding below_from reached_fits
    below_turn =
        rw is (at.rest ∙ ap (fits_rows t.bytes.now e i) (chain_next (parent_of t.bytes.now) t.rows w max_rows t.links.now t.linked.linked c z at.on))

    pub below_next : r ≡ true → {k : ℕ} → k ≡ get_or t.links.now (max_rows + c) 0 → BelowAt t.bytes.now t.rows w e i k
    below_next h next =
        rw next
        (record {
          on = chain_on_next (parent_of t.bytes.now) t.rows w max_rows t.links.now t.linked.linked c z at.on;
          rest = below_turn ∙ rw h;
        })

    pub below_fails : r ≡ false → below_fits t.bytes.now w e i ≡ false
    below_fails h = below_turn ∙ rw h

pub below_end : {t : List ℕ} {rows w : ℕ} {e : List ℕ} {i c : ℕ} → BelowAt t rows w e i c → c ≡ 0 → below_fits t w e i ≡ true
unfolding below_from
below_end {c = c} at z = at.rest ∙ rw (eq-eqb c 0 z)

-- ---- along the individuals that individual i reaches

abbrev pub differs : Bool → Bool → Bool
differs every x = pick every (not x) x

differs_from : (every x : Bool) → differs every x ≡ not (beq x every)
differs_from true true = refl
differs_from true false = refl
differs_from false true = refl
differs_from false false = refl

-- a restriction of either kind: one of the individuals that the role reaches answers otherwise than `every`, or none does
restriction_differs : (S : Signature) (every : Bool) (r : ℕ) (q : Tree S → Bool) (g : Forest S) →
    restriction_test S (pick every forAll exists) r q g ≡ differs every (any S (reached_test S r (λ b. differs every (q b))) g)
restriction_differs S true r q g = refl
restriction_differs S false r q g = refl

-- one of the individuals of a list decides
abbrev meets_one : Bool → List ℕ → ℕ → List ℕ → List ℕ → Bool
meets_one every t c e s =
    any picture_signature (reached_test picture_signature (role_of t c) (λ b. differs every (fits_test picture_signature (row_tree (picture_table t) c) b)))
    (successors picture_signature (individual_table e) (model_tree e) s)

unfoldable pub meets_from : Bool → List ℕ → ℕ → List ℕ → ℕ → ℕ → ℕ → Bool
meets_from every t c e n i j = meets_one every t c e (ahead (individual_parent e) n i j)

pub record MeetsAt (every : Bool) (t : List ℕ) (c : ℕ) (e : List ℕ) (n i j : ℕ) : Type 0 where
  pub on : OnChain (individual_parent e) n i j
  pub rest : reached_fits t c e i ≡ differs every (meets_from every t c e n i j)

module _ (every : Bool) (t : List ℕ) (c : ℕ) (r : Refutation) {i : ℕ} where
  meets_all : i < r.count → every ≡ eqb (kind_of t c) kind_for_all →
      reached_fits t c r.bytes.now i ≡ differs every (meets_from every t c r.bytes.now r.count i (get_or r.links.now i 0))
  unfolding reached_fits meets_from
  meets_all l k =
      rw (sym k)
      (restriction_differs picture_signature every (role_of t c) (fits_test picture_signature (row_tree (picture_table t) c)) (reached_forest r.bytes.now i)
      ∙ ap (λ (s : List ℕ). differs every (meets_one every t c r.bytes.now s))
      (ap (λ m. filter_below (child_of (individual_parent r.bytes.now) i) m) (sym r.linked.all.counted)
      ∙ chain_first (individual_parent r.bytes.now) r.count i most_individuals r.links.now r.linked.linked l))

  pub meets_start : {kind j : ℕ} → i < r.count → kind ≡ kind_of t c → every ≡ eqb kind kind_for_all → j ≡ get_or r.links.now i 0 →
      MeetsAt every t c r.bytes.now r.count i j
  meets_start l is k first =
      rw first
      (record {
        on = chain_on_first (individual_parent r.bytes.now) r.count i most_individuals r.links.now r.linked.linked l;
        rest = meets_all l (k ∙ ap (λ code. eqb code kind_for_all) is);
      })

  module _ {j : ℕ} (z : j ≡ 0 → ⊥) (at : MeetsAt every t c r.bytes.now r.count i j) where
    abbrev pub decides : Bool
    decides = eqb (individual_role r.bytes.now j) (role_of t c) && differs every (fits_row t c r.bytes.now j)

    pub other_role_is : {s by : ℕ} → s ≡ individual_role r.bytes.now j → by ≡ role_of t c → (s ≡ by → ⊥) → decides ≡ false
    other_role_is {s} {by} is asks u = rw (sym is, sym asks, ne_eqb s by u)

    pub agrees : {f : Bool} → f ≡ fits_row t c r.bytes.now j → not (beq f every) ≡ false → decides ≡ false
    agrees {f} is h = rw (sym is, differs_from every f, h) (and-false (eqb (individual_role r.bytes.now j) (role_of t c)))

    pub decided : {s by : ℕ} {f : Bool} → s ≡ individual_role r.bytes.now j → by ≡ role_of t c → s ≡ by → f ≡ fits_row t c r.bytes.now j →
        not (beq f every) ≡ true → decides ≡ true
    decided {s} {by} {f} same asks e is h = rw (sym same, sym asks, eq-eqb s by e, sym is, differs_from every f, h)

    meets_turn : meets_from every t c r.bytes.now r.count i j
        ≡ (decides || meets_from every t c r.bytes.now r.count i (get_or r.links.now (most_individuals + j) 0))
    unfolding meets_from fits_row
    meets_turn =
        ap (meets_one every t c r.bytes.now)
        (chain_next (individual_parent r.bytes.now) r.count i most_individuals r.links.now r.linked.linked j z at.on)

    pub meets_next : {k : ℕ} → k ≡ get_or r.links.now (most_individuals + j) 0 → decides ≡ false → MeetsAt every t c r.bytes.now r.count i k
    meets_next next h =
        rw next
        (record {
          on = chain_on_next (individual_parent r.bytes.now) r.count i most_individuals r.links.now r.linked.linked j z at.on;
          rest = at.rest ∙ ap (differs every) (meets_turn ∙ rw h);
        })

    pub meets_found : decides ≡ true → reached_fits t c r.bytes.now i ≡ not every
    meets_found h = at.rest ∙ ap (differs every) meets_turn ∙ rw h (found every)
      where
        found : (b : Bool) → differs b true ≡ not b
        found true = refl
        found false = refl

pub meets_end : {every : Bool} {t : List ℕ} {c : ℕ} {e : List ℕ} {n i j : ℕ} → MeetsAt every t c e n i j → j ≡ 0 → reached_fits t c e i ≡ every
unfolding meets_from
meets_end {every} {j = j} at z = at.rest ∙ rw (eq-eqb j 0 z) (none every)
  where
    none : (b : Bool) → differs b false ≡ b
    none true = refl
    none false = refl
