-- Laws of the individuals of a refutation file.
--   within_most                        at no limits are there more individuals
--   count_whole                        the individuals that are counted stand whole in the file
--   form_asks                          what the form of a refutation asks
--   form_length                        the end field follows the individuals, and the file stops
--   root_ok, later_ok                  21: of individual 0, and of a later one
--   individual_parent_is                  a parent stands before its individual
--   individual_role_is                    and its role is one of the format's
--   ok_parents, ok_roles, ok_root      21, of the table of individuals
--   reached_is                         the interpretation: a later individual is reached from its parent by its role, and no other pairs exist
--   holds_is, names_below              and its names are those that hold of it
use Prim.Native.Nat.{◌+◌, ◌<◌, ◌^◌, ◌≤◌, ℕ}
use borrow.Author.Tests.{eq-eqb, eqb-false, eqb-true, leb-true, ltb-true, ne_eqb}
use lib.Dec.{T, eqb, eqb_refl, eqb→eq, leb, ltb}
use lib.ListN.{length}
use mathlib.Core.Bool.{Bool, ◌&&◌, true}
use mathlib.Core.List.{List}
use mathlib.Core.Logic.{◌↔◌}
use mathlib.Core.Path.{◌≡◌, ap, refl, subst, sym}
use native.Mathlib.Nat.{mod-eq_of_lt, mul-le-mul}
use native.Mathlib.Omega.{arith}
use Rattle.ale.proofs.TableLaws.{successor_intro, successor_nonzero, successor_parent}
use Rattle.ale.proofs.Tests.{and_intro, and_left, and_right}
use Rattle.ale.specs.PictureSignature.{picture_signature}
use Rattle.ale.specs.Table.{KnownRoles, ParentsFirst, successor_of}
use Rattle.table.proofs.Bools.{both, by_test}
use Rattle.table.proofs.Numbers.{be_bound}
use Rattle.table.proofs.Ranges.{each_at}
use Rattle.table.proofs.Rows.{ends_parts}
use Rattle.table.specs.Bounds.{Bounded, bench_limits}
use Rattle.table.specs.Fields.{ends_at}
use Rattle.table.specs.Layout.{end_size, name_bytes, name_count, roles}
use Rattle.table.specs.NameSet.{has}
use Rattle.table.specs.Number.{Bytes}
use Rattle.table.specs.Range.{each}
use Rattle.table.specs.declared.layout.Limits.{Limits}
use Rattle.countermodel.specs.Individual.{individual_head, individual_names, individual_ok, individual_parent, individual_role, individual_table, individuals, refutation_form}
use Rattle.countermodel.specs.Layout.{individual_count, individual_place, individuals_within, most_individuals, individual_names_offset}

-- ---- 16: the form

pub within_most : (limits : Limits) → Bounded limits → individuals_within limits ≤ most_individuals
within_most limits (few, low) = mul-le-mul {n₂ = bench_limits.depth + 1} (omega arith) few

pub count_whole : (e : List ℕ) → individual_place (individual_count e) 0 ≤ length e
unfolding individual_count
count_whole e = omega arith

module _ (limits : Limits) (e : List ℕ) where
  pub form_asks : refutation_form limits e ≡ true → (0 < individual_count e) × (individual_count e ≤ individuals_within limits) × (ends_at e (individual_place (individual_count e) 0) ≡ true) × (each (individual_head e) (individual_count e) 0 ≡ true)
  unfolding refutation_form
  form_asks h =
      let n = individual_count e in
      let heads = each (individual_head e) n 0 in
      let ends = ends_at e (individual_place n 0) in
      let few = leb n (individuals_within limits) in
      let (a, r) = both (ltb 0 n) (few && (ends && heads)) h in
      let (b, s) = both few (ends && heads) r in
      let (c, d) = both ends heads s in
      (ltb-true 0 n a, leb-true n (individuals_within limits) b, c, d)

  pub form_length : refutation_form limits e ≡ true → length e ≡ individual_place (individual_count e) end_size
  form_length h = omega (arith, (ends_parts e (individual_place (individual_count e) 0) (form_asks h).2).0)

-- ---- 21

module _ (e : List ℕ) (k : ℕ) (h : individual_ok e k ≡ true) where
  -- of individual 0, and of a later one
  pub root_ok : k ≡ 0 → (individual_parent e k ≡ 0) × (individual_role e k ≡ 0)
  unfolding individual_ok
  root_ok z =
      let (p, r) = both (eqb (individual_parent e k) 0) (eqb (individual_role e k) 0) (rw (eq-eqb k 0 z) at h) in
      (eqb-true (individual_parent e k) 0 p, eqb-true (individual_role e k) 0 r)

  pub later_ok : (k ≡ 0 → ⊥) → (individual_parent e k < k) × (individual_role e k < roles)
  unfolding individual_ok
  later_ok z =
      let (p, r) = both (ltb (individual_parent e k) k) (ltb (individual_role e k) roles) (rw (ne_eqb k 0 z) at h) in
      (ltb-true (individual_parent e k) k p, ltb-true (individual_role e k) roles r)

  pub individual_parent_is : (k ≡ 0 → ⊥) → individual_parent e k < k
  individual_parent_is z = (later_ok z).0

  pub individual_role_is : individual_role e k < roles
  individual_role_is = by_test (eqb k 0) (λ z. omega (arith, (root_ok (eqb-true k 0 z)).1)) (λ z. (later_ok (eqb-false k 0 z)).1)

module _ (e : List ℕ) (h : each (individual_ok e) (individual_count e) 0 ≡ true) where
  ok : (k : ℕ) → k < individual_count e → individual_ok e k ≡ true
  ok k l = each_at (individual_ok e) (individual_count e) 0 h k (omega arith) (omega arith)

  pub ok_parents : ParentsFirst picture_signature (individual_table e)
  ok_parents y l z = individual_parent_is e y (ok y l) z

  pub ok_roles : KnownRoles picture_signature (individual_table e)
  ok_roles j l = individual_role_is e j (ok j l)

  pub ok_root : 0 < individual_count e → (individual_parent e 0 ≡ 0) × (individual_role e 0 ≡ 0)
  ok_root some = root_ok e 0 (ok 0 some) refl

-- ---- the interpretation

module _ (e : List ℕ) (some : 0 < individual_count e) where
  pub reached_is : (r x y : ℕ) → T ((individuals e some).edge r x y) ↔ ((y ≡ 0 → ⊥) × (individual_parent e y ≡ x) × (individual_role e y ≡ r))
  reached_is r x y = (from, to)
    where
      hangs : Bool
      hangs = successor_of picture_signature (individual_table e) x y

      from : T (hangs && eqb (individual_role e y) r) → (y ≡ 0 → ⊥) × (individual_parent e y ≡ x) × (individual_role e y ≡ r)
      from h =
          let s = and_left hangs (eqb (individual_role e y) r) h in
          (successor_nonzero picture_signature (individual_table e) x y s, successor_parent picture_signature (individual_table e) x y s, eqb→eq (individual_role e y) r (and_right hangs (eqb (individual_role e y) r) h))

      to : (y ≡ 0 → ⊥) × (individual_parent e y ≡ x) × (individual_role e y ≡ r) → T (hangs && eqb (individual_role e y) r)
      to (z, p, q) =
          and_intro hangs (eqb (individual_role e y) r) (successor_intro picture_signature (individual_table e) x y z p) (subst (λ w. T (eqb w r)) (sym q) (eqb_refl r))

  pub holds_is : (n x : ℕ) → individual_names e x < 2 ^ name_count → (individuals e some).holds n x ≡ has (individual_names e x) n
  holds_is n x l = ap (λ s. has s n) (mod-eq_of_lt l)

pub names_below : (e : List ℕ) → Bytes e → (x : ℕ) → individual_names e x < 2 ^ name_count
names_below e bytes x = be_bound e (individual_place x individual_names_offset) name_bytes (λ i l. bytes (individual_place x individual_names_offset + i))
