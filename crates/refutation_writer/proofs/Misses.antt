-- What the search left behind for the refutation (homomorphism, Search: `Missed`), on the way down: the row that no edge serves is read from it, and it is
-- there again for the rows below.
--   unserved_inside               the row that no edge serves is one of the table's
--   MissedRow, missed_row         what was left for row u is that row, and there is more for the rows below u
--   falsified_canonical           where there is none, what hangs from row u is as in the canonical model
--   some_kind                     a row that does not hang by an all-edge hangs by a some-edge
--   missed_value                  what was left for the all-successor of its role
--   missed_chain, missed_reached  for a row on the chain of those that hang from u, and so for a some-successor by its role
use Prim.Native.Nat.{◌-◌, ◌<◌, suc, ℕ}
use borrow.Author.Tests.{eq-eqb, eqb-true}
use lib.Dec.{T, eqb}
use lib.ListN.{get_or}
use mathlib.Core.Bool.{Bool, true}
use mathlib.Core.List.{List, [], ◌∷◌}
use mathlib.Core.Logic.{◌⊎◌, inl, inr, ⊎_elim}
use mathlib.Core.Path.{◌∙◌, ◌≡◌, refl, subst, sym}
use native.Mathlib.Omega.{arith}
use Rattle.row_sets.proofs.LinkLists.{OnChain}
use Rattle.ale.proofs.RowLists.{filter_below_out, member_head, member_tail}
use Rattle.ale.proofs.TableLaws.{successor_nonzero, successor_parent}
use Rattle.ale.proofs.Tests.{chosen}
use Rattle.ale.specs.PictureSignature.{picture_signature}
use Rattle.ale.specs.Rows.{member}
use Rattle.ale.specs.Table.{successor_of, successor_rows}
use Rattle.homomorphism_search.proofs.Searches.{checked_edge, checked_has, edge_bytes}
use Rattle.homomorphism_search.specs.Search.{EdgeRow, Hangs, Missed, MissedBelow, edge_served, first_failing, label_carried, same_edge, unserved_row}
use Rattle.meaning.specs.Meaning.{picture_table}
use Rattle.row_sets.specs.Rows.{Checked}
use Rattle.table.proofs.Bools.{is_true}
use Rattle.table.specs.Fields.{kind_of, parent_of, role_of}
use Rattle.table.specs.Layout.{kind_exists, kind_for_all}
use Rattle.table.specs.Pick.{pick}
use Rattle.row_sets.proofs.Checks.{edge_kind}
use Rattle.row_sets.specs.declared.linked.Table.{Table}
use Rattle.refutation_writer.specs.declared.refute.FailedSearch.{FailedSearch}
use Rattle.refutation_writer.specs.Searches.{first_of, second_of}
use Rattle.refutation_writer.specs.Refuting.{canonical_below, falsified_below, first_value, value_row}
use Rattle.refutation_writer.proofs.Refutings.{falsified_none, falsified_zero}

-- ---- rows that hang from a row

row_hangs : (s : List ℕ) (u v : ℕ) → T (member v (successor_rows picture_signature (picture_table s) u)) → Hangs s u v
row_hangs s u v is =
    let (hangs, inside) = filter_below_out (successor_of picture_signature (picture_table s) u) (picture_table s).rows v is in
    (successor_nonzero picture_signature (picture_table s) u v hangs, inside, successor_parent picture_signature (picture_table s) u v hangs)

-- the first row that fails is 0 or one of the list
failing_either : (P : ℕ → Type 0) (f : ℕ → Bool) (rows : List ℕ) → P 0 → ((j : ℕ) → T (member j rows) → P j) → P (first_failing f rows)
failing_either P f [] none each = none
failing_either P f (c ∷ rows) none each =
    chosen P (f c) (first_failing f rows) c
    (λ _. failing_either P f rows none (λ j is. each j (member_tail j c rows is))) (λ _. each c (member_head c rows))

pub unserved_inside : (s t : List ℕ) (m d w u : ℕ) → Checked t m → unserved_row s t d w u < m
unfolding unserved_row
unserved_inside s t m d w u checked =
    failing_either (λ j. j < m) (edge_served s t d u) (successor_rows picture_signature (picture_table t) w) checked.some
    (λ j is. let (_, inside, _) = row_hangs t w j is in omega (arith, checked.counted))

-- the all-successor of a role is one of the list, an all-successor, and by that role
module _ (s : List ℕ) (role : ℕ) where
  abbrev ByValue : List ℕ → ℕ → Type 0
  ByValue rows v = (v ≡ 0 → ⊥) → T (member v rows) × (kind_of s v ≡ kind_for_all) × (role_of s v ≡ role)

  first_value_is : (rows : List ℕ) → ByValue rows (first_value s role rows)
  first_value_is [] = λ z. absurd (z refl)
  first_value_is (v ∷ rows) =
      let next = first_value s role rows in
      let kinds = eqb (kind_of s v) kind_for_all in
      let roles = eqb (role_of s v) role in
      let later : ByValue (v ∷ rows) next = λ z. let (is, kind, by) = first_value_is rows z in (member_tail next v rows is, kind, by) in
      chosen (ByValue (v ∷ rows)) kinds (pick roles v next) next
      (λ all. chosen (ByValue (v ∷ rows)) roles v next
      (λ by z. (member_head v rows, eqb-true (kind_of s v) kind_for_all (is_true kinds all), eqb-true (role_of s v) role (is_true roles by)))
      (λ _. later))
      (λ _. later)

-- ---- what was left

-- what was left for row u is row c
pub record MissedRow (x : FailedSearch) (d w u c : ℕ) : Type 0 where
  pub found : c ≡ unserved_row (first_of x) (second_of x) d w u
  pub inside : c < x.second.now.rows
  pub below : MissedBelow (first_of x) (second_of x) x.missed.now d c u

module _ (x : FailedSearch) (depth w u : ℕ) {c : ℕ} (left : Missed (first_of x) (second_of x) x.missed.now depth w u)
    (carried : label_carried (first_of x) (second_of x) w u ≡ true) (is : c ≡ get_or x.missed.now u 0) where
  pub missed_row : (depth ≡ 0 → ⊥) → MissedRow x (depth - 1) w u c
  missed_row deep =
      let deeper : depth ≡ suc (depth - 1) = omega arith in
      let (row, below) = subst (λ n. Missed (first_of x) (second_of x) x.missed.now n w u) deeper left carried in
      let found = is ∙ row in
      record {
        found = found;
        inside = rw found (unserved_inside (first_of x) (second_of x) x.second.now.rows (depth - 1) w u x.second.now.linked.checked);
        below = subst (λ j. MissedBelow (first_of x) (second_of x) x.missed.now (depth - 1) j u) (sym found) below;
      }

  -- at depth 0, and where there is none, what hangs from row u is as in the canonical model
  pub falsified_canonical : (depth ≡ 0) ⊎ ((depth ≡ 0 → ⊥) × (c ≡ 0)) →
      falsified_below (first_of x) (second_of x) depth w u ≡ canonical_below (first_of x) depth u
  falsified_canonical (inl z) = falsified_zero (first_of x) (second_of x) depth w u z
  falsified_canonical (inr (deep, none)) =
      falsified_none (first_of x) (second_of x) u w deep (missed_row deep).found none

-- a row that does not hang by an all-edge hangs by a some-edge
pub some_kind : (t : Table) {c kind : ℕ} → (c ≡ 0 → ⊥) → c < t.rows → kind ≡ kind_of t.bytes.now c → (kind ≡ kind_for_all → ⊥) →
    kind_of t.bytes.now c ≡ kind_exists
some_kind t {c = c} z inside is other = ⊎_elim (λ e. e) (λ e. absurd (other (is ∙ e))) (edge_kind t.linked.checked c z inside)

-- rows of one kind and one role hang by the same edge
edge_same : (s t : List ℕ) (c v : ℕ) → EdgeRow s v → EdgeRow t c → kind_of s v ≡ kind_of t c → role_of s v ≡ role_of t c → same_edge s t c v ≡ true
edge_same s t c v row edge kinds roles =
    edge_bytes s t c v (kind_of s v) (kind_of t c) row edge refl refl
    ∙ rw (eq-eqb (kind_of s v) (kind_of t c) kinds, eq-eqb (role_of s v) (role_of t c) roles)

module _ (x : FailedSearch) (d c : ℕ) (inside : c < x.second.now.rows) where
  pub missed_value : {u role v : ℕ} → MissedBelow (first_of x) (second_of x) x.missed.now d c u → kind_of (second_of x) c ≡ kind_for_all →
      role ≡ role_of (second_of x) c → value_row (first_of x) u role ≡ v → (v ≡ 0 → ⊥) → Missed (first_of x) (second_of x) x.missed.now d c v
  unfolding value_row
  missed_value {u} {role} {v} below all role-is is z =
      let s = first_of x in
      let rows = successor_rows picture_signature (picture_table s) u in
      let (on, kind, by) = subst (ByValue s role rows) is (first_value_is s role rows) z in
      let hangs = row_hangs s u v on in
      let counted = x.first.now.linked.checked.counted in
      below v hangs
      (edge_same s (second_of x) c v (checked_edge x.first.now.linked.checked z (rw counted hangs.1))
      (record { whole = checked_has (second_of x) x.second.now.rows c x.second.now.linked.checked inside; edge = λ _. all })
      (kind ∙ sym all) (by ∙ role-is))

  pub missed_reached : {v kind role by : ℕ} → (v ≡ 0 → ⊥) → v < x.first.now.rows → kind_of (second_of x) c ≡ kind_exists →
      (same_edge (first_of x) (second_of x) c v ≡ true → Missed (first_of x) (second_of x) x.missed.now d c v) →
      kind ≡ kind_of (first_of x) v → (kind ≡ kind_for_all → ⊥) → role ≡ role_of (first_of x) v → by ≡ role_of (second_of x) c → role ≡ by →
      Missed (first_of x) (second_of x) x.missed.now d c v
  missed_reached {v = v} z here some left kind_is other role-is by-is same =
      left (edge_same (first_of x) (second_of x) c v (checked_edge x.first.now.linked.checked z here)
      (record {
        whole = checked_has (second_of x) x.second.now.rows c x.second.now.linked.checked inside;
        edge = λ u. absurd (u some);
      })
      (some_kind x.first.now z here kind_is other ∙ sym some)
      (sym role-is ∙ same ∙ by-is))

pub missed_chain : (x : FailedSearch) (d c : ℕ) {u v : ℕ} → MissedBelow (first_of x) (second_of x) x.missed.now d c u →
    OnChain (parent_of (first_of x)) x.first.now.rows u v →
    (v ≡ 0 → ⊥) → same_edge (first_of x) (second_of x) c v ≡ true → Missed (first_of x) (second_of x) x.missed.now d c v
missed_chain x d c {v = v} below on z =
    let counted = x.first.now.linked.checked.counted in let (inside, hangs) = on z in below v (z, omega arith, hangs)
