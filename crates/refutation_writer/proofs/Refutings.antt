-- The countermodel of two tables, row by row: each part of the refutation is what its definition gives at what the code has read of the rows.
--   within_marked, within_names      no set has what a marked row wants; of another the names decide
--   against_lacks, against_holds     row w is not fitted as it is marked or at a wanted name, at an excluded name
--   against_below, against_carried   or further down, where its label is carried
--   falsified_zero                   at depth 0 nothing hangs from row u, as in the canonical model
--   falsified_none                   where every edge is served, what hangs from it is as in the canonical model
--   falsified_value                  the first edge that is not served, an all-edge: one individual more
--   falsified_realized               a some-edge: each some-successor by its role is against it
--   value_top, value_row_is          the individual more fits the all-successor of the role, or ⊤
--   below_top                         what hangs from ⊤ so that row w is not fitted
--   top_lacks, top_holds, top_below  where nothing is asked: at a wanted name, at an excluded one, or further down
--   top_zero, top_none, top_some     further down nothing hangs from it: at depth 0, where nothing hangs from w, and where its first edge is a some-edge
--   top_all                          and one individual where it is an all-edge
--   top_inside                       the row of the first edge is there
--   realized_split                   the some-successors of a list, one after the other
--   realized_all, realized_same,
--   realized_other                   of one row: nothing of an all-successor; against row c by its role; else as in the canonical model
use Prim.Native.Nat.{◌%◌, ◌-◌, ◌<◌, ◌^◌, suc, ℕ}
use native.Mathlib.Omega.{arith}
use borrow.Author.Tests.{eq-eqb, ne_eqb}
use lib.Dec.{T, eqb}
use lib.ListN.{get_or}
use mathlib.Core.Bool.{Bool, and-false, and-true, false, not, true}
use mathlib.Core.List.{List, [], ◌∷◌}
use mathlib.Core.Path.{◌∙◌, ◌≡◌, ap, ap₂, refl, sym}
use Rattle.row_sets.proofs.LinkLists.{OnChain, ahead, chain_next, chain_on_first}
use Rattle.ale.proofs.RowLists.{filter_below_out, member_head, member_tail}
use Rattle.ale.proofs.TableLaws.{successor_nonzero, tree_of_node}
use Rattle.ale.specs.Countermodel.{canonical, canonical_all, countermodel, falsify, falsify_all, individual, realize, value_of, widened}
use Rattle.ale.specs.Forest.{append}
use Rattle.ale.specs.PictureSignature.{picture_signature}
use Rattle.ale.specs.Rows.{member}
use Rattle.ale.specs.Table.{successor_of, successor_rows, successors}
use Rattle.ale.specs.Tree.{Forest, Kind, Tree, cons, empty_label, exists, forAll, nil, successors_of, top}
use Rattle.homomorphism_search.proofs.Labels.{Read, low_same}
use Rattle.homomorphism_search.specs.Search.{edge_served, first_failing, forest_at, label_carried, tree_at, unserved_row}
use Rattle.meaning.specs.Meaning.{kind_at, label_at, picture_table, set_at}
use Rattle.table.proofs.Bools.{both, by_test}
use Rattle.table.proofs.NameSets.{subset_none}
use Rattle.table.specs.Bounds.{max_rows}
use Rattle.table.specs.Fields.{excluded_of, impossible_of, kind_of, parent_of, role_of, wanted_of}
use Rattle.table.specs.Layout.{kind_exists, kind_for_all, name_count}
use Rattle.table.specs.NameSet.{none, subset}
use Rattle.table.specs.Pick.{pick}
use Rattle.refutation_writer.specs.Refuting.{against_top, against_tree, against_value, canonical_below, canonical_tree, falsified_below, first_value, realized_below, realized_rows, value_row, wanted_within}
use Rattle.homomorphism_search.proofs.Walks.{successors_ahead}
use Rattle.row_sets.specs.declared.linked.Table.{Table}
use Rattle.refutation_writer.proofs.Walks.{Split}

-- ---- the rows that hang from a row

-- none of them is row 0
abbrev NoRoot : List ℕ → Type 0
NoRoot rows = (j : ℕ) → T (member j rows) → j ≡ 0 → ⊥

rows_no_root : (t : List ℕ) (w : ℕ) → (j : ℕ) → T (member j (successor_rows picture_signature (picture_table t) w)) → j ≡ 0 → ⊥
rows_no_root t w j is =
    successor_nonzero picture_signature (picture_table t) w j (filter_below_out (successor_of picture_signature (picture_table t) w) (picture_table t).rows j is).0

subset_read : (a b x y : ℕ) (r : Bool) → Read a x → Read b y → r ≡ subset a b → r ≡ subset (x % 2 ^ name_count) (y % 2 ^ name_count)
subset_read a b x y r p q is = is ∙ sym (ap₂ subset (low_same a x p) (low_same b y q))

none_read : (a x : ℕ) (r : Bool) → Read a x → r ≡ eqb a none → r ≡ subset (x % 2 ^ name_count) none
none_read a x r p is = is ∙ sym (subset_none a) ∙ sym (ap (λ n. subset n none) (low_same a x p))

-- ---- what row w wants

module _ (t : List ℕ) (w set mark : ℕ) (is : mark ≡ impossible_of t w) where
  pub within_marked : mark ≡ 1 → wanted_within t w set ≡ false
  unfolding wanted_within
  within_marked marked = rw (sym is, eq-eqb mark 1 marked) (and-false (subset (wanted_of t w % 2 ^ name_count) set))

  pub within_names : (mark ≡ 1 → ⊥) → (wants : ℕ) → Read wants (wanted_of t w) → wanted_within t w set ≡ subset wants set
  unfolding wanted_within
  within_names other wants wants_is =
      rw (sym is, ne_eqb mark 1 other, low_same wants (wanted_of t w) wants_is) (and-true (subset wants set))

-- ---- row u's individual, against row w

module _ (s t : List ℕ) (d w u : ℕ) where
  against_names : against_tree s t d w u
      ≡ pick (wanted_within t w (wanted_of s u % 2 ^ name_count))
      (pick (subset (excluded_of t w % 2 ^ name_count) (excluded_of s u % 2 ^ name_count))
      (individual picture_signature (set_at (wanted_of s u)) (falsified_below s t d w u))
      (individual picture_signature (widened picture_signature (label_at t w) (label_at s u)) (canonical_below s d u)))
      (individual picture_signature (set_at (wanted_of s u)) (canonical_below s d u))
  unfolding against_tree canonical_below falsified_below wanted_within
  against_names =
      ap₂ (countermodel picture_signature) (tree_of_node picture_signature (picture_table t) d w) (tree_of_node picture_signature (picture_table s) d u)

  module _ (has : ℕ) (has-is : Read has (wanted_of s u)) (r : Bool) (is : r ≡ wanted_within t w has) where
    within_is : wanted_within t w (wanted_of s u % 2 ^ name_count) ≡ r
    within_is = ap (wanted_within t w) (low_same has (wanted_of s u) has-is) ∙ sym is

    pub against_lacks : r ≡ false → against_tree s t d w u ≡ individual picture_signature (set_at (wanted_of s u)) (canonical_below s d u)
    against_lacks h = against_names ∙ rw (within_is ∙ h)

    module _ (h : r ≡ true) (lacks excludes : ℕ) (lacks-is : Read lacks (excluded_of s u)) (excludes-is : Read excludes (excluded_of t w)) (q : Bool)
        (at : q ≡ subset excludes lacks) where
      excluded_is : subset (excluded_of t w % 2 ^ name_count) (excluded_of s u % 2 ^ name_count) ≡ q
      excluded_is = sym (subset_read excludes lacks (excluded_of t w) (excluded_of s u) q excludes-is lacks-is at)

      pub against_holds : q ≡ false →
          against_tree s t d w u ≡ individual picture_signature (widened picture_signature (label_at t w) (label_at s u)) (canonical_below s d u)
      against_holds g = against_names ∙ rw (within_is ∙ h, excluded_is ∙ g)

      pub against_below : q ≡ true → against_tree s t d w u ≡ individual picture_signature (set_at (wanted_of s u)) (falsified_below s t d w u)
      against_below g = against_names ∙ rw (within_is ∙ h, excluded_is ∙ g)

      pub against_carried : q ≡ true → label_carried s t w u ≡ true
      unfolding label_carried wanted_within
      against_carried g =
          let (wants, other) = both (subset (wanted_of t w % 2 ^ name_count) (wanted_of s u % 2 ^ name_count)) (not (eqb (impossible_of t w) 1)) (within_is ∙ h) in
          rw (wants, excluded_is ∙ g, other)

-- ---- what hangs from it

module _ (s t : List ℕ) (d u : ℕ) where
  falsify_rows : (rows : List ℕ) → NoRoot rows →
      falsify_all picture_signature (successors picture_signature (picture_table t) (tree_at t d) rows) (forest_at s d u)
      ≡ pick (eqb (first_failing (edge_served s t d u) rows) 0) (canonical_all picture_signature (forest_at s d u))
      (falsify picture_signature ((picture_table t).kind (first_failing (edge_served s t d u) rows)) ((picture_table t).role (first_failing (edge_served s t d u) rows))
      (λ x. countermodel picture_signature (tree_at t d (first_failing (edge_served s t d u) rows)) x) (forest_at s d u))
  unfolding edge_served
  falsify_rows [] apart = refl
  falsify_rows (c ∷ rows) apart =
      by_test (edge_served s t d u c)
      (λ e. rw e (falsify_rows rows (λ j is. apart j (member_tail j c rows is))))
      (λ e. rw (e, ne_eqb c 0 (apart c (member_head c rows))))

module _ (s t : List ℕ) (u w : ℕ) {depth c : ℕ} (deep : depth ≡ 0 → ⊥) (is : c ≡ unserved_row s t (depth - 1) w u) where
  deeper : depth ≡ suc (depth - 1)
  deeper = omega arith

  last : suc (depth - 1) - 1 ≡ depth - 1
  last = omega arith

  falsified_rows : falsified_below s t depth w u
      ≡ pick (eqb c 0) (canonical_below s depth u)
      (falsify picture_signature (kind_at (kind_of t c)) (role_of t c) (λ x. countermodel picture_signature (tree_at t (depth - 1) c) x) (forest_at s (depth - 1) u))
  unfolding falsified_below canonical_below unserved_row
  falsified_rows = rw (is, deeper, last) (falsify_rows s t (depth - 1) u (successor_rows picture_signature (picture_table t) w) (rows_no_root t w))

  pub falsified_none : c ≡ 0 → falsified_below s t depth w u ≡ canonical_below s depth u
  falsified_none z = falsified_rows ∙ rw (eq-eqb c 0 z)

  module _ (z : c ≡ 0 → ⊥) {kind : ℕ} (kind_is : kind ≡ kind_of t c) where
    pub falsified_value : kind ≡ kind_for_all →
        falsified_below s t depth w u ≡ cons exists (role_of t c) (against_value s t (depth - 1) c u) (canonical_below s depth u)
    unfolding against_value canonical_below
    falsified_value all = falsified_rows ∙ rw (ne_eqb c 0 z, sym kind_is, eq-eqb kind kind_for_all all, deeper, last)

    pub falsified_realized : (kind ≡ kind_for_all → ⊥) → falsified_below s t depth w u ≡ realized_below s t (depth - 1) c u
    unfolding realized_below realized_rows
    falsified_realized some = falsified_rows ∙ rw (ne_eqb c 0 z, sym kind_is, ne_eqb kind kind_for_all some)

pub falsified_zero : (s t : List ℕ) (depth w u : ℕ) → depth ≡ 0 → falsified_below s t depth w u ≡ canonical_below s depth u
unfolding falsified_below canonical_below
falsified_zero s t depth w u z = rw z

-- ---- the all-successor of a role

value_rows_is : (s : List ℕ) (h : ℕ → Tree picture_signature) (role : ℕ) (rows : List ℕ) → NoRoot rows →
    value_of picture_signature role (successors picture_signature (picture_table s) h rows)
    ≡ pick (eqb (first_value s role rows) 0) (top picture_signature) (h (first_value s role rows))
value_rows_is s h role [] apart = refl
value_rows_is s h role (v ∷ rows) apart =
    let later = value_rows_is s h role rows (λ j is. apart j (member_tail j v rows is)) in
    by_test (eqb (kind_of s v) kind_for_all)
    (λ e. by_test (eqb (role_of s v) role)
    (λ same. rw (e, same, ne_eqb v 0 (apart v (member_head v rows))))
    (λ other. rw (e, other) later))
    (λ e. rw e later)

module _ (s t : List ℕ) (d c u : ℕ) {role : ℕ} (role-is : role ≡ role_of t c) where
  value_is : value_of picture_signature (role_of t c) (forest_at s d u)
      ≡ pick (eqb (value_row s u role) 0) (top picture_signature) (tree_at s d (value_row s u role))
  unfolding value_row
  value_is = rw (sym role-is) (value_rows_is s (tree_at s d) role (successor_rows picture_signature (picture_table s) u) (rows_no_root s u))

  pub value_top : value_row s u role ≡ 0 → against_value s t d c u ≡ against_top t d c
  unfolding against_value against_top
  value_top z = ap (countermodel picture_signature (tree_at t d c)) (value_is ∙ rw (eq-eqb (value_row s u role) 0 z))

  pub value_row_is : {v : ℕ} → value_row s u role ≡ v → (v ≡ 0 → ⊥) → against_value s t d c u ≡ against_tree s t d c v
  unfolding against_value against_tree
  value_row_is {v} is z = ap (countermodel picture_signature (tree_at t d c)) (value_is ∙ rw (is, ne_eqb v 0 z))

-- ---- where nothing is asked

-- what hangs from ⊤ so that row w is not fitted
unfoldable pub below_top : List ℕ → ℕ → ℕ → Forest picture_signature
below_top t d w = falsify_all picture_signature (successors_of picture_signature (tree_at t d w)) nil

module _ (t : List ℕ) (d w : ℕ) where
  top_names : against_top t d w
      ≡ pick (wanted_within t w none)
      (pick (subset (excluded_of t w % 2 ^ name_count) none)
      (individual picture_signature picture_signature.none (below_top t d w))
      (individual picture_signature (widened picture_signature (label_at t w) (empty_label picture_signature)) nil))
      (individual picture_signature picture_signature.none nil)
  unfolding against_top below_top wanted_within
  top_names = ap (λ x. countermodel picture_signature x (top picture_signature)) (tree_of_node picture_signature (picture_table t) d w)

  module _ (empty : ℕ) (empty-is : empty ≡ none) (r : Bool) (is : r ≡ wanted_within t w empty) where
    none_is : wanted_within t w none ≡ r
    none_is = ap (wanted_within t w) (sym empty-is) ∙ sym is

    pub top_lacks : r ≡ false → against_top t d w ≡ individual picture_signature picture_signature.none nil
    top_lacks h = top_names ∙ rw (none_is ∙ h)

    module _ (h : r ≡ true) (excludes : ℕ) (excludes-is : Read excludes (excluded_of t w)) (q : Bool) (at : q ≡ eqb excludes none) where
      pub top_holds : q ≡ false → against_top t d w ≡ individual picture_signature (widened picture_signature (label_at t w) (empty_label picture_signature)) nil
      top_holds g = top_names ∙ rw (none_is ∙ h, sym (none_read excludes (excluded_of t w) q excludes-is at) ∙ g)

      pub top_below : q ≡ true → against_top t d w ≡ individual picture_signature picture_signature.none (below_top t d w)
      top_below g = top_names ∙ rw (none_is ∙ h, sym (none_read excludes (excluded_of t w) q excludes-is at) ∙ g)

pub top_zero : (t : List ℕ) (depth w : ℕ) → depth ≡ 0 → below_top t depth w ≡ nil
unfolding below_top
top_zero t depth w z = rw z

module _ (t : Table) {depth w c : ℕ} (l : w < t.rows) (deep : depth ≡ 0 → ⊥) (first : c ≡ get_or t.links.now w 0) where
  top_rows : below_top t.bytes.now depth w
      ≡ falsify_all picture_signature (successors picture_signature (picture_table t.bytes.now) (tree_at t.bytes.now (depth - 1)) (ahead (parent_of t.bytes.now) t.rows w c)) nil
  unfolding below_top
  top_rows =
      let deeper : depth ≡ suc (depth - 1) = omega arith in
      let last : suc (depth - 1) - 1 ≡ depth - 1 = omega arith in
      rw (deeper, last, first)
      (ap (λ rows. falsify_all picture_signature (successors picture_signature (picture_table t.bytes.now) (tree_at t.bytes.now (depth - 1)) rows) nil)
      (successors_ahead t.bytes.now t.links.now t.rows w t.linked l))

  pub top_none : c ≡ 0 → below_top t.bytes.now depth w ≡ nil
  top_none z = top_rows ∙ rw (eq-eqb c 0 z)

  module _ (z : c ≡ 0 → ⊥) where
    on_first : OnChain (parent_of t.bytes.now) t.rows w c
    on_first = rw first (chain_on_first (parent_of t.bytes.now) t.rows w max_rows t.links.now t.linked.linked l)

    pub top_inside : c < t.rows
    top_inside = (on_first z).0

    module _ {kind : ℕ} (kind_is : kind ≡ kind_of t.bytes.now c) where
      top_next : below_top t.bytes.now depth w
          ≡ falsify picture_signature (kind_at kind) (role_of t.bytes.now c) (λ x. countermodel picture_signature (tree_at t.bytes.now (depth - 1) c) x) nil
      top_next =
          top_rows
          ∙ rw kind_is
          (ap (λ rows. falsify_all picture_signature (successors picture_signature (picture_table t.bytes.now) (tree_at t.bytes.now (depth - 1)) rows) nil)
          (chain_next (parent_of t.bytes.now) t.rows w max_rows t.links.now t.linked.linked c z on_first))

      pub top_some : kind ≡ kind_exists → below_top t.bytes.now depth w ≡ nil
      top_some e = top_next ∙ rw e

      pub top_all : (kind ≡ kind_exists → ⊥) → {role : ℕ} → role ≡ role_of t.bytes.now c →
          below_top t.bytes.now depth w ≡ cons exists role (against_top t.bytes.now (depth - 1) c) nil
      unfolding against_top
      top_all u role-is =
          top_next
          ∙ rw (role-is, kind_is ∙ t.linked.checked.kinds c z top_inside (λ e. u (kind_is ∙ e)))

-- ---- the some-successors

abbrev realized_by : List ℕ → List ℕ → ℕ → ℕ → ℕ → Tree picture_signature → Tree picture_signature
realized_by s t d c r v = pick (eqb r (role_of t c)) (countermodel picture_signature (tree_at t d c) v) (canonical picture_signature v)

realize_append : (h : ℕ → Tree picture_signature → Tree picture_signature) (k : Kind) (r : ℕ) (v : Tree picture_signature) (g : Forest picture_signature) →
    realize picture_signature h (cons k r v g) ≡ append picture_signature (realize picture_signature h (cons k r v nil)) (realize picture_signature h g)
realize_append h exists r v g = refl
realize_append h forAll r v g = refl

module _ (s t : List ℕ) (d c : ℕ) where
  pub realized_split : Split (realized_rows s t d c)
  unfolding realized_rows
  realized_split =
      record {
        none = refl;
        first = λ v rows.
            realize_append (realized_by s t d c) ((picture_table s).kind v) ((picture_table s).role v) (tree_at s d v)
            (successors picture_signature (picture_table s) (tree_at s d) rows);
      }

  module _ (v kind : ℕ) (kind_is : kind ≡ kind_of s v) where
    pub realized_all : kind ≡ kind_for_all → realized_rows s t d c (v ∷ []) ≡ nil
    unfolding realized_rows
    realized_all e = rw (sym kind_is, eq-eqb kind kind_for_all e)

    module _ (some : kind ≡ kind_for_all → ⊥) (role by : ℕ) (role-is : role ≡ role_of s v) (by-is : by ≡ role_of t c) where
      pub realized_same : role ≡ by → realized_rows s t d c (v ∷ []) ≡ cons exists role (against_tree s t d c v) nil
      unfolding realized_rows against_tree
      realized_same e = rw (sym kind_is, ne_eqb kind kind_for_all some, sym role-is, sym by-is, eq-eqb role by e)

      pub realized_other : (role ≡ by → ⊥) → realized_rows s t d c (v ∷ []) ≡ cons exists role (canonical_tree s d v) nil
      unfolding realized_rows canonical_tree
      realized_other e = rw (sym kind_is, ne_eqb kind kind_for_all some, sym role-is, sym by-is, ne_eqb role by e)
