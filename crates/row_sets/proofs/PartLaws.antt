-- The merged rows that the code's sets give are those of the theory, kind by role.
--   successors_same                          sets of the same rows give the same merged rows
--   merged_node                              the tree of a set: its label, and the successors of what hangs from it
--   successors_leaf, successors_roles        none at depth 0; role by role
--   roles_none, roles_next, roles_skip, roles_more   role after role; roles without successors are skipped
--   Unused, unused_roles                     a set has no row by a role from one to another; by a role that the code does not have
--   successors_none                          none where the code has no role of what hangs
--   merged_leaf                              the tree of a set from which nothing hangs: its label alone
--   value_none, value_one, code_later        the one for A
--   role_parts_is                               those of one role: for A, and for each some-successor with A
--   exists_next, exists_skip, exists_more    row after row
use Prim.Native.Nat.{◌+◌, ◌-◌, ◌<◌, ◌≤◌, suc, zero, ℕ}
use lib.Dec.{T, eqb, ltb}
use mathlib.Core.Bool.{Bool, ◌&&◌, ◌||◌, false, false≢true, not, true}
use mathlib.Core.List.{List, [], ◌++◌, ◌∷◌, append-nil}
use mathlib.Core.Logic.{◌⊎◌, inl, inr}
use mathlib.Core.Path.{◌≡◌, ap, refl, sym, ◌∙◌}
use native.Mathlib.Numerals.{add-one}
use native.Mathlib.Omega.{arith}
use borrow.Author.Tests.{eqb-false, eqb-true, le-ltb, lt-ltb, ltb-false, ltb-true, ne_eqb}
use Rattle.table.specs.Fields.{kind_of, parent_of, role_of}
use Rattle.table.specs.Layout.{kind_exists, kind_for_all, roles}
use Rattle.table.specs.NameSet.{has}
use Rattle.table.specs.Pick.{pick}
use Rattle.table.proofs.Bools.{false_is, true_is}
use Rattle.table.proofs.NameSets.{has_none}
use Rattle.ale.specs.Forest.{append, by_role}
use Rattle.ale.specs.Merged.{exists_parts, exists_rows, label_of_set, merged, role_parts, rows_below, successor_of_set, value_part, value_rows}
use Rattle.ale.specs.PictureSignature.{picture_signature}
use Rattle.ale.specs.Rows.{filter_below, filter_from, member, with_row}
use Rattle.ale.specs.Tree.{Forest, Kind, Tree, cons, exists, forAll, nil, node, same_kind, sizes}
use Rattle.ale.proofs.Appends.{by_role_more, by_role_same, sizes_append}
use Rattle.ale.proofs.RowLists.{filter_below_in, filter_from_none, filter_from_split}
use Rattle.picture.specs.Readable.{row_count}
use Rattle.meaning.specs.File.{code_at, kind_code}
use Rattle.meaning.specs.Meaning.{kind_at, picture_table}
use Rattle.row_sets.specs.Parts.{exists_part_at, merged_at, parts_at, roles_at, successors_at, value_part_at}
use Rattle.row_sets.proofs.Checks.{edge_kind}
use Rattle.row_sets.specs.Rows.{Checked, Found, Known, also, hangs, holds, of_kind, of_role}
use Rattle.row_sets.specs.Labels.{Valued}
use Rattle.row_sets.specs.declared.rows.Successors.{Successors}
use Rattle.row_sets.specs.declared.values.Values.{Values}
use Rattle.row_sets.proofs.RowFilters.{filter_none, filter_same, filter_yes, member_filter}
use Rattle.table.proofs.Tests.{and_comm, and_none, and_none_two, and_swap, eqb_same, refuted}

-- ---- the tests of an edge

kind_test : (code : ℕ) (k : Kind) → (code ≡ kind_exists) ⊎ (code ≡ kind_for_all) → same_kind k (kind_at code) ≡ eqb code (kind_code k)
kind_test code exists (inl e) = rw e
kind_test code exists (inr e) = rw e
kind_test code forAll (inl e) = rw e
kind_test code forAll (inr e) = rw e

turned : (h k r : Bool) → (h && (k && r)) ≡ (k && (r && h))
turned h k r = and_swap h k r ∙ ap (λ (b : Bool). k && b) (and_comm h r)

-- ---- sets of the same rows

exists_same : (role : ℕ) (h g : ℕ → Tree picture_signature) (v : List ℕ) → ((j : ℕ) → h j ≡ g j) → exists_parts picture_signature role h v ≡ exists_parts picture_signature role g v
exists_same role h g [] e = refl
exists_same role h g (j ∷ v) e = ap (λ t. cons exists role t (exists_parts picture_signature role h v)) (e j) ∙ ap (cons exists role (g j)) (exists_same role h g v e)

by_role_each : (f g : ℕ → Forest picture_signature) (n : ℕ) → ((r : ℕ) → f r ≡ g r) → by_role picture_signature f n ≡ by_role picture_signature g n
by_role_each f g zero e = refl
by_role_each f g (suc n) e =
    ap (λ t. append picture_signature t (f n)) (by_role_each f g n e) ∙ ap (append picture_signature (by_role picture_signature g n)) (e n)

module _ (s : List ℕ) (rows : ℕ) (p p' : ℕ → Bool) (same : (j : ℕ) → j < rows → p j ≡ p' j) where
  kind_same : (kind : ℕ) (n : ℕ) → n ≤ rows → filter_below (of_kind s kind p) n ≡ filter_below (of_kind s kind p') n
  kind_same kind n l =
      filter_same (of_kind s kind p) (of_kind s kind p') n (λ j b. ap (λ (t : Bool). eqb (kind_of s j) kind && t) (same j (omega arith)))

  parts_same : (depth role : ℕ) → parts_at s rows depth role p ≡ parts_at s rows depth role p'
  unfolding parts_at exists_part_at merged_at
  parts_same depth role =
      ap (λ v. append picture_signature (value_part picture_signature role h v) (some p)) (kind_same kind_for_all rows (omega arith))
      ∙ ap (λ v. append picture_signature (value_part picture_signature role h (filter_below (of_kind s kind_for_all p') rows)) v)
      (exists_same role (λ j. h (filter_below (also j (of_kind s kind_for_all p)) rows)) (λ j. h (filter_below (also j (of_kind s kind_for_all p')) rows)) (filter_below (of_kind s kind_exists p) rows)
      (λ j. ap h (filter_same (also j (of_kind s kind_for_all p)) (also j (of_kind s kind_for_all p')) rows (λ i b. ap (λ (t : Bool). eqb i j || (eqb (kind_of s i) kind_for_all && t)) (same i b))))
      ∙ ap (exists_parts picture_signature role (λ j. h (filter_below (also j (of_kind s kind_for_all p')) rows))) (kind_same kind_exists rows (omega arith)))
    where
      h : List ℕ → Tree picture_signature
      h v = merged picture_signature (picture_table s) depth v

      some : (ℕ → Bool) → Forest picture_signature
      some t = exists_parts picture_signature role (λ j. h (filter_below (also j (of_kind s kind_for_all t)) rows)) (filter_below (of_kind s kind_exists t) rows)

role_same : (s : List ℕ) (rows : ℕ) (p p' : ℕ → Bool) → ((j : ℕ) → j < rows → p j ≡ p' j) → (role j : ℕ) → j < rows → of_role s role p j ≡ of_role s role p' j
role_same s rows p p' same role j b = ap (λ (t : Bool). eqb (role_of s j) role && t) (same j b)

pub successors_same : (s : List ℕ) (rows : ℕ) (p p' : ℕ → Bool) → ((j : ℕ) → j < rows → p j ≡ p' j) → (depth : ℕ) → successors_at s rows depth p ≡ successors_at s rows depth p'
unfolding successors_at roles_at
successors_same s rows p p' same zero = refl
successors_same s rows p p' same (suc depth) =
    by_role_each (λ r. parts_at s rows depth r (of_role s r p)) (λ r. parts_at s rows depth r (of_role s r p')) roles
    (λ r. parts_same s rows (of_role s r p) (of_role s r p') (role_same s rows p p' same r) depth r)

-- ---- the tree of a set

module _ (s : List ℕ) (rows : ℕ) (checked : Checked s rows) (q : ℕ → Bool) where
  abbrev set : List ℕ
  set = filter_below q rows

  hangs_set : (j : ℕ) → j < rows → (b : Bool) → eqb j 0 ≡ b → (not b && member (parent_of s j) set) ≡ (not b && q (parent_of s j))
  hangs_set j l true e = refl
  hangs_set j l false e = member_filter q rows (parent_of s j) (omega (arith, checked.parents j (eqb-false j 0 e) l))

  successor_test : (j : ℕ) → j < rows → successor_of_set picture_signature (picture_table s) set j ≡ hangs s q j
  unfolding hangs
  successor_test j l = hangs_set j l (eqb j 0) refl

  -- a row that hangs is not row 0, so its kind is one of two
  kind_hangs : (k : Kind) (r : Bool) (j : ℕ) → j < rows → (b : Bool) → hangs s q j ≡ b → (b && (same_kind k (kind_at (kind_of s j)) && r)) ≡ (eqb (kind_of s j) (kind_code k) && (r && b))
  unfolding hangs
  kind_hangs k r j l true e =
      ap (λ (t : Bool). t && r) (kind_test (kind_of s j) k (edge_kind checked j (later (eqb j 0) refl e) l)) ∙ turned true (eqb (kind_of s j) (kind_code k)) r
    where
      later : (b : Bool) → eqb j 0 ≡ b → (not b && q (parent_of s j)) ≡ true → j ≡ 0 → ⊥
      later true z h = absurd (true_is false h)
      later false z h = eqb-false j 0 z
  kind_hangs k r j l false e = sym (and_none_two (eqb (kind_of s j) (kind_code k)) r)

  rows_below_is : (k : Kind) (role : ℕ) (t : ℕ → Bool) → ((r : ℕ) → t r ≡ eqb r role) → rows_below picture_signature (picture_table s) set k t ≡ filter_below (of_kind s (kind_code k) (of_role s role (hangs s q))) rows
  rows_below_is k role t e =
      ap (filter_below _) (sym checked.counted)
      ∙ filter_same _ (of_kind s (kind_code k) (of_role s role (hangs s q))) rows
      (λ j l.
      ap (λ (b : Bool). b && (same_kind k (kind_at (kind_of s j)) && t (role_of s j))) (successor_test j l)
      ∙ ap (λ (b : Bool). hangs s q j && (same_kind k (kind_at (kind_of s j)) && b)) (e (role_of s j))
      ∙ kind_hangs k (eqb (role_of s j) role) j l (hangs s q j) refl)

  values_are : (role : ℕ) → value_rows picture_signature (picture_table s) set role ≡ filter_below (of_kind s kind_for_all (of_role s role (hangs s q))) rows
  values_are role = rows_below_is forAll role (λ r. eqb role r) (λ r. eqb_same role r)

  exists_are : (role : ℕ) → exists_rows picture_signature (picture_table s) set role ≡ filter_below (of_kind s kind_exists (of_role s role (hangs s q))) rows
  exists_are role = rows_below_is exists role (λ r. eqb r role) (λ r. refl)

  -- the successors for A = v and the some-successors e, of n rows
  abbrev theirs : ℕ → ℕ → ℕ → List ℕ → List ℕ → Forest picture_signature
  theirs depth role n v e =
      append picture_signature (value_part picture_signature role (λ t. merged picture_signature (picture_table s) depth t) v)
      (exists_parts picture_signature role (λ j. merged picture_signature (picture_table s) depth (with_row n j v)) e)

  parts_are : (depth role : ℕ) → role_parts picture_signature (picture_table s) (λ t. merged picture_signature (picture_table s) depth t) set role ≡ parts_at s rows depth role (of_role s role (hangs s q))
  unfolding parts_at exists_part_at merged_at
  parts_are depth role =
      let v = of_kind s kind_for_all (of_role s role (hangs s q)) in
      let e = filter_below (of_kind s kind_exists (of_role s role (hangs s q))) rows in
      let h : List ℕ → Tree picture_signature = λ t. merged picture_signature (picture_table s) depth t in
      ap (λ w. theirs depth role (row_count s) (value_rows picture_signature (picture_table s) set role) w) (exists_are role)
      ∙ ap (λ w. theirs depth role (row_count s) w e) (values_are role)
      ∙ ap (λ n. theirs depth role n (filter_below v rows) e) (sym checked.counted)
      ∙ ap (append picture_signature (value_part picture_signature role h (filter_below v rows)))
      (exists_same role (λ j. h (with_row rows j (filter_below v rows))) (λ j. h (filter_below (also j v) rows)) e
      (λ j. ap h (filter_same (λ i. eqb i j || member i (filter_below v rows)) (also j v) rows (λ i l. ap (λ (b : Bool). eqb i j || b) (member_filter v rows i l)))))

  pub merged_node : (depth : ℕ) → merged_at s rows depth q ≡ node (label_of_set picture_signature (picture_table s) (filter_below q rows)) (successors_at s rows depth (hangs s q))
  unfolding merged_at successors_at roles_at
  merged_node zero = refl
  merged_node (suc depth) =
      ap (node (label_of_set picture_signature (picture_table s) set))
      (by_role_each (λ r. role_parts picture_signature (picture_table s) (λ t. merged picture_signature (picture_table s) depth t) set r) (λ r. parts_at s rows depth r (of_role s r (hangs s q))) roles
      (λ r. parts_are depth r))

module _ (s : List ℕ) (rows : ℕ) (p : ℕ → Bool) where
  pub successors_leaf : (depth : ℕ) → depth ≡ 0 → successors_at s rows depth p ≡ nil
  unfolding successors_at
  successors_leaf depth e = rw e

  pub successors_roles : (depth : ℕ) → (depth ≡ 0 → ⊥) → successors_at s rows depth p ≡ roles_at s rows (depth - 1) p roles
  unfolding successors_at
  successors_roles zero u = absurd (u refl)
  successors_roles (suc depth) u = let e : suc depth - 1 ≡ depth = omega arith in rw e

  pub roles_next : (depth n : ℕ) → append picture_signature (roles_at s rows depth p n) (parts_at s rows depth n (of_role s n p)) ≡ roles_at s rows depth p (n + 1)
  unfolding roles_at
  roles_next depth n = rw add-one

  pub roles_none : (depth : ℕ) → roles_at s rows depth p 0 ≡ nil
  unfolding roles_at
  roles_none depth = refl

  pub roles_more : (depth m n : ℕ) → m ≤ n → sizes picture_signature (roles_at s rows depth p m) ≤ sizes picture_signature (roles_at s rows depth p n)
  unfolding roles_at
  roles_more depth m n l = by_role_more picture_signature (λ r. parts_at s rows depth r (of_role s r p)) m n l

-- a set has no row by a role from one to another
pub record Unused (s : List ℕ) (rows : ℕ) (p : ℕ → Bool) (least to : ℕ) : Type 0 where
  pub none : (j : ℕ) → j < rows → least ≤ role_of s j → role_of s j < to → p j ≡ false

-- a role by which nothing hangs has no part
module _ (s : List ℕ) (rows : ℕ) (p : ℕ → Bool) (least to : ℕ) (unused : Unused s rows p least to) where
  none_by : (kind role : ℕ) → least ≤ role → role < to → filter_below (of_kind s kind (of_role s role p)) rows ≡ []
  none_by kind role l b = filter_none (of_kind s kind (of_role s role p)) rows (λ j i. fails j i (eqb (role_of s j) role) refl)
    where
      fails : (j : ℕ) → j < rows → (t : Bool) → eqb (role_of s j) role ≡ t → (eqb (kind_of s j) kind && (t && p j)) ≡ false
      fails j i true e =
          let z = eqb-true (role_of s j) role e in
          rw (unused.none j i (omega arith) (omega arith)) (and_none (eqb (kind_of s j) kind))
      fails j i false e = and_none (eqb (kind_of s j) kind)

  part_none : (depth role : ℕ) → least ≤ role → role < to → parts_at s rows depth role (of_role s role p) ≡ nil
  unfolding parts_at exists_part_at
  part_none depth role l b = rw (none_by kind_for_all role l b, none_by kind_exists role l b)

  pub roles_skip : (depth : ℕ) → least ≤ to → roles_at s rows depth p to ≡ roles_at s rows depth p least
  unfolding roles_at
  roles_skip depth l = by_role_same picture_signature (λ r. parts_at s rows depth r (of_role s r p)) least to l (λ r i b. part_none depth r i b)

pub unused_roles : (s : List ℕ) (rows : ℕ) (successors : Successors) (least to end : ℕ) → Known s rows successors → end ≤ to → ((k : ℕ) → least ≤ k → k < to → has successors.roles k ≡ false) → Unused s rows (holds successors.set) least end
unused_roles s rows successors least to end known l none =
    record {
      none = λ j b x y.
          refuted (holds successors.set j) (λ h. false≢true (sym (none (role_of s j) x (omega arith)) ∙ known.known j b h));
    }

-- a set from which nothing hangs by any role that the code has is a leaf
pub successors_none : (s : List ℕ) (rows : ℕ) (successors : Successors) → Known s rows successors → successors.roles ≡ 0 → (depth : ℕ) → successors_at s rows depth (holds successors.set) ≡ nil
unfolding successors_at
successors_none s rows successors known e zero = refl
successors_none s rows successors known e (suc depth) =
    roles_skip s rows (holds successors.set) 0 roles
    (unused_roles s rows successors 0 roles roles known (omega arith) (λ k l b. ap (λ (w : ℕ). has w k) e ∙ has_none k)) depth (omega arith)
    ∙ roles_none s rows (holds successors.set) depth

pub merged_leaf : (s : List ℕ) (rows : ℕ) → Checked s rows → (q : ℕ → Bool) (values : Values) → Valued s rows q values → values.successors.roles ≡ 0 → (depth : ℕ) → merged_at s rows depth q ≡ node (label_of_set picture_signature (picture_table s) (filter_below q rows)) nil
merged_leaf s rows checked q values v e depth =
    merged_node s rows checked q depth
    ∙ ap (node (label_of_set picture_signature (picture_table s) (filter_below q rows)))
    (sym (successors_same s rows (holds values.successors.set) (hangs s q) v.successors_are depth) ∙ successors_none s rows values.successors v.known e depth)

-- ---- one role

pub value_none : (s : List ℕ) (rows depth role : ℕ) (q : ℕ → Bool) (first : ℕ) → rows ≤ first → value_part_at s rows depth role q first ≡ nil
unfolding value_part_at
value_none s rows depth role q first l = rw (le-ltb first rows l)

pub value_one : (s : List ℕ) (rows depth role : ℕ) (q : ℕ → Bool) (first : ℕ) → first < rows → value_part_at s rows depth role q first ≡ cons forAll role (merged_at s rows depth q) nil
unfolding value_part_at
value_one s rows depth role q first l = rw (lt-ltb first rows l)

-- a row that is not the first has the code of its kind
pub code_later : (y : ℕ) (k : Kind) → 0 < y → code_at y (kind_at (kind_code k)) ≡ kind_code k
code_later y exists l = rw (ne_eqb y 0 (λ z. omega arith))
code_later y forAll l = rw (ne_eqb y 0 (λ z. omega arith))

-- a list with a row in it is not empty
value_some : (role : ℕ) (h : List ℕ → Tree picture_signature) (v : List ℕ) (j : ℕ) → T (member j v) → value_part picture_signature role h v ≡ cons forAll role (h v) nil
value_some role h [] j t = absurd t
value_some role h (a ∷ v) j t = refl

module _ (s : List ℕ) (rows depth role : ℕ) (all some : ℕ → Bool) (first : ℕ) (found : Found all rows first) where
  abbrev h : List ℕ → Tree picture_signature
  h v = merged picture_signature (picture_table s) depth v

  value_part_is : (b : Bool) → ltb first rows ≡ b → pick b (cons forAll role (h (filter_below all rows)) nil) nil ≡ value_part picture_signature role h (filter_below all rows)
  value_part_is true e =
      let l = ltb-true first rows e in
      sym (value_some role h (filter_below all rows) first (filter_below_in all rows first (true_is (all first) (found.found l)) l))
  value_part_is false e =
      ap (λ v. value_part picture_signature role h v) (sym (filter_none all rows (λ j l. found.none (ltb-false first rows e) j l)))

  pub role_parts_is : (p : ℕ → Bool) → ((j : ℕ) → j < rows → all j ≡ of_kind s kind_for_all p j) → ((j : ℕ) → j < rows → some j ≡ of_kind s kind_exists p j) →
      append picture_signature (value_part_at s rows depth role all first) (exists_part_at s rows depth role some all rows) ≡ parts_at s rows depth role p
  unfolding value_part_at parts_at exists_part_at merged_at
  role_parts_is p alls somes =
      ap (λ v. append picture_signature v (exists_part_at s rows depth role some all rows)) (value_part_is (ltb first rows) refl)
      ∙ ap (λ v. append picture_signature (value_part picture_signature role h v) (exists_part_at s rows depth role some all rows)) (filter_same all (of_kind s kind_for_all p) rows alls)
      ∙ ap (append picture_signature (value_part picture_signature role h (filter_below (of_kind s kind_for_all p) rows)))
      (exists_same role (λ j. h (filter_below (also j all) rows)) (λ j. h (filter_below (also j (of_kind s kind_for_all p)) rows)) (filter_below some rows)
      (λ j. ap h (filter_same (also j all) (also j (of_kind s kind_for_all p)) rows (λ i b. ap (λ (t : Bool). eqb i j || t) (alls i b))))
      ∙ ap (exists_parts picture_signature role (λ j. h (filter_below (also j (of_kind s kind_for_all p)) rows))) (filter_same some (of_kind s kind_exists p) rows somes))

-- ---- row by row

exists_append : (role : ℕ) (h : ℕ → Tree picture_signature) (u v : List ℕ) → exists_parts picture_signature role h (u ++ v) ≡ append picture_signature (exists_parts picture_signature role h u) (exists_parts picture_signature role h v)
exists_append role h [] v = refl
exists_append role h (j ∷ u) v = ap (cons exists role (h j)) (exists_append role h u v)

module _ (s : List ℕ) (rows depth role : ℕ) (p q : ℕ → Bool) where
  abbrev upto : ℕ → Forest picture_signature
  upto n = exists_part_at s rows depth role p q n

  abbrev test : ℕ → Bool
  test j = p j

  abbrev each : List ℕ → Forest picture_signature
  each v = exists_parts picture_signature role (λ i. merged_at s rows depth (also i q)) v

  pub exists_next : (j : ℕ) → test j ≡ true → append picture_signature (upto j) (cons exists role (merged_at s rows depth (also j q)) nil) ≡ upto (j + 1)
  unfolding exists_part_at
  exists_next j e = sym (ap each (filter_yes test j e) ∙ exists_append role (λ i. merged_at s rows depth (also i q)) (filter_below test j) (j ∷ []))

  split : (m n : ℕ) → m ≤ n → filter_below test n ≡ filter_below test m ++ filter_from test m (n - m)
  split m n l = filter_from_split test 0 m (n - m) n m (omega arith) (omega arith)

  pub exists_skip : (m n : ℕ) → m ≤ n → ((j : ℕ) → m ≤ j → j < n → test j ≡ false) → upto m ≡ upto n
  unfolding exists_part_at
  exists_skip m n l fails =
      ap each
      (sym
      (split m n l
      ∙ ap (λ v. filter_below test m ++ v) (filter_from_none test m (n - m) (λ j a b. false_is (test j) (fails j a (omega arith))))
      ∙ append-nil (filter_below test m)))

  pub exists_none : upto 0 ≡ nil
  unfolding exists_part_at
  exists_none = refl

  pub exists_more : (m n : ℕ) → m ≤ n → sizes picture_signature (upto m) ≤ sizes picture_signature (upto n)
  unfolding exists_part_at
  exists_more m n l =
      let e : each (filter_below test n) ≡ append picture_signature (each (filter_below test m)) (each (filter_from test m (n - m))) =
      ap each (split m n l) ∙ exists_append role (λ i. merged_at s rows depth (also i q)) (filter_below test m) (filter_from test m (n - m)) in
      rw e (omega (arith, sizes_append picture_signature (each (filter_below test m)) (each (filter_from test m (n - m)))))
