-- The search by what the code reads: s is the first table, t the second.
--   checked_has                                  a row of a table is there
--   checked_edge                                 and one that hangs is of one of two kinds
--   edge_bytes                                   the same edge, by the bytes of kinds and roles
--   row_marked, row_apart, row_leaf, row_deep    the row test: a marked row takes everything; else the label, and then what hangs from the row
--   takes                                        row v can be the image of row c, if it hangs from the image of its parent
--   takes_other, takes_not, takes_row            the three answers to that
--   lowest_along                                 the lowest image is the first row that can be, of those that hang from u
--   served_lowest                                an edge of u serves for the edge of row c exactly if there is a lowest image
--   no_image                                      row c has none below u
--   image_none, image_some                       the two answers to that
--   unserved_along                               the row that is not served is the first without an image, of those that hang from w
use Prim.Native.Nat.{◌-◌, ◌<◌, suc, zero, ℕ}
use borrow.Author.Tests.{eq-eqb, eqb-false, eqb-true, ne_eqb}
use lib.Dec.{T, eqb}
use mathlib.Core.Bool.{Bool, ◌&&◌, ◌||◌, and_assoc, and-false, false, not, true}
use mathlib.Core.List.{List, [], ◌∷◌}
use mathlib.Core.Logic.{◌⊎◌, inl, inr}
use mathlib.Core.Path.{◌∙◌, ◌≡◌, ap, refl, sym}
use native.Mathlib.Omega.{arith}
use Rattle.table.proofs.Bools.{by_test}
use Rattle.table.specs.Fields.{impossible_of, kind_of, parent_of, role_of}
use Rattle.table_rows.specs.Rows.{HasRow}
use Rattle.table.specs.Layout.{kind_exists, kind_for_all}
use Rattle.row_sets.proofs.LinkLists.{child_of}
use Rattle.ale.proofs.RowLists.{filter_below_out, member_head, member_tail}
use Rattle.ale.proofs.TableLaws.{successor_nonzero}
use Rattle.ale.specs.Homomorphism.{edge_serves, maps_all_to, maps_to, role_serves}
use Rattle.ale.specs.PictureSignature.{picture_signature}
use Rattle.ale.specs.Rows.{filter_below, member}
use Rattle.ale.specs.Table.{Table, successor_of, successor_rows, successors}
use Rattle.ale.specs.Tree.{Forest, Kind, Tree, any, exists, forAll, same_kind}
use Rattle.meaning.specs.Meaning.{kind_at, picture_table}
use Rattle.row_sets.specs.Rows.{Checked}
use Rattle.picture.specs.Readable.{row_count}
use Rattle.homomorphism_search.specs.Search.{EdgeRow, edge_served, first_failing, forest_at, label_carried, lowest_image, row_maps, same_edge, tree_at, unserved_row}
use Rattle.homomorphism_search.proofs.Walks.{first_failing_is, first_filtered, first_of}

pub checked_has : (t : List ℕ) (rows k : ℕ) → Checked t rows → k < rows → HasRow t k
checked_has t rows k d l = (omega (arith, d.most), omega (arith, d.whole))

pub checked_edge : {t : List ℕ} {rows k : ℕ} → Checked t rows → (k ≡ 0 → ⊥) → k < rows → EdgeRow t k
checked_edge {t} {rows} {k} checked z l = record { whole = checked_has t rows k checked l; edge = checked.kinds k z l }

-- ---- edges by their bytes

kind_same : (a b : ℕ) → (a ≡ kind_exists) ⊎ (a ≡ kind_for_all) → (b ≡ kind_exists) ⊎ (b ≡ kind_for_all) → same_kind (kind_at b) (kind_at a) ≡ eqb a b
kind_same a b (inl x) (inl y) = rw (x, y)
kind_same a b (inl x) (inr y) = rw (x, y)
kind_same a b (inr x) (inl y) = rw (x, y)
kind_same a b (inr x) (inr y) = rw (x, y)

role_same : (k : Kind) (r s : ℕ) → role_serves picture_signature k r s ≡ eqb r s
role_same exists r s = refl
role_same forAll r s = refl

edge_kind : {t : List ℕ} {k : ℕ} → EdgeRow t k → (kind_of t k ≡ kind_exists) ⊎ (kind_of t k ≡ kind_for_all)
edge_kind {t} {k} row =
    by_test (eqb (kind_of t k) kind_exists)
    (λ e. inl (eqb-true (kind_of t k) kind_exists e))
    (λ e. inr (row.edge (eqb-false (kind_of t k) kind_exists e)))

pub edge_bytes : (s t : List ℕ) (c v kind kind' : ℕ) → EdgeRow s v → EdgeRow t c →
    kind ≡ kind_of s v → kind' ≡ kind_of t c → same_edge s t c v ≡ (eqb kind kind' && eqb (role_of s v) (role_of t c))
unfolding same_edge
edge_bytes s t c v kind kind' k l x y =
    simp (kind_same (kind_of s v) (kind_of t c) (edge_kind k) (edge_kind l), role_same (kind_at (kind_of t c)) (role_of s v) (role_of t c), x, y)

-- ---- successors as a list of rows

module _ (p : Table picture_signature) (h : ℕ → Tree picture_signature) where
  -- one of the successors passes exactly if a first row is found
  any_first : (f : Kind → ℕ → Tree picture_signature → Bool) (q : ℕ → Bool) → ((v : ℕ) → f (p.kind v) (p.role v) (h v) ≡ q v) →
      (none : ℕ) (s : List ℕ) → ((v : ℕ) → T (member v s) → v ≡ none → ⊥) →
      any picture_signature f (successors picture_signature p h s) ≡ not (eqb (first_of q s none) none)
  any_first f q same none [] others = sym (ap not (eq-eqb none none refl))
  any_first f q same none (v ∷ s) others =
      rw (same v)
      (by_test (q v)
      (λ e. rw (e, ne_eqb v none (others v (member_head v s))))
      (λ e. rw e (any_first f q same none s (λ w m. others w (member_tail w v s m)))))

  -- every successor is served exactly if no first row is found that is not
  all_served : (g : Forest picture_signature) (f : ℕ → Bool) →
      ((c : ℕ) → f c ≡ any picture_signature (edge_serves picture_signature (p.kind c) (p.role c) (λ x. maps_to picture_signature (h c) x)) g) →
      (s : List ℕ) → ((c : ℕ) → T (member c s) → c ≡ 0 → ⊥) →
      maps_all_to picture_signature (successors picture_signature p h s) g ≡ eqb (first_failing f s) 0
  all_served g f same [] others = refl
  all_served g f same (c ∷ s) others =
      rw (sym (same c))
      (by_test (f c)
      (λ e. rw e (all_served g f same s (λ w m. others w (member_tail w c s m))))
      (λ e. rw (e, ne_eqb c 0 (others c (member_head c s)))))

-- ---- the row test

-- what hangs from row w, to what hangs from row u
abbrev below_maps : List ℕ → List ℕ → ℕ → ℕ → ℕ → Bool
below_maps s t zero w u = true
below_maps s t (suc depth) w u = eqb (unserved_row s t depth w u) 0

below_served : (s t : List ℕ) (depth w u : ℕ) → maps_all_to picture_signature (forest_at t depth w) (forest_at s depth u) ≡ eqb (unserved_row s t depth w u) 0
unfolding edge_served unserved_row
below_served s t depth w u =
    all_served (picture_table t) (tree_at t depth) (forest_at s depth u) (edge_served s t depth u) (λ c. refl) (successor_rows picture_signature (picture_table t) w)
    (λ c m. successor_nonzero picture_signature (picture_table t) w c
    (filter_below_out (successor_of picture_signature (picture_table t) w) (picture_table t).rows c m).0)

module _ (s t : List ℕ) (w u : ℕ) where
  row_split : (depth : ℕ) → row_maps s t depth w u ≡ (eqb (impossible_of s u) 1 || (label_carried s t w u && below_maps s t depth w u))
  unfolding row_maps label_carried
  row_split zero = refl
  row_split (suc depth) = rw (below_served s t depth w u)

  module _ (depth mark : ℕ) (is : mark ≡ impossible_of s u) where
    pub row_marked : mark ≡ 1 → row_maps s t depth w u ≡ true
    row_marked marked = row_split depth ∙ rw (sym is, eq-eqb mark 1 marked)

    module _ (other : mark ≡ 1 → ⊥) (r : Bool) (told : r ≡ label_carried s t w u) where
      pub row_apart : r ≡ false → row_maps s t depth w u ≡ false
      row_apart lacks = row_split depth ∙ rw (sym is, ne_eqb mark 1 other, sym told ∙ lacks)

      row_carried : r ≡ true → row_maps s t depth w u ≡ below_maps s t depth w u
      row_carried carries = row_split depth ∙ rw (sym is, ne_eqb mark 1 other, sym told ∙ carries)

      pub row_leaf : r ≡ true → depth ≡ 0 → row_maps s t depth w u ≡ true
      row_leaf carries z = row_carried carries ∙ rw z

      pub row_deep : (found : ℕ) → r ≡ true → (depth ≡ 0 → ⊥) → found ≡ unserved_row s t (depth - 1) w u → row_maps s t depth w u ≡ eqb found 0
      row_deep found carries z search =
          let deep : depth ≡ suc (depth - 1) = omega arith in
          row_carried carries ∙ ap (λ d. below_maps s t d w u) deep ∙ rw search

-- ---- along the rows that hang from row u of the first

abbrev pub takes : List ℕ → List ℕ → ℕ → ℕ → ℕ → Bool
takes s t depth c v = same_edge s t c v && row_maps s t depth c v

module _ (s t : List ℕ) (depth c v : ℕ) where
  pub takes_other : (same : Bool) → same ≡ same_edge s t c v → same ≡ false → takes s t depth c v ≡ false
  takes_other same edge apart = rw (sym edge ∙ apart)

  pub takes_not : (maps : Bool) → maps ≡ row_maps s t depth c v → maps ≡ false → takes s t depth c v ≡ false
  takes_not maps row fails = rw (sym row ∙ fails) (and-false (same_edge s t c v))

  pub takes_row : (same maps : Bool) → same ≡ same_edge s t c v → maps ≡ row_maps s t depth c v → same ≡ true → maps ≡ true →
      takes s t depth c v ≡ true
  takes_row same maps edge row joined fits = rw (sym edge ∙ joined, sym row ∙ fits)

pub lowest_along : (s t : List ℕ) (n depth c u : ℕ) → Checked s n →
    lowest_image s t depth c u ≡ first_of (takes s t depth c) (filter_below (child_of (parent_of s) u) n) n
unfolding lowest_image same_edge
lowest_along s t n depth c u checked =
    rw checked.counted
    (first_filtered (child_of (parent_of s) u) (takes s t depth c) _
    (λ v. and_assoc (child_of (parent_of s) u v) (same_edge s t c v) (row_maps s t depth c v)) 0 (row_count s) (row_count s) (omega arith))

pub served_lowest : (s t : List ℕ) (n depth u c : ℕ) → Checked s n → edge_served s t depth u c ≡ not (eqb (lowest_image s t depth c u) n)
unfolding edge_served row_maps same_edge
served_lowest s t n depth u c checked =
    let k = (picture_table t).kind c in
    let r = (picture_table t).role c in
    any_first (picture_table s) (tree_at s depth) (edge_serves picture_signature k r (λ x. maps_to picture_signature (tree_at t depth c) x)) (takes s t depth c)
    (λ v. sym (and_assoc (same_kind k ((picture_table s).kind v)) (role_serves picture_signature k ((picture_table s).role v) r) (row_maps s t depth c v)))
    n (successor_rows picture_signature (picture_table s) u)
    (λ v m e. let l = (filter_below_out (child_of (parent_of s) u) (row_count s) v m).1 in omega (arith, checked.counted))
    ∙ rw (lowest_along s t n depth c u checked, checked.counted)

-- ---- along the rows that hang from row w of the second

abbrev pub no_image : List ℕ → List ℕ → ℕ → ℕ → ℕ → ℕ → Bool
no_image s t n depth u c = eqb (lowest_image s t depth c u) n

module _ (s t : List ℕ) (n depth u c found : ℕ) (is : found ≡ lowest_image s t depth c u) where
  pub image_none : found ≡ n → no_image s t n depth u c ≡ true
  image_none e = rw (sym is) (eq-eqb found n e)

  pub image_some : (found ≡ n → ⊥) → no_image s t n depth u c ≡ false
  image_some e = rw (sym is) (ne_eqb found n e)

pub unserved_along : (s t : List ℕ) (n m depth w u : ℕ) → Checked s n → Checked t m →
    unserved_row s t depth w u ≡ first_of (no_image s t n depth u) (filter_below (child_of (parent_of t) w) m) 0
unfolding unserved_row
unserved_along s t n m depth w u checked other =
    first_failing_is (edge_served s t depth u) (no_image s t n depth u) (λ c. served_lowest s t n depth u c checked)
    (filter_below (child_of (parent_of t) w) (row_count t))
    ∙ rw other.counted
