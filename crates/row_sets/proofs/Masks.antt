-- Laws of the table of the rows of each role and kind.
--   MaskedTo, mask_none, mask_next, mask_done   filled from row 0 up
--   edge_row                                    the rows of a set that the table has for a kind and role are those of both
use Prim.Native.Nat.{◌*◌, ◌+◌, ◌/◌, ◌%◌, ◌<◌, ◌^◌, ◌≤◌, ℕ}
use borrow.Author.Tests.{eq-eqb, eqb-false, eqb-true, le-ltb, lt-ltb, ltb-false, ltb-true, ne_eqb}
use lib.Bits.{bit_or}
use lib.Dec.{eqb, ltb}
use lib.ListN.{get_or, length, length-set, set}
use mathlib.Core.Bool.{Bool, ◌&&◌, ◌||◌, false, true}
use mathlib.Core.List.{List}
use mathlib.Core.Logic.{◌⊎◌, inl, inr}
use mathlib.Core.Path.{◌∙◌, ◌≡◌, ap, sym}
use native.Mathlib.Omega.{arith}
use Rattle.table.proofs.NameSets.{has_none}
use Rattle.table.specs.Bounds.{max_rows}
use Rattle.table.specs.Fields.{kind_of, role_of}
use Rattle.table.specs.Layout.{kind_exists, kind_for_all, roles}
use Rattle.table_rows.specs.Links.{Zeros}
use Rattle.table.specs.NameSet.{has}
use Rattle.row_sets.specs.declared.rows.RowSet.{RowSet}
use Rattle.row_sets.proofs.Checks.{edge_kind}
use Rattle.row_sets.specs.Rows.{Checked, Masked, holds, of_kind, of_role}
use Rattle.table_rows.proofs.Stores.{stored}
use Rattle.table.proofs.Tests.{and_comm, and_none_two, and_swap}
use Rattle.table.proofs.Bools.{by_test}
use Rattle.row_sets.proofs.Words.{bit_more, same_word}

-- the test of a row's role and kind
abbrev edge : List ℕ → ℕ → ℕ → ℕ → Bool
edge s role kind k = eqb (role_of s k) role && eqb (kind_of s k % 2) kind

pub record MaskedTo (s : List ℕ) (rows j : ℕ) (masks : List ℕ) : Type 0 where
  pub size : length masks ≡ 256
  pub masked : (k role kind : ℕ) → k < rows → role < roles → kind < 2 →
      has (get_or masks (4 * (2 * role + kind) + k / 64) 0) (k % 64) ≡ (ltb k j && edge s role kind k)

pub mask_none : (s : List ℕ) (rows : ℕ) (masks : List ℕ) → Zeros 256 masks → MaskedTo s rows 0 masks
mask_none s rows masks empty =
    record {
      size = empty.size;
      masked = λ k role kind l b c. ap (λ (w : ℕ). has w (k % 64)) (empty.zeros (4 * (2 * role + kind) + k / 64)) ∙ has_none (k % 64) ∙ rw (le-ltb k 0 (omega arith));
    }

-- one row more
row_in : (k j : ℕ) (e : Bool) → (k ≡ j → e ≡ true) → (eqb k j || (ltb k j && e)) ≡ (ltb k (j + 1) && e)
row_in k j e here =
    by_test (eqb k j)
    (λ t. let same = eqb-true k j t in rw (t, here same, lt-ltb k (j + 1) (omega arith)))
    (λ t. let u = eqb-false k j t in
    by_test (ltb k j) (λ b. let m = ltb-true k j b in rw (t, b, lt-ltb k (j + 1) (omega arith)))
    (λ b. let m = ltb-false k j b in rw (t, b, le-ltb k (j + 1) (omega (arith, u)))))

row_out : (k j : ℕ) (e : Bool) → (k ≡ j → e ≡ false) → (ltb k j && e) ≡ (ltb k (j + 1) && e)
row_out k j e here =
    by_test (eqb k j)
    (λ t. let same = eqb-true k j t in rw (here same, lt-ltb k (j + 1) (omega arith), le-ltb k j (omega arith)))
    (λ t. let u = eqb-false k j t in
    by_test (ltb k j) (λ b. let m = ltb-true k j b in rw (b, lt-ltb k (j + 1) (omega arith)))
    (λ b. let m = ltb-false k j b in rw (b, le-ltb k (j + 1) (omega (arith, u)))))

both_yes : (a b : Bool) → a ≡ true → b ≡ true → (a && b) ≡ true
both_yes true b e f = f
both_yes false b e f = e

pub mask_next : (s : List ℕ) (rows j r t new at : ℕ) (masks : List ℕ) → j < rows → rows ≤ max_rows → r ≡ role_of s j → r < roles → t ≡ kind_of s j % 2 → at ≡ 4 * (2 * r + t) + j / 64 →
    new ≡ 2 ^ (j % 64) → MaskedTo s rows j masks → MaskedTo s rows (j + 1) (set masks at (bit_or (get_or masks at 0) new))
mask_next s rows j r t new at masks l most is below ist place bit sooner =
    let size = sooner.size in
    let low : t < 2 = omega arith in
    record {
      size = length-set masks at _ ∙ size;
      masked = λ k role kind b p c.
          stored (λ v. has v (k % 64) ≡ (ltb k (j + 1) && edge s role kind k)) masks at _ (4 * (2 * role + kind) + k / 64) (omega arith)
          (λ same.
          let er : role ≡ r = omega arith in
          let ek : kind ≡ t = omega arith in
          let ew : k / 64 ≡ j / 64 = omega arith in
          bit_more (get_or masks at 0) new (j % 64) (k % 64) bit
          ∙ ap (λ (a : Bool). a || has (get_or masks at 0) (k % 64)) (same_word k j ew)
          ∙ ap (λ (i : ℕ). eqb k j || has (get_or masks i 0) (k % 64)) (sym same)
          ∙ ap (λ (a : Bool). eqb k j || a) (sooner.masked k role kind b p c)
          ∙ row_in k j (edge s role kind k)
          (λ z. both_yes (eqb (role_of s k) role) (eqb (kind_of s k % 2) kind) (eq-eqb (role_of s k) role (ap (role_of s) z ∙ sym is ∙ sym er))
          (eq-eqb (kind_of s k % 2) kind (ap (λ (i : ℕ). kind_of s i % 2) z ∙ sym ist ∙ sym ek))))
          (λ other.
          sooner.masked k role kind b p c
          ∙ row_out k j (edge s role kind k)
          (λ z. by_test (eqb (role_of s k) role)
          (λ e. rw e (ne_eqb (kind_of s k % 2) kind
          (λ f. let er : role ≡ r = sym (eqb-true (role_of s k) role e) ∙ ap (role_of s) z ∙ sym is in
          let ek : kind ≡ t = sym f ∙ ap (λ (i : ℕ). kind_of s i % 2) z ∙ sym ist in
          let ez : k ≡ j = z in other (omega arith))))
          (λ e. rw e)));
    }

pub mask_done : (s : List ℕ) (rows j : ℕ) (masks : List ℕ) → rows ≤ j → MaskedTo s rows j masks → Masked s rows masks
mask_done s rows j masks last all =
    record { masked = λ k role kind l b c. all.masked k role kind l b c ∙ rw (lt-ltb k j (omega arith)) }

-- of a row with one of two kinds, the lowest bit tells which
kind_is : (code kind : ℕ) → (code ≡ kind_exists) ⊎ (code ≡ kind_for_all) → (kind ≡ kind_exists) ⊎ (kind ≡ kind_for_all) → eqb (code % 2) (kind % 2) ≡ eqb code kind
kind_is code kind (inl e) (inl f) = rw (e, f)
kind_is code kind (inl e) (inr f) = rw (e, f)
kind_is code kind (inr e) (inl f) = rw (e, f)
kind_is code kind (inr e) (inr f) = rw (e, f)

turned : (h r k : Bool) → (h && (r && k)) ≡ (k && (r && h))
turned h r k = ap (λ (b : Bool). h && b) (and_comm r k) ∙ and_swap h k r ∙ ap (λ (b : Bool). k && b) (and_comm h r)

pub edge_row : (s : List ℕ) (rows : ℕ) (masks : List ℕ) (r successors : RowSet) (kind role : ℕ) → Checked s rows → Masked s rows masks → role < roles → (kind ≡ kind_exists) ⊎ (kind ≡ kind_for_all) → holds successors 0 ≡ false →
    ((j : ℕ) → j < max_rows → holds r j ≡ (holds successors j && has (get_or masks (4 * (2 * role + kind % 2) + j / 64) 0) (j % 64))) →
    (j : ℕ) → j < rows → holds r j ≡ of_kind s kind (of_role s role (holds successors)) j
edge_row s rows masks r successors kind role checked masked below is rootless meets j l =
    let most = checked.most in
    meets j (omega arith)
    ∙ ap (λ (b : Bool). holds successors j && b) (masked.masked j role (kind % 2) l below (omega arith))
    ∙ by_test (eqb j 0)
    (λ e. let root : holds successors j ≡ false = ap (holds successors) (eqb-true j 0 e) ∙ rootless in
    rw root (sym (and_none_two (eqb (kind_of s j) kind) (eqb (role_of s j) role))))
    (λ e. ap (λ (b : Bool). holds successors j && (eqb (role_of s j) role && b)) (kind_is (kind_of s j) kind (edge_kind checked j (eqb-false j 0 e) l) is)
    ∙ turned (holds successors j) (eqb (role_of s j) role) (eqb (kind_of s j) kind))
