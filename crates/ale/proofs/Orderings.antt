-- The successors of a normal tree's nodes stand by role, all before some, with at most one all-successor to a role. Merging puts
-- them so: what is made for one role has that role, and roles are taken in turn; tidying only drops some of them.
--   BeforeAll                        a successor of role r may stand before every successor of a forest
--   ordered_append, ordered_by_role   forests put together are ordered, where the parts are and may follow each other
--   All-roleParts                    a property of what stands for a set of rows is one of every successor by a role
--   merged_ordered, tidy_ordered     what merging makes is ordered, and tidying keeps the order
use Prim.Native.Nat.{◌<◌, suc, zero, ℕ}
use lib.Dec.{T}
use mathlib.Core.Bool.{Bool}
use mathlib.Core.List.{List, [], ◌∷◌}
use mathlib.Core.Path.{◌≡◌, refl}
use native.Mathlib.Omega.{arith}
use Rattle.ale.specs.Forest.{append, by_role, cons_reduced, dropped}
use Rattle.ale.specs.Merged.{exists_parts, exists_rows, merged, role_parts, value_part, value_rows}
use Rattle.ale.specs.Normal.{inconsistent, tidy, tidy_all}
use Rattle.ale.specs.Theory.{Before, Ordered, OrderedAll}
use Rattle.ale.specs.Rows.{filter_below, member, with_row}
use Rattle.ale.specs.Signature.{Signature}
use Rattle.ale.specs.Table.{Table}
use Rattle.ale.specs.Tree.{All, Forest, Kind, Tree, bottom_tree, cons, exists, forAll, nil, node}
use Rattle.ale.proofs.Forests.{All-append, All-byRole-below, All-consReduced}
use Rattle.ale.proofs.Normalizing.{All-existsParts, All-valuePart}
use Rattle.ale.proofs.RowLists.{filter_below_out}
use Rattle.ale.proofs.Tests.{chosen}
use Rattle.ale.proofs.Trees.{All-map}

module _ (S : Signature) where
  abbrev pub BeforeAll : ℕ → Forest S → Type 0
  BeforeAll r g = All S (λ k' r' _. Before S r k' r') g

  pub ordered_append : (f g : Forest S) → OrderedAll S f → OrderedAll S g → All S (λ k r _. BeforeAll r g) f → OrderedAll S (append S f g)
  ordered_append nil g a b c = b
  ordered_append (cons k r t f) g a b c =
      (All-append S (λ k' r' _. Before S r k' r') f g a.0 c.0, a.1, ordered_append f g a.2 b c.1)

  before_lower : (r : ℕ) (k' : Kind) (r' : ℕ) → r < r' → Before S r k' r'
  before_lower r exists r' l = omega arith
  before_lower r forAll r' l = l

  abbrev pub RoleIs : ℕ → Kind → ℕ → Tree S → Type 0
  RoleIs r k r' t = r' ≡ r

  abbrev RoleBelow : ℕ → Kind → ℕ → Tree S → Type 0
  RoleBelow n k r t = r < n

  -- h makes successors of role r for each role r
  module _ (h : ℕ → Forest S) (roles-are : (r : ℕ) → All S (RoleIs r) (h r)) where
    by_role_below : (n : ℕ) → All S (RoleBelow n) (by_role S h n)
    by_role_below n =
        All-byRole-below S (RoleBelow n) h n (λ r l. All-map S (RoleIs r) (RoleBelow n) (λ k r' t e. omega arith) (h r) (roles-are r))

    pub ordered_by_role : ((r : ℕ) → OrderedAll S (h r)) → (n : ℕ) → OrderedAll S (by_role S h n)
    ordered_by_role o zero = tt
    ordered_by_role o (suc n) =
        ordered_append (by_role S h n) (h n) (ordered_by_role o n) (o n)
        (All-map S (RoleBelow n) (λ k r t. BeforeAll r (h n)) (λ k r t l.
        All-map S (RoleIs n) (λ k' r' _. Before S r k' r') (λ k' r' t' e. before_lower r k' r' (omega arith)) (h n) (roles-are n))
        (by_role S h n) (by_role_below n))

module _ (S : Signature) (p : Table S) where
  pub All-roleParts {ℓ} : (P : Kind → ℕ → Tree S → Type ℓ) (h : List ℕ → Tree S) (s : List ℕ) (r : ℕ) →
      ((k : Kind) (t : List ℕ) → ((i : ℕ) → T (member i t) → i < p.rows) → P k r (h t)) →
      All S P (role_parts S p h s r)
  All-roleParts P h s r q =
      let a = value_rows S p s r in
      let e = exists_rows S p s r in
      let g : ℕ → Tree S = λ c. h (with_row p.rows c a) in
      let inside : (t : ℕ → Bool) (i : ℕ) → T (member i (filter_below t p.rows)) → i < p.rows =
      λ t i m. (filter_below_out t p.rows i m).1 in
      All-append S P (value_part S r h a) (exists_parts S r g e)
      (All-valuePart S P r h a (q forAll a (inside _)))
      (All-existsParts S P r g e (λ c. q exists (with_row p.rows c a) (inside _)))

  -- what is made for one role is ordered, where what stands for each set is
  module _ (h : List ℕ → Tree S) (ordered : (t : List ℕ) → Ordered S (h t)) (s : List ℕ) where
    value_ordered : (r : ℕ) (a : List ℕ) → OrderedAll S (value_part S r h a)
    value_ordered r [] = tt
    value_ordered r (i ∷ a) = (tt, ordered (i ∷ a), tt)

    exists_ordered : (r : ℕ) (g : ℕ → Tree S) → ((c : ℕ) → Ordered S (g c)) → (e : List ℕ) → OrderedAll S (exists_parts S r g e)
    exists_ordered r g o [] = tt
    exists_ordered r g o (c ∷ e) =
        (All-existsParts S (λ k' r' _. Before S r k' r') r g e (λ c. omega arith), o c, exists_ordered r g o e)

    parts_ordered : (r : ℕ) → OrderedAll S (role_parts S p h s r)
    parts_ordered r =
        let a = value_rows S p s r in
        let e = exists_rows S p s r in
        let g : ℕ → Tree S = λ c. h (with_row p.rows c a) in
        ordered_append S (value_part S r h a) (exists_parts S r g e)
        (value_ordered r a) (exists_ordered r g (λ c. ordered (with_row p.rows c a)) e)
        (All-valuePart S (λ k r' t. BeforeAll S r' (exists_parts S r g e)) r h a
        (All-existsParts S (λ k' r' _. Before S r k' r') r g e (λ c. omega arith)))

  pub merged_ordered : (n : ℕ) (s : List ℕ) → Ordered S (merged S p n s)
  merged_ordered zero s = tt
  merged_ordered (suc n) s =
      let h : List ℕ → Tree S = λ t. merged S p n t in
      ordered_by_role S (role_parts S p h s) (λ r. All-roleParts (RoleIs S r) h s r (λ k t _. refl))
      (parts_ordered h (λ t. merged_ordered n t) s) S.roles

module _ (S : Signature) where
  before_kept : (r : ℕ) (f : Forest S) → BeforeAll S r f → BeforeAll S r (tidy_all S f)
  before_kept r nil h = tt
  before_kept r (cons k' r' t f) h =
      All-consReduced S (λ k' r' _. Before S r k' r') k' r' (tidy S t) (tidy_all S f) h.0 (before_kept r f h.1)

  pub ordered_cons_reduced : (k : Kind) (r : ℕ) (t : Tree S) (f : Forest S) → BeforeAll S r f → Ordered S t → OrderedAll S f →
      OrderedAll S (cons_reduced S k r t f)
  ordered_cons_reduced k r t f b o q = chosen (λ g. OrderedAll S g) (dropped S k t) f (cons k r t f) (λ _. q) (λ _. (b, o, q))

  mutual
    pub tidy_ordered : (t : Tree S) → Ordered S t → Ordered S (tidy S t)
    tidy_ordered (node l f) o =
        let h = tidy_all_ordered f o in
        chosen (λ t. Ordered S t) (inconsistent S l (tidy_all S f)) (bottom_tree S) (node l (tidy_all S f)) (λ _. tt) (λ _. h)

    tidy_all_ordered : (f : Forest S) → OrderedAll S f → OrderedAll S (tidy_all S f)
    tidy_all_ordered nil o = tt
    tidy_all_ordered (cons k r t f) o =
        ordered_cons_reduced k r (tidy S t) (tidy_all S f) (before_kept r f o.0) (tidy_ordered t o.1) (tidy_all_ordered f o.2)
