-- The names of a countermodel: each is one that v wants or that d excludes. And the names of a normal tree: each is one
-- that a row of its table wants, or excludes. Said of any facts P and Q that hold of those names: an individual has
-- names from the labels of both trees, and a merged row from the rows that it stands for.
--   Within               P holds of every name of a set
--   WithinLabel          P holds of the wanted names of a label, and Q of the excluded ones
--   Named, NamedAll      so of every label of a tree, of a forest
--   edges_named          a forest of which each successor is such
--   normal_named         the normal tree of a table whose labels are such
--   encoded_named        the rows of such a tree, once encoded
--   countermodel_named   the countermodel, where R holds of what d excludes and of what v wants
use Prim.Native.Nat.{◌+◌, ◌<◌, suc, zero, ℕ}
use lib.Dec.{T, eqb}
use mathlib.Core.Bool.{◌&&◌, not}
use mathlib.Core.List.{List, [], ◌∷◌}
use Rattle.table.specs.Pick.{pick}
use Rattle.ale.specs.Countermodel.{canonical, canonical_all, countermodel, falsify, falsify_all, individual, realize, value_of, widened}
use Rattle.ale.specs.Encoding.{Row, encode, encode_forest, encode_tree, encoded}
use Rattle.ale.specs.Forest.{by_role, dropped}
use Rattle.ale.specs.Homomorphism.{edge_serves, maps_to}
use Rattle.ale.specs.Merged.{label_of_set, merged, role_parts}
use Rattle.ale.specs.Normal.{inconsistent, normal_tree, tidy, tidy_all}
use Rattle.ale.specs.Rows.{member}
use Rattle.ale.specs.Signature.{Signature}
use Rattle.ale.specs.Table.{Table}
use Rattle.ale.specs.Tree.{All, Forest, Kind, Label, Tree, any, bottom_tree, cons, exists, forAll, nil, node, size}
use Rattle.ale.proofs.Forests.{All-byRole}
use Rattle.ale.proofs.NameLaws.{intersection_left, none_has, union_elim}
use Rattle.ale.proofs.Orderings.{All-roleParts}
use Rattle.ale.proofs.RoleLaws.{EachRow, append_each, row_at}
use Rattle.ale.proofs.RowLists.{member_cons, member_head, member_tail}
use Rattle.ale.proofs.Tests.{chosen}

module _ (S : Signature) where
  module _ (P : ℕ → Type 0) where
    abbrev pub Within : S.Names → Type 0
    Within a = (n : ℕ) → T (S.has a n) → P n

    within_none : Within S.none
    within_none n h = absurd (none_has S n h)

    within_union : (a b : S.Names) → Within a → Within b → Within (S.union a b)
    within_union a b u v n h = union_elim S a b (P n) n h (u n) (v n)

  module _ (P Q : ℕ → Type 0) where
    abbrev pub WithinLabel : Label S → Type 0
    WithinLabel l = Within P l.wanted × Within Q l.excluded

    abbrev mutual
      pub Named : Tree S → Type 0
      Named (node l f) = WithinLabel l × NamedAll f

      pub NamedAll : Forest S → Type 0
      NamedAll nil = Unit
      NamedAll (cons k r t f) = Named t × NamedAll f

    -- ---- the normal tree

    mutual
      tidy_named : (t : Tree S) → Named t → Named (tidy S t)
      tidy_named (node l f) w =
          let g = tidy_all S f in
          chosen Named (inconsistent S l g) (bottom_tree S) (node l g)
          (λ _. ((within_none P, within_none Q), tt)) (λ _. (w.0, tidy_all_named f w.1))

      tidy_all_named : (f : Forest S) → NamedAll f → NamedAll (tidy_all S f)
      tidy_all_named nil w = tt
      tidy_all_named (cons k r t f) w =
          let u = tidy S t in
          let g = tidy_all S f in
          let b = tidy_all_named f w.1 in
          chosen NamedAll (dropped S k u) g (cons k r u g) (λ _. b) (λ _. (tidy_named t w.0, b))

    abbrev pub NamedEdge : Kind → ℕ → Tree S → Type 0
    NamedEdge k r t = Named t

    pub edges_named : (f : Forest S) → All S NamedEdge f → NamedAll f
    edges_named nil h = tt
    edges_named (cons k r t f) h = (h.0, edges_named f h.1)

    module _ (p : Table S) (labels : (i : ℕ) → i < p.rows → WithinLabel (p.label i)) where
      abbrev Inside : List ℕ → Type 0
      Inside s = (i : ℕ) → T (member i s) → i < p.rows

      set_named : (s : List ℕ) → Inside s → WithinLabel (label_of_set S p s)
      set_named [] b = (within_none P, within_none Q)
      set_named (i ∷ s) b =
          let here = labels i (b i (member_head i s)) in
          let rest = set_named s (λ j m. b j (member_tail j i s m)) in
          let l = p.label i in
          let m = label_of_set S p s in (
            within_union P l.wanted m.wanted here.0 rest.0,
            within_union Q l.excluded m.excluded here.1 rest.1,
          )

      merged_named : (n : ℕ) (s : List ℕ) → Inside s → Named (merged S p n s)
      merged_named zero s b = (set_named s b, tt)
      merged_named (suc n) s b =
          let h : List ℕ → Tree S = λ t. merged S p n t in (
            set_named s b,
            edges_named (by_role S (role_parts S p h s) S.roles) (All-byRole S NamedEdge (role_parts S p h s)
                (λ r. All-roleParts S p NamedEdge h s r (λ k t c. merged_named n t c)) S.roles),
          )

      pub normal_named : 0 < p.rows → (n : ℕ) → Named (normal_tree S p n)
      normal_named some n =
          tidy_named (merged S p n (0 ∷ []))
          (merged_named n (0 ∷ []) (member_cons (λ i. i < p.rows) 0 [] some (λ i m. absurd m)))

    -- ---- encoded

    abbrev NamedRow : Row S → Type 0
    NamedRow w = WithinLabel w.label

    mutual
      encode_tree_named : (t : Tree S) (p : ℕ) (k : Kind) (r o : ℕ) → Named t →
          EachRow S NamedRow (encode_tree S t p k r o)
      encode_tree_named (node l f) p k r o w = (w.0, encode_forest_named f o (suc o) w.1)

      encode_forest_named : (f : Forest S) (p o : ℕ) → NamedAll f → EachRow S NamedRow (encode_forest S f p o)
      encode_forest_named nil p o w = tt
      encode_forest_named (cons k r t f) p o w =
          let e = o + size S t in
          append_each S NamedRow (encode_tree S t p k r o) (encode_forest S f p e)
          (encode_tree_named t p k r o w.0) (encode_forest_named f p e w.1)

    pub encoded_named : (t : Tree S) → Named t → (i : ℕ) → i < (encoded S t).rows →
        WithinLabel ((encoded S t).label i)
    encoded_named t w = row_at S NamedRow (encode S t) (encode_tree_named t 0 exists 0 0 w)

  -- ---- the countermodel

  -- nothing is asked of the other names
  abbrev pub Whatever : ℕ → Type 0
  Whatever n = Unit

  module _ (R : ℕ → Type 0) where
    -- R holds of what a tree wants; of what it excludes
    abbrev Wanting : Tree S → Type 0
    Wanting = Named R Whatever

    abbrev WantingAll : Forest S → Type 0
    WantingAll = NamedAll R Whatever

    abbrev Excluding : Tree S → Type 0
    Excluding = Named Whatever R

    abbrev ExcludingAll : Forest S → Type 0
    ExcludingAll = NamedAll Whatever R

    individual_named : (a : S.Names) (f : Forest S) → Within R a → WantingAll f → Wanting (individual S a f)
    individual_named a f u w = ((u, λ n h. tt), w)

    within_widened : (l m : Label S) → Within R l.excluded → Within R m.wanted → Within R (widened S l m)
    within_widened l m u v n h =
        within_union R m.wanted l.excluded v u n
        (intersection_left S (S.union m.wanted l.excluded) (S.complement m.excluded) n h)

    mutual
      canonical_named : (v : Tree S) → Wanting v → Wanting (canonical S v)
      canonical_named (node l g) w = individual_named l.wanted (canonical_all S g) w.0.0 (canonical_all_named g w.1)

      canonical_all_named : (g : Forest S) → WantingAll g → WantingAll (canonical_all S g)
      canonical_all_named nil w = tt
      canonical_all_named (cons exists r c g) w = (canonical_named c w.0, canonical_all_named g w.1)
      canonical_all_named (cons forAll r c g) w = canonical_all_named g w.1

    realize_named : (h : ℕ → Tree S → Tree S) → ((r : ℕ) (c : Tree S) → Wanting c → Wanting (h r c)) →
        (g : Forest S) → WantingAll g → WantingAll (realize S h g)
    realize_named h u nil w = tt
    realize_named h u (cons exists r c g) w = (u r c w.0, realize_named h u g w.1)
    realize_named h u (cons forAll r c g) w = realize_named h u g w.1

    value_of_named : (r : ℕ) (g : Forest S) → WantingAll g → Wanting (value_of S r g)
    value_of_named r nil w = individual_named S.none nil (within_none R) tt
    value_of_named r (cons exists s t g) w = value_of_named r g w.1
    value_of_named r (cons forAll s t g) w =
        chosen Wanting (eqb s r) t (value_of S r g) (λ _. w.0) (λ _. value_of_named r g w.1)

    falsify_named : (k : Kind) (r : ℕ) (h : Tree S → Tree S) → ((c : Tree S) → Wanting c → Wanting (h c)) →
        (g : Forest S) → WantingAll g → WantingAll (falsify S k r h g)
    falsify_named exists r h u g w =
        realize_named (λ r' c. pick (S.subrole r' r) (h c) (canonical S c)) (λ r' c x.
        chosen Wanting (S.subrole r' r) (h c) (canonical S c) (λ _. u c x) (λ _. canonical_named c x)) g w
    falsify_named forAll r h u g w = (u (value_of S r g) (value_of_named r g w), canonical_all_named g w)

    mutual
      pub countermodel_named : (d v : Tree S) → Excluding d → Wanting v → Wanting (countermodel S d v)
      countermodel_named (node l f) (node m g) a b =
          let plain = canonical_all_named g b.1 in
          let changed = individual S m.wanted (falsify_all S f g) in
          let more = individual S (widened S l m) (canonical_all S g) in
          let excluded = S.subset l.excluded m.excluded in
          chosen Wanting (S.subset l.wanted m.wanted && not l.bottom) (pick excluded changed more)
          (individual S m.wanted (canonical_all S g))
          (λ _. chosen Wanting excluded changed more
          (λ _. individual_named m.wanted (falsify_all S f g) b.0.0 (falsify_all_named f g a.1 b.1))
          (λ _. individual_named (widened S l m) (canonical_all S g) (within_widened l m a.0.1 b.0.0) plain))
          (λ _. individual_named m.wanted (canonical_all S g) b.0.0 plain)

      falsify_all_named : (f g : Forest S) → ExcludingAll f → WantingAll g → WantingAll (falsify_all S f g)
      falsify_all_named nil g a b = canonical_all_named g b
      falsify_all_named (cons k r d f) g a b =
          let h : Tree S → Tree S = λ c. countermodel S d c in
          chosen WantingAll (any S (edge_serves S k r (λ c. maps_to S d c)) g) (falsify_all S f g) (falsify S k r h g)
          (λ _. falsify_all_named f g a.1 b)
          (λ _. falsify_named k r h (λ c x. countermodel_named d c a.0 x) g b)
