-- Rows along the links that hang from the same row, and the order of their edges.
--   siblings_none                 none where a walk is at its end
--   Headed, headed                else the row it is at, and those along its link
--   siblings_first                from the first link on, all rows that hang from a row
--   key_is                        the place of a row's edge, as an edge of the table
--   drop_here, drop_on            the rows from the first on that does not stand before a place: from this one on, or
--                                 from a later one
--   drop_walk                     those left out are paired with none that stands from that place on
--   drop_keys                     those that are left stand from there on, if all are in order
--   trim_below, trim_first, trim_later   what is asked of a tree is true of its successors, of the first and of the
--                                        later ones
--   drop_trim                     and of those that are left
--   drop_first, drop_later        so a walk along the links looks for the first of them
--   trees_leaf, trees_level       a row has no successors at depth 0, else those that hang from it
--   trees_none                    none at any depth, if it has no first link
use Prim.Native.Nat.{◌+◌, ◌-◌, ◌<◌, ◌≤◌, suc, ℕ}
use borrow.Author.Tests.{eq-eqb, eqb-false, eqb-true, le-leb, leb-false, leb-true, lt-leb}
use lib.Dec.{eqb, leb}
use lib.ListN.{get_or}
use mathlib.Core.Bool.{true}
use mathlib.Core.List.{List, [], ◌∷◌}
use mathlib.Core.Path.{◌∙◌, ◌≡◌, ap, refl, subst, sym}
use native.Mathlib.Omega.{arith}
use Rattle.table.proofs.Bools.{by_test, is_false}
use Rattle.table.specs.Bounds.{max_rows}
use Rattle.table.specs.Fields.{parent_of}
use Rattle.row_sets.proofs.LinkLists.{ahead, chain_next, chain_on_first, chain_on_next}
use Rattle.ale.proofs.PairWalks.{KeysFrom, edge_key, keys_lower, ordered_keys, pair_walk, picture_equal, walk_skip}
use Rattle.ale.specs.Forest.{dropped}
use Rattle.ale.specs.PictureSignature.{picture_signature}
use Rattle.ale.specs.Table.{successor_rows}
use Rattle.ale.specs.Tree.{Forest, Kind, Label, Tree, cons, nil, node, successors_of}
use Rattle.meaning.specs.Meaning.{picture_table}
use Rattle.homomorphism_search.proofs.Walks.{successors_ahead}
use Rattle.homomorphism_search.specs.Search.{tree_at}
use Rattle.row_sets.specs.Rows.{LinkedTable}
use Rattle.product_rows.specs.Siblings.{Trim, TrimAll, drop_lower, forest_of, key_at, siblings}
use Rattle.product_rows.specs.Siblings.{Kept}
use Rattle.row_sets.proofs.Walks.{Turn}
use Rattle.row_sets.specs.declared.below.Below.{Below}
use Rattle.row_sets.specs.declared.linked.Table.{Table}

-- the rows ahead, hung from a row that is only known where there are any
ahead_same : (parent : ℕ → ℕ) (rows c d j : ℕ) → ((j ≡ 0 → ⊥) → c ≡ d) → ahead parent rows c j ≡ ahead parent rows d j
ahead_same parent rows c d j same =
    by_test (eqb j 0) (λ e. rw e) (λ e. ap (λ x. ahead parent rows x j) (same (eqb-false j 0 e)))

module _ {t links : List ℕ} {rows : ℕ} (table : LinkedTable t rows links) where
  pub siblings_first : (u e : ℕ) → u < rows → e ≡ get_or links u 0 →
      successor_rows picture_signature (picture_table t) u ≡ siblings t rows e
  siblings_first u e l is =
      rw is
      (successors_ahead t links rows u table l
      ∙ ahead_same (parent_of t) rows u (parent_of t (get_or links u 0)) (get_or links u 0)
      (λ z. sym (chain_on_first (parent_of t) rows u max_rows links table.linked l z).1))

  siblings_next : (e : ℕ) → (e ≡ 0 → ⊥) → e < rows → (v : ℕ) → v ≡ get_or links (max_rows + e) 0 →
      siblings t rows e ≡ e ∷ siblings t rows v
  siblings_next e z l v is =
      rw is
      (chain_next (parent_of t) rows (parent_of t e) max_rows links table.linked e z (λ _. (l, refl))
      ∙ ap (λ (s : List ℕ). e ∷ s)
      (ahead_same (parent_of t) rows (parent_of t e) (parent_of t (get_or links (max_rows + e) 0))
      (get_or links (max_rows + e) 0)
      (λ y. sym (chain_on_next (parent_of t) rows (parent_of t e) max_rows links table.linked e z
      (λ _. (l, refl)) y).1)))

-- of the rows from one place on the first, and where those after it begin
pub record Headed (t : List ℕ) (rows from e next : ℕ) : Type 0 where
  pub rows_are : siblings t rows from ≡ e ∷ siblings t rows next

pub headed : {t : Table} {b n : Below} {e : ℕ} → Turn t b e n → Headed t.bytes.now t.rows b.next e n.next
headed {t} {b} {n} {e} turn = record {
  rows_are =
      ap (siblings t.bytes.now t.rows) turn.is ∙ siblings_next t.linked e turn.there
      (turn.on turn.there).0 n.next turn.next;
}

pub siblings_none : (t : List ℕ) (rows e : ℕ) → e ≡ 0 → siblings t rows e ≡ []
siblings_none t rows e z = rw (eq-eqb e 0 z)

-- ---- what is asked of a tree

pub trim_below : (l : Label picture_signature) (f : Forest picture_signature) → Trim (node l f) → TrimAll f
trim_below l f a = record { reduced = a.reduced; ordered = a.ordered; known = a.known }

module _ (k : Kind) (r : ℕ) (x : Tree picture_signature) (f : Forest picture_signature)
    (a : TrimAll (cons k r x f)) where
  pub trim_first : Kept k x
  trim_first =
      record {
        trim = record { reduced = a.reduced.1; ordered = a.ordered.1; known = a.known.1 };
        kept = is_false (dropped picture_signature k x) a.reduced.0;
      }

  pub trim_later : TrimAll f
  trim_later = record { reduced = a.reduced.2; ordered = a.ordered.2; known = a.known.2 }

-- ---- the order of edges

pub key_is : (t : List ℕ) (e : ℕ) → key_at t e ≡ edge_key ((picture_table t).kind e) ((picture_table t).role e)
unfolding key_at
key_is t e = refl

module _ (t : List ℕ) (key : ℕ) where
  pub drop_here : (e : ℕ) (es : List ℕ) → key ≤ key_at t e → drop_lower t key (e ∷ es) ≡ e ∷ es
  drop_here e es l = rw (le-leb key (key_at t e) l)

  pub drop_on : (e : ℕ) (es : List ℕ) → key_at t e < key → drop_lower t key (e ∷ es) ≡ drop_lower t key es
  drop_on e es l = rw (lt-leb key (key_at t e) l)

  -- a property of the rows that are left, by what is left out and what is not
  drop_elim : (P : List ℕ → Type 0) (e : ℕ) (es : List ℕ) → (key ≤ key_at t e → P (e ∷ es)) →
      (key_at t e < key → P (drop_lower t key es)) →
      P (drop_lower t key (e ∷ es))
  drop_elim P e es here on =
      by_test (leb key (key_at t e))
      (λ b. subst P (sym (drop_here e es (leb-true key (key_at t e) b))) (here (leb-true key (key_at t e) b)))
      (λ b. subst P (sym (drop_on e es (leb-false key (key_at t e) b))) (on (leb-false key (key_at t e) b)))

  module _ (depth : ℕ) where
    pub drop_walk : (f : Forest picture_signature) → KeysFrom picture_signature key f → (es : List ℕ) →
        pair_walk picture_signature f (forest_of t depth es)
        ≡ pair_walk picture_signature f (forest_of t depth (drop_lower t key es))
    drop_walk f from [] = refl
    drop_walk f from (e ∷ es) =
        let k = (picture_table t).kind e in
        let r = (picture_table t).role e in
        drop_elim (λ rest. pair_walk picture_signature f (forest_of t depth (e ∷ es))
        ≡ pair_walk picture_signature f (forest_of t depth rest)) e es
        (λ _. refl)
        (λ l. walk_skip picture_signature picture_equal f key k r (tree_at t depth e) (forest_of t depth es) from
        (omega (arith, key_is t e)) ∙ drop_walk f from es)

    pub drop_trim : (es : List ℕ) → TrimAll (forest_of t depth es) → TrimAll (forest_of t depth (drop_lower t key es))
    drop_trim [] trim = trim
    drop_trim (e ∷ es) trim =
        drop_elim (λ rest. TrimAll (forest_of t depth rest)) e es (λ _. trim)
        (λ _. drop_trim es (trim_later ((picture_table t).kind e) ((picture_table t).role e) (tree_at t depth e)
        (forest_of t depth es) trim))

    pub drop_keys : (es : List ℕ) → TrimAll (forest_of t depth es) →
        KeysFrom picture_signature key (forest_of t depth (drop_lower t key es))
    drop_keys [] trim = tt
    drop_keys (e ∷ es) trim =
        let k = (picture_table t).kind e in
        let r = (picture_table t).role e in
        drop_elim (λ rest. KeysFrom picture_signature key (forest_of t depth rest)) e es
        (λ l.
        keys_lower picture_signature key (edge_key k r) (forest_of t depth (e ∷ es)) (omega (arith, key_is t e))
        (ordered_keys picture_signature k r (tree_at t depth e) (forest_of t depth es) trim.ordered))
        (λ _. drop_keys es (trim_later k r (tree_at t depth e) (forest_of t depth es) trim))

-- ---- looking for the first that does not stand before a place

module _ {t : List ℕ} {rows from e next : ℕ} (head : Headed t rows from e next) (key : ℕ) where
  pub drop_first : key ≤ key_at t e → drop_lower t key (siblings t rows from) ≡ siblings t rows from
  drop_first l = ap (drop_lower t key) head.rows_are ∙ drop_here t key e (siblings t rows next) l ∙ sym head.rows_are

  pub drop_later : key_at t e < key → drop_lower t key (siblings t rows from) ≡ drop_lower t key (siblings t rows next)
  drop_later l = ap (drop_lower t key) head.rows_are ∙ drop_on t key e (siblings t rows next) l

-- ---- what hangs from a row

module _ (t : List ℕ) (depth u : ℕ) where
  pub trees_leaf : depth ≡ 0 → successors_of picture_signature (tree_at t depth u) ≡ nil
  trees_leaf z = rw z

  module _ {links : List ℕ} {rows : ℕ} (table : LinkedTable t rows links) (l : u < rows) where
    pub trees_level : (e : ℕ) → e ≡ get_or links u 0 → (depth ≡ 0 → ⊥) →
        successors_of picture_signature (tree_at t depth u) ≡ forest_of t (depth - 1) (siblings t rows e)
    trees_level e is deep =
        let d : depth ≡ suc (depth - 1) = omega arith in
        ap (λ n. successors_of picture_signature (tree_at t n u)) d
        ∙ ap (forest_of t (depth - 1)) (siblings_first table u e l is)

    pub trees_none : eqb (get_or links u 0) 0 ≡ true → successors_of picture_signature (tree_at t depth u) ≡ nil
    trees_none none =
        by_test (eqb depth 0) (λ e. trees_leaf (eqb-true depth 0 e))
        (λ e.
        trees_level 0 (sym (eqb-true (get_or links u 0) 0 none)) (eqb-false depth 0 e)
        ∙ ap (forest_of t (depth - 1)) (siblings_none t rows 0 refl))
