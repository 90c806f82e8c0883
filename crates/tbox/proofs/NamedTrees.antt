-- Trees that speak of certain names only (ale/proofs/CountermodelNames: `Named`), put together and made from tables;
-- and what fits them. P holds of every wanted name, Q of every excluded one.
--   named_map      P and Q made weaker
--   named_join     two trees in one
--   table_named    the tree of a table whose labels are such
--   with_holds      an interpretation with other sets for its names
--   fits_agree     what fits a tree fits it where the sets of the names that it speaks of are the same
use Prim.Native.Nat.{◌<◌, suc, zero, ℕ}
use lib.Dec.{T}
use mathlib.Core.Bool.{Bool}
use mathlib.Core.List.{List, [], ◌∷◌}
use mathlib.Core.Logic.{◌↔◌}
use Rattle.ale.specs.Forest.{append}
use Rattle.ale.specs.Interpretation.{Interpretation, structure_of}
use Rattle.ale.specs.Rows.{member}
use Rattle.ale.specs.Signature.{Signature}
use Rattle.ale.specs.Structure.{Fits, FitsAll, Restriction}
use Rattle.ale.specs.Table.{Table, successor_of, successor_rows, successors, tree_of}
use Rattle.ale.specs.Tree.{Forest, Kind, Tree, cons, exists, forAll, nil, node}
use Rattle.ale.proofs.ConceptTrees.{join}
use Rattle.ale.proofs.CountermodelNames.{Named, NamedAll, WithinLabel}
use Rattle.ale.proofs.NameLaws.{union_elim}
use Rattle.ale.proofs.RowLists.{filter_below_out, member_head, member_tail}

module _ (S : Signature) where
  module _ (P Q A B : ℕ → Type 0) (f : (n : ℕ) → P n → A n) (g : (n : ℕ) → Q n → B n) where
    mutual
      pub named_map : (t : Tree S) → Named S P Q t → Named S A B t
      named_map (node l s) w = ((λ n h. f n (w.0.0 n h), λ n h. g n (w.0.1 n h)), named_map_all s w.1)

      named_map_all : (s : Forest S) → NamedAll S P Q s → NamedAll S A B s
      named_map_all nil w = tt
      named_map_all (cons k r t s) w = (named_map t w.0, named_map_all s w.1)

module _ (S : Signature) (P Q : ℕ → Type 0) where
  named_append : (f g : Forest S) → NamedAll S P Q f → NamedAll S P Q g → NamedAll S P Q (append S f g)
  named_append nil g a b = b
  named_append (cons k r t f) g a b = (a.0, named_append f g a.1 b)

  pub named_join : (t u : Tree S) → Named S P Q t → Named S P Q u → Named S P Q (join S t u)
  named_join (node l f) (node m g) a b = (
    (
      λ n h. union_elim S l.wanted m.wanted (P n) n h (a.0.0 n) (b.0.0 n),
      λ n h. union_elim S l.excluded m.excluded (Q n) n h (a.0.1 n) (b.0.1 n),
    ),
    named_append f g a.1 b.1,
  )

  named_successors : (p : Table S) (h : ℕ → Tree S) (s : List ℕ) → ((j : ℕ) → T (member j s) → Named S P Q (h j)) →
      NamedAll S P Q (successors S p h s)
  named_successors p h [] f = tt
  named_successors p h (j ∷ s) f =
      (f j (member_head j s), named_successors p h s (λ i m. f i (member_tail i j s m)))

  pub table_named : (p : Table S) → ((j : ℕ) → j < p.rows → WithinLabel S P Q (p.label j)) →
      (n j : ℕ) → j < p.rows → Named S P Q (tree_of S p n j)
  table_named p h zero j l = (h j l, tt)
  table_named p h (suc n) j l = (
    h j l,
    named_successors p (λ c. tree_of S p n c) (successor_rows S p j)
        (λ c m. table_named p h n c (filter_below_out (successor_of S p j) p.rows c m).1),
  )

module _ (S : Signature) where
  abbrev pub with_holds : Interpretation S → (ℕ → ℕ → Bool) → Interpretation S
  with_holds I h =
      record { count = I.count; inhabited = I.inhabited; holds = h; edge = I.edge; respects = I.respects }

  module _ (I : Interpretation S) (g h : ℕ → ℕ → Bool) where
    -- both say the same of name n
    abbrev pub Agree : ℕ → Type 0
    Agree n = (x : ℕ) → T (g n x) ↔ T (h n x)

    restriction_agree : (k : Kind) (r : ℕ) (P Q : ℕ → Type 0) → ((y : ℕ) → P y → Q y) → (x : ℕ) →
        Restriction S (structure_of S (with_holds I g)) k r P x → Restriction S (structure_of S (with_holds I h)) k r Q x
    restriction_agree exists r P Q f x (y, e, t) = (y, e, f y t)
    restriction_agree forAll r P Q f x t = λ y e. f y (t y e)

    mutual
      pub fits_agree : (t : Tree S) → Named S Agree Agree t → (x : ℕ) →
          Fits S (structure_of S (with_holds I g)) t x → Fits S (structure_of S (with_holds I h)) t x
      fits_agree (node l f) w x c = (
        record {
          held = λ n t. (w.0.0 n t x).0 (c.0.held n t);
          free = λ n t s. c.0.free n t ((w.0.1 n t x).1 s);
          possible = c.0.possible;
        },
        fits_agree_all f w.1 x c.1,
      )

      fits_agree_all : (f : Forest S) → NamedAll S Agree Agree f → (x : ℕ) →
          FitsAll S (structure_of S (with_holds I g)) f x → FitsAll S (structure_of S (with_holds I h)) f x
      fits_agree_all nil w x c = tt
      fits_agree_all (cons k r t f) w x c = (
        restriction_agree k r (λ y. Fits S (structure_of S (with_holds I g)) t y)
            (λ y. Fits S (structure_of S (with_holds I h)) t y) (λ y a. fits_agree t w.0 y a) x c.0,
        fits_agree_all f w.1 x c.1,
      )
