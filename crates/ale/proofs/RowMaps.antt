-- A homomorphism by rows is one of the trees: if the second table's rows have images as questions 17 to 20 ask, its tree maps to the first's.
-- By induction on the depth: a row's label is carried by its image's, and where the image is not ⊥ each successor's image hangs from it by an
-- edge that serves. The first tree has to be read to its last row: p.rows ≤ im i + m says that m levels below row im i are enough.
use Prim.Native.Nat.{◌+◌, ◌<◌, ◌≤◌, suc, zero, ℕ}
use lib.Dec.{T, eqb, eqb→eq}
use mathlib.Core.Bool.{Bool, ◌&&◌, not}
use mathlib.Core.List.{List, [], ◌∷◌}
use mathlib.Core.Logic.{⊎_elim}
use mathlib.Core.Path.{subst}
use native.Mathlib.Omega.{arith}
use Rattle.ale.specs.Homomorphism.{edge_serves, label_within, maps_all_to, maps_to, role_serves}
use Rattle.ale.specs.RowMap.{IsHomomorphism, bottom_at, edge_agrees, edge_joins, label_agrees}
use Rattle.ale.specs.Rows.{member}
use Rattle.ale.specs.Signature.{Signature}
use Rattle.ale.specs.Table.{ParentsFirst, Table, successor_of, successor_rows, successors, tree_of}
use Rattle.ale.specs.Tree.{Forest, Kind, Tree, any, nil, node, same_kind}
use Rattle.ale.proofs.RowLists.{filter_below_in, filter_below_out, member_head, member_tail}
use Rattle.ale.proofs.TableLaws.{successor_above, successor_nonzero, successor_parent}
use Rattle.ale.proofs.Tests.{and_intro, and_left, and_right, clash, decide, or_left, or_right, or_split}

module _ (S : Signature) (p q : Table S) where
  maps_all_to_successors : (h : ℕ → Tree S) (s : List ℕ) (g : Forest S) →
      ((j : ℕ) → T (member j s) → T (any S (edge_serves S (q.kind j) (q.role j) (λ c. maps_to S (h j) c)) g)) → T (maps_all_to S (successors S q h s) g)
  maps_all_to_successors h [] g f = tt
  maps_all_to_successors h (j ∷ s) g f =
      and_intro (any S (edge_serves S (q.kind j) (q.role j) (λ c. maps_to S (h j) c)) g) (maps_all_to S (successors S q h s) g)
      (f j (member_head j s)) (maps_all_to_successors h s g (λ i m. f i (member_tail i j s m)))

  any_successor : (t : Kind → ℕ → Tree S → Bool) (h : ℕ → Tree S) (s : List ℕ) (y : ℕ) → T (member y s) → T (t (p.kind y) (p.role y) (h y)) →
      T (any S t (successors S p h s))
  any_successor t h [] y m w = absurd m
  any_successor t h (j ∷ s) y m w =
      let a = t (p.kind j) (p.role j) (h j) in
      let b = any S t (successors S p h s) in
      ⊎_elim (λ e. or_left a b (subst (λ z. T (t (p.kind z) (p.role z) (h z))) (eqb→eq y j e) w)) (λ m'. or_right a b (any_successor t h s y m' w))
      (or_split (eqb y j) (member y s) m)

  -- a node maps if its label agrees and, where the image is not ⊥, its edges map
  node_maps_to : (i v : ℕ) (f g : Forest S) → T (label_agrees S p q i v) → (T (not (bottom_at S p v)) → T (maps_all_to S f g)) →
      T (maps_to S (node (q.label i) f) (node (p.label v) g))
  node_maps_to i v f g h k =
      let u = bottom_at S p v in
      let a = label_within S (q.label i) (p.label v) in
      let b = maps_all_to S f g in
      ⊎_elim (λ t. or_left u (a && b) t)
      (λ n. or_right u (a && b) (and_intro a b (⊎_elim (λ t. absurd (clash u t n)) (λ t. t) (or_split u a h)) (k n)))
      (decide u)

  module _ (im : ℕ → ℕ) (ok : IsHomomorphism S p q im) (up : ParentsFirst S p) where
    -- where row i's image is not ⊥, the images of its successors hang from it
    edge_joined : (i j : ℕ) → j < q.rows → T (successor_of S q i j) → T (not (bottom_at S p (im i))) → T (edge_joins S p q j (im i) (im j))
    edge_joined i j b c n =
        let u = bottom_at S p (im i) in
        let e = eqb (im j) (im i) in
        let h = ok.edges j b (successor_nonzero S q i j c) in
        ⊎_elim (λ t. absurd (clash u (and_left u e t) n)) (λ t. t)
        (or_split (u && e) (edge_joins S p q j (im i) (im j)) (subst (λ k. T (edge_agrees S p q j (im k) (im j))) (successor_parent S q i j c) h))

    -- row i's tree maps to that of its image
    pub row_maps_to_is : (n m i : ℕ) → i < q.rows → p.rows ≤ im i + m → T (maps_to S (tree_of S q n i) (tree_of S p m (im i)))
    row_maps_to_is zero zero i b d = node_maps_to i (im i) nil nil (ok.labels i b) (λ n. tt)
    row_maps_to_is zero (suc m) i b d =
        node_maps_to i (im i) nil (successors S p (λ j. tree_of S p m j) (successor_rows S p (im i))) (ok.labels i b) (λ n. tt)
    row_maps_to_is (suc n) zero i b d = absurd (omega (arith, ok.inside i b))
    row_maps_to_is (suc n) (suc m) i b d =
        let f = successors S q (λ j. tree_of S q n j) (successor_rows S q i) in
        let g = successors S p (λ j. tree_of S p m j) (successor_rows S p (im i)) in
        node_maps_to i (im i) f g (ok.labels i b) (λ u. maps_all_to_successors (λ j. tree_of S q n j) (successor_rows S q i) g (λ j t.
        let (c, l) = filter_below_out (successor_of S q i) q.rows j t in
        let w = edge_joined i j l c u in
        let x = same_kind (q.kind j) (p.kind (im j)) in
        let y = role_serves S (q.kind j) (p.role (im j)) (q.role j) in
        let z = maps_to S (tree_of S q n j) (tree_of S p m (im j)) in
        let hangs = and_left (successor_of S p (im i) (im j)) (x && y) w in
        let xy = and_right (successor_of S p (im i) (im j)) (x && y) w in
        let v = successor_above S p up (im i) (im j) (ok.inside j l) hangs in
        any_successor (edge_serves S (q.kind j) (q.role j) (λ e. maps_to S (tree_of S q n j) e)) (λ z. tree_of S p m z) (successor_rows S p (im i)) (im j)
        (filter_below_in (successor_of S p (im i)) p.rows (im j) hangs (ok.inside j l))
        (and_intro x (y && z) (and_left x y xy) (and_intro y z (and_right x y xy) (row_maps_to_is n m j l (omega arith))))))

    -- the second's tree maps to the first's
    pub homomorphism_maps_to : 0 < q.rows → (n m : ℕ) → p.rows ≤ m → T (maps_to S (tree_of S q n 0) (tree_of S p m 0))
    homomorphism_maps_to b n m d =
        subst (λ v. T (maps_to S (tree_of S q n 0) (tree_of S p m v))) ok.root (row_maps_to_is n m 0 b (omega (arith, ok.root)))
