-- The map that we write is a homomorphism: if the second table's root maps to the first's, taking the lowest possible row each time never fails.
-- The invariant, by induction on the row: every row's tree maps to the tree of its image. So if a row's image u is not ⊥, each edge of the row
-- has an image among the edges of u; a row that can be taken exists, and the search returns the lowest. If u is ⊥, u itself takes everything.
--   first_from_passes, first_from_lowest   a search that can succeed does, and finds the lowest
--   image_root, image_next               the image of row 0, and that of a row from its parent's
--   image_lowest                         no lower row could be taken
--   lowest_homomorphism                  the map is a homomorphism
use Prim.Native.Nat.{◌+◌, ◌-◌, ◌<◌, ◌≤◌, suc, zero, ℕ}
use lib.Dec.{T, eqb, eqb_refl, eqb→eq}
use lib.ListN.{get_or-append, get_or, length, length-append}
use lib.Seq.{get_or_at}
use mathlib.Core.Bool.{Bool, ◌&&◌, ◌||◌, false, not, true}
use mathlib.Core.List.{List, [], ◌∷◌}
use mathlib.Core.Logic.{◌⊎◌, inl, inr, ⊎_elim}
use mathlib.Core.Path.{◌∙◌, ◌≡◌, ap, ap₂, refl, subst, sym}
use native.Mathlib.Nat.{eq-or-lt_of_le}
use native.Mathlib.Omega.{arith}
use Rattle.ale.specs.Homomorphism.{edge_serves, label_within, maps_all_to, maps_to, role_serves}
use Rattle.ale.specs.RowMap.{IsHomomorphism, bottom_at, edge_agrees, edge_joins, image, image_from, images, label_agrees, next_image, row_maps_to}
use Rattle.ale.specs.Rows.{course, first_from, member}
use Rattle.ale.specs.Signature.{Signature}
use Rattle.ale.specs.Table.{ParentsFirst, Table, successor_of, successor_rows, successors, tree_of}
use Rattle.ale.specs.Tree.{Forest, Kind, Tree, any, same_kind, successors_of}
use Rattle.ale.proofs.Depths.{Ranked, tree_of_settled}
use Rattle.ale.proofs.RowLists.{filter_below_in, filter_below_out, member_cons, member_head, member_tail}
use Rattle.ale.proofs.TableLaws.{not_zero, successor_above, successor_intro, successor_nonzero, tree_of_node}
use Rattle.ale.proofs.Tests.{and_intro, and_left, and_right, chosen, clash, decide, or_left, or_right, or_split, refute}

-- a search that can succeed does
pub first_from_passes : (q : ℕ → Bool) (o n v : ℕ) → T (q v) → o ≤ v → v < o + n → (first_from q o n < o + n) × T (q (first_from q o n))
first_from_passes q o zero v t a b = absurd (omega arith)
first_from_passes q o (suc n) v t a b =
    chosen (λ z. (z < o + suc n) × T (q z)) (q o) o (first_from q (suc o) n) (λ h. (omega arith, h)) (λ h.
    ⊎_elim (λ e. absurd (clash (q o) (subst (λ z. T (q z)) (sym e) t) h))
    (λ l. let (x, y) = first_from_passes q (suc o) n v t l (omega arith) in (omega arith, y))
    (eq-or-lt_of_le {n = o} {m = v} a))

course_length : (f : List ℕ → ℕ → ℕ) (n : ℕ) → length (course f n) ≡ n
course_length f zero = refl
course_length f (suc n) = omega (arith, length-append (course f n) (f (course f n) n ∷ []), course_length f n)

-- and finds the lowest
pub first_from_lowest : (q : ℕ → Bool) (o n v : ℕ) → o ≤ v → v < first_from q o n → T (not (q v))
first_from_lowest q o zero v a b = absurd (omega arith)
first_from_lowest q o (suc n) v a b =
    let w = first_from q (suc o) n in
    let (t, l) = chosen (λ z. v < z → T (not (q o)) × (v < w)) (q o) o w (λ t l. absurd (omega arith)) (λ t l. (t, l)) b in
    ⊎_elim (λ e. subst (λ z. T (not (q z))) e t) (λ h. first_from_lowest q (suc o) n v h l) (eq-or-lt_of_le {n = o} {m = v} a)

-- a longer course has the same beginning
course_prefix : (f : List ℕ → ℕ → ℕ) (n m i : ℕ) → i < n → get_or (course f (m + n)) i 0 ≡ get_or (course f n) i 0
course_prefix f n zero i l = ap (λ z. get_or (course f z) i 0) (let e : 0 + n ≡ n = omega arith in e)
course_prefix f n (suc m) i l =
    ap (λ z. get_or (course f z) i 0) (let e : suc m + n ≡ suc (m + n) = omega arith in e)
    ∙ get_or-append (course f (m + n)) (f (course f (m + n)) (m + n) ∷ []) 0 i (omega (arith, course_length f (m + n)))
    ∙ course_prefix f n m i l

course_at : (f : List ℕ → ℕ → ℕ) (n m i : ℕ) → n ≡ m + suc i → get_or (course f n) i 0 ≡ f (course f i) i
course_at f n m i e =
    ap (λ z. get_or (course f z) i 0) e ∙ course_prefix f (suc i) m i (omega arith) ∙ get_or_at (course f i) (f (course f i) i) [] 0 i (course_length f i)

module _ (S : Signature) (p q : Table S) where
  -- where all the edges map, each has an image
  maps_all_to_at : (h : ℕ → Tree S) (s : List ℕ) (g : Forest S) → T (maps_all_to S (successors S q h s) g) →
      (j : ℕ) → T (member j s) → T (any S (edge_serves S (q.kind j) (q.role j) (λ c. maps_to S (h j) c)) g)
  maps_all_to_at h [] g w j m = absurd m
  maps_all_to_at h (i ∷ s) g w j m =
      let a : ℕ → Bool = λ z. any S (edge_serves S (q.kind z) (q.role z) (λ c. maps_to S (h z) c)) g in
      let b = maps_all_to S (successors S q h s) g in
      member_cons (λ z. T (a z)) i s (and_left (a i) b w) (λ y n. maps_all_to_at h s g (and_right (a i) b w) y n) j m

  -- an edge that passes a test is the edge of a row
  any_row : (t : Kind → ℕ → Tree S → Bool) (h : ℕ → Tree S) (s : List ℕ) → T (any S t (successors S p h s)) →
      (y : ℕ) × T (member y s) × T (t (p.kind y) (p.role y) (h y))
  any_row t h [] w = absurd w
  any_row t h (j ∷ s) w =
      ⊎_elim (λ a. (j, member_head j s, a)) (λ a. let (y, m, z) = any_row t h s a in (y, member_tail y j s m, z))
      (or_split (t (p.kind j) (p.role j) (h j)) (any S t (successors S p h s)) w)

  -- if row i's parent maps to row u, not ⊥, then i maps to a row that hangs from u; by depth
  image_exists_at : (n m i u : ℕ) → i < q.rows → ¬ (i ≡ 0) → T (maps_to S (tree_of S q (suc n) (q.parent i)) (tree_of S p (suc m) u)) →
      T (not (bottom_at S p u)) → (v : ℕ) × (v < p.rows) × T (edge_joins S p q i u v) × T (maps_to S (tree_of S q n i) (tree_of S p m v))
  image_exists_at n m i u b z w k =
      let j = q.parent i in
      let f = successors S q (λ x. tree_of S q n x) (successor_rows S q j) in
      let g = successors S p (λ x. tree_of S p m x) (successor_rows S p u) in
      let a = label_within S (q.label j) (p.label u) in
      let e : T (a && maps_all_to S f g) =
      ⊎_elim (λ t. absurd (clash (bottom_at S p u) t k)) (λ t. t) (or_split (bottom_at S p u) (a && maps_all_to S f g) w) in
      let d = filter_below_in (successor_of S q j) q.rows i (successor_intro S q j i z refl) b in
      let h = maps_all_to_at (λ x. tree_of S q n x) (successor_rows S q j) g (and_right a (maps_all_to S f g) e) i d in
      let (v, y, t) = any_row (edge_serves S (q.kind i) (q.role i) (λ c. maps_to S (tree_of S q n i) c)) (λ x. tree_of S p m x) (successor_rows S p u) h in
      let (c, l) = filter_below_out (successor_of S p u) p.rows v y in
      let x = same_kind (q.kind i) (p.kind v) in
      let s = role_serves S (q.kind i) (p.role v) (q.role i) in
      let r = maps_to S (tree_of S q n i) (tree_of S p m v) in
      let sr = and_right x (s && r) t in
      (v, l, and_intro (successor_of S p u v) (x && s) c (and_intro x s (and_left x (s && r) t) (and_left s r sr)), and_right s r sr)

  ranked_by_number : (s : Table S) → ParentsFirst S s → Ranked S s (λ i. i) s.rows
  ranked_by_number s u = record { rises = λ i j b c. successor_above S s u i j b c; capped = λ j b. omega arith }

  -- below the root, one level less is deep enough
  tree_of_below : (s : Table S) → ParentsFirst S s → (i : ℕ) → ¬ (i ≡ 0) → (n : ℕ) → s.rows ≡ suc n → tree_of S s n i ≡ tree_of S s s.rows i
  tree_of_below s u i z n e = tree_of_settled S s (λ i. i) s.rows (ranked_by_number s u) n i (omega arith) ∙ ap (λ k. tree_of S s k i) (sym e)

  -- whatever the depths: v is ⊥, or its label carries row i's and each edge is served
  abbrev node_maps : ℕ → ℕ → ℕ → ℕ → Bool
  node_maps n m i v = bottom_at S p v || (label_within S (q.label i) (p.label v) && maps_all_to S (successors_of S (tree_of S q n i)) (successors_of S (tree_of S p m v)))

  maps_to_node : (n m i v : ℕ) → maps_to S (tree_of S q n i) (tree_of S p m v) ≡ node_maps n m i v
  maps_to_node n m i v = ap₂ (λ d w. maps_to S d w) (tree_of_node S q n i) (tree_of_node S p m v)

  -- ⊥ takes everything
  bottom_maps_to : (n m i v : ℕ) → T (bottom_at S p v) → T (maps_to S (tree_of S q n i) (tree_of S p m v))
  bottom_maps_to n m i v t = subst T (sym (maps_to_node n m i v)) (or_left (bottom_at S p v) _ t)

  -- where a row's tree maps, its label agrees
  maps_to_label : (n m i v : ℕ) → T (maps_to S (tree_of S q n i) (tree_of S p m v)) → T (label_agrees S p q i v)
  maps_to_label n m i v t = label_only (bottom_at S p v) (label_within S (q.label i) (p.label v)) _ (subst T (maps_to_node n m i v) t)
    where
      label_only : (u a b : Bool) → T (u || (a && b)) → T (u || a)
      label_only true a b t = tt
      label_only false a b t = and_left a b t

  module _ (up : ParentsFirst S p) (uq : ParentsFirst S q) where
    -- row v can be taken for row i below u
    abbrev possible : ℕ → ℕ → ℕ → Bool
    possible i u v = edge_joins S p q i u v && row_maps_to S p q i v

    image_exists : (i u : ℕ) → i < q.rows → u < p.rows → ¬ (i ≡ 0) → T (row_maps_to S p q (q.parent i) u) → T (not (bottom_at S p u)) →
        (v : ℕ) × (v < p.rows) × T (possible i u v)
    image_exists i u b l z w k = go (q.rows - 1) (p.rows - 1) (omega arith) (omega arith)
      where
        go : (n m : ℕ) → q.rows ≡ suc n → p.rows ≡ suc m → (v : ℕ) × (v < p.rows) × T (possible i u v)
        go n m e d =
            let w' = subst (λ x. T (maps_to S (tree_of S q x (q.parent i)) (tree_of S p p.rows u))) e w in
            let w'' = subst (λ x. T (maps_to S (tree_of S q (suc n) (q.parent i)) (tree_of S p x u))) d w' in
            let (v, a, c, t) = image_exists_at n m i u b z w'' k in
            let x = same_kind (q.kind i) (p.kind v) && role_serves S (q.kind i) (p.role v) (q.role i) in
            let y = successor_nonzero S p u v (and_left (successor_of S p u v) x c) in
            let t' = subst (λ x. T (maps_to S x (tree_of S p m v))) (tree_of_below q uq i z n e) t in
            let t'' = subst (λ x. T (maps_to S (tree_of S q q.rows i) x)) (tree_of_below p up v y m d) t' in
            (v, a, and_intro (edge_joins S p q i u v) (row_maps_to S p q i v) c t'')

    pub image_root : 0 < q.rows → image S p q 0 ≡ 0
    image_root b = course_at (image_from S p q) q.rows (q.rows - 1) 0 (omega arith)

    pub image_next : (i : ℕ) → i < q.rows → ¬ (i ≡ 0) → image S p q i ≡ next_image S p q i (image S p q (q.parent i))
    image_next i b z =
        let j = q.parent i in
        let v = uq i b z in
        let e : q.rows - i + i ≡ q.rows = omega arith in
        let parent = sym (course_prefix (image_from S p q) i (q.rows - i) j v) ∙ ap (λ x. get_or (images S p q x) j 0) e in
        course_at (image_from S p q) q.rows (q.rows - suc i) i (omega arith)
        ∙ chosen (λ x. x ≡ next_image S p q i (image S p q j)) (eqb i 0) 0 (next_image S p q i (get_or (images S p q i) j 0))
        (λ t. absurd (z (eqb→eq i 0 t))) (λ t. ap (λ x. next_image S p q i x) parent)

    -- no lower row could be taken: none whose edge agrees and to whose tree the row's tree maps
    pub image_lowest : (i v : ℕ) → i < q.rows → ¬ (i ≡ 0) → v < p.rows → v < image S p q i →
        T (not (edge_agrees S p q i (image S p q (q.parent i)) v && row_maps_to S p q i v))
    image_lowest i v b z a l =
        let u = image S p q (q.parent i) in
        chosen (λ w. v < w → T (not (edge_agrees S p q i u v && row_maps_to S p q i v))) (bottom_at S p u) u (first_from (possible i u) 0 p.rows)
        (λ t h. refute (edge_agrees S p q i u v && row_maps_to S p q i v) (λ g. not_below u h (and_left (edge_agrees S p q i u v) (row_maps_to S p q i v) g)))
        (λ t h. unagreed u t (first_from_lowest (possible i u) 0 p.rows v (omega arith) h))
        (subst (λ w. v < w) (image_next i b z) l)
      where
        not_below : (u : ℕ) → v < u → T (edge_agrees S p q i u v) → ⊥
        not_below u h g =
            let c = same_kind (q.kind i) (p.kind v) && role_serves S (q.kind i) (p.role v) (q.role i) in
            ⊎_elim
            (λ e. let x = eqb→eq v u (and_right (bottom_at S p u) (eqb v u) e) in omega arith)
            (λ e. let x = successor_above S p up u v a (and_left (successor_of S p u v) c e) in omega arith)
            (or_split (bottom_at S p u && eqb v u) (edge_joins S p q i u v) g)

        unagreed : (u : ℕ) → T (not (bottom_at S p u)) → T (not (possible i u v)) → T (not (edge_agrees S p q i u v && row_maps_to S p q i v))
        unagreed u t n =
            let e = edge_joins S p q i u v in
            let r = row_maps_to S p q i v in
            let h = bottom_at S p u in
            refute (edge_agrees S p q i u v && r) (λ g.
            ⊎_elim
            (λ x. clash h (and_left h (eqb v u) x) t)
            (λ x. clash (e && r) (and_intro e r x (and_right (edge_agrees S p q i u v) r g)) n)
            (or_split (h && eqb v u) e (and_left (edge_agrees S p q i u v) r g)))

    -- the invariant: v is a row, and row i's tree maps to its tree
    abbrev Mapped : ℕ → ℕ → Type 0
    Mapped i v = (v < p.rows) × T (row_maps_to S p q i v)

    next_image_mapped : (i u : ℕ) → i < q.rows → ¬ (i ≡ 0) → Mapped (q.parent i) u →
        Mapped i (next_image S p q i u) × T (edge_agrees S p q i u (next_image S p q i u))
    next_image_mapped i u b z (l, w) =
        let h = bottom_at S p u in
        let v' = first_from (possible i u) 0 p.rows in
        chosen (λ v. Mapped i v × T (edge_agrees S p q i u v)) h u v'
        (λ t. ((l, bottom_maps_to q.rows p.rows i u t), or_left (h && eqb u u) (edge_joins S p q i u u) (and_intro h (eqb u u) t (eqb_refl u))))
        (λ k.
        let (v, a, c) = image_exists i u b l z w k in
        let (x, y) = first_from_passes (possible i u) 0 p.rows v c (omega arith) (omega arith) in
        let e = edge_joins S p q i u v' in
        let r = row_maps_to S p q i v' in
        ((omega arith, and_right e r y), or_right (h && eqb v' u) e (and_left e r y)))

    module _ (pp : 0 < p.rows) (root : T (row_maps_to S p q 0 0)) where
      image_mapped : (n i : ℕ) → i < n → i < q.rows → Mapped i (image S p q i)
      image_mapped zero i a b = absurd (omega arith)
      image_mapped (suc n) i a b = step (λ j x y. image_mapped n j x y) (decide (eqb i 0))
        where
          step : ((j : ℕ) → j < n → j < q.rows → Mapped j (image S p q j)) → T (eqb i 0) ⊎ T (not (eqb i 0)) → Mapped i (image S p q i)
          step ih (inl t) =
              subst (λ z. Mapped z (image S p q z)) (sym (eqb→eq i 0 t)) (subst (λ v. Mapped 0 v) (sym (image_root (omega arith))) (pp, root))
          step ih (inr t) =
              let z = not_zero i t in
              let v = uq i b z in
              let h = next_image_mapped i (image S p q (q.parent i)) b z (ih (q.parent i) (omega arith) (omega arith)) in
              subst (λ v. Mapped i v) (sym (image_next i b z)) h.0

      pub lowest_homomorphism : 0 < q.rows → IsHomomorphism S p q (image S p q)
      lowest_homomorphism qp = record {
        inside = λ i b. (image_mapped (suc i) i (omega arith) b).0;
        root = image_root qp;
        labels = λ i b. maps_to_label q.rows p.rows i (image S p q i) (image_mapped (suc i) i (omega arith) b).1;
        edges = λ i b z.
            let j = q.parent i in
            let v = uq i b z in
            let h = next_image_mapped i (image S p q j) b z (image_mapped (suc j) j (omega arith) (omega arith)) in
            subst (λ w. T (edge_agrees S p q i (image S p q j) w)) (sym (image_next i b z)) h.1;
      }
