-- The table of a tree reads back as that tree.
-- The rows of a tree are one interval: its root, then the intervals of its successors. Inside an interval every row but the first has its parent
-- inside, and no row after it has its parent there; so the rows that hang from a row are exactly the starts of its successors' intervals.
--   Placed, PlacedAll                        the rows of a tree, or of the successors of row q, stand from place o on
--   inside                                   a row of the tree, not the root, has its parent in the tree, before itself
--   Stands                                   the rows of a tree stand in the table, and no later row hangs from them
--   places                                   where the successors of a node stand
--   placed_tree                              a tree that stands at row o is the tree of row o
--   encode_tree_length, encode_forest_length   a row for each node
--   encoded_placed                           the table of a tree has the tree placed at row 0
--   encoded_parents_first                     in the table of a tree, parents come first
--   encoded_tree                             the tree of the table of t is t
--   height_size                              the height of a tree is less than its size
use Prim.Native.Nat.{◌+◌, ◌-◌, ◌<◌, ◌≤◌, suc, zero, ℕ}
use lib.Dec.{T}
use lib.ListN.{get_or-append, get_or, length, length-append}
use lib.Seq.{get_or-append-add}
use mathlib.Core.Bool.{not}
use mathlib.Core.List.{List, [], ◌++◌, ◌∷◌, append-nil}
use mathlib.Core.Logic.{◌⊎◌, inl, inr, ⊎_elim}
use mathlib.Core.Path.{◌∙◌, ◌≡◌, ap, ap₂, refl, subst}
use native.Mathlib.Omega.{arith}
use Rattle.ale.specs.Encoding.{Row, encode, encode_forest, encode_tree, encoded, no_row, table_of}
use Rattle.ale.specs.Rows.{filter_from}
use Rattle.ale.specs.Signature.{Signature}
use Rattle.ale.specs.Table.{ParentsFirst, Table, successor_of, successor_rows, successors, tree_of}
use Rattle.ale.specs.Tree.{Forest, Kind, Label, Tree, cons, exists, height, heights, label_of, nil, node, size, sizes}
use Rattle.ale.proofs.RowLists.{filter_from_none, filter_from_split}
use Rattle.ale.proofs.TableLaws.{successor_above, successor_intro, successor_parent}
use Rattle.ale.proofs.Tests.{chosen_first, refute}

data Order (a b : ℕ) : Type 0 where
  less : a < b → Order a b
  equal : a ≡ b → Order a b
  greater : b < a → Order a b

order : (a b : ℕ) → Order a b
order zero zero = equal refl
order zero (suc b) = less (omega arith)
order (suc a) zero = greater (omega arith)
order (suc a) (suc b) = step (order a b)
  where
    step : Order a b → Order (suc a) (suc b)
    step (less h) = less (omega arith)
    step (equal h) = equal (ap suc h)
    step (greater h) = greater (omega arith)

module _ (S : Signature) (p : Table S) where
  abbrev mutual
    pub Placed : Tree S → ℕ → Type 0
    Placed (node l f) o = (p.label o ≡ l) × PlacedAll f o (suc o)

    pub PlacedAll : Forest S → ℕ → ℕ → Type 0
    PlacedAll nil q o = Unit
    PlacedAll (cons k r t f) q o = (p.parent o ≡ q) × (p.kind o ≡ k) × (p.role o ≡ r) × Placed t o × PlacedAll f q (o + size S t)

  -- row y's parent is q, or is at o or after, and stands before y
  abbrev ParentFrom : ℕ → ℕ → ℕ → Type 0
  ParentFrom q o y = ((p.parent y ≡ q) ⊎ (o ≤ p.parent y)) × (p.parent y < y)

  -- m rows of a tree from o on, then n rows of its siblings: y is the first row, or another of the tree, or a sibling's
  parent_from_step : (q o m n y : ℕ) → q < o → p.parent o ≡ q → o ≤ y → y < o + (m + n) →
      (o < y → y < o + m → (o ≤ p.parent y) × (p.parent y < y)) → (o + m ≤ y → y < o + m + n → ParentFrom q (o + m) y) → ParentFrom q o y
  parent_from_step q o m n y l e a z f g = step (order o y)
    where
      sibling : o + m ≤ y → ParentFrom q o y
      sibling h = let (u, v) = g h (omega arith) in (⊎_elim (λ q. inl q) (λ q. inr (omega arith)) u, v)

      later : Order y (o + m) → o < y → ParentFrom q o y
      later (less h) b = let (u, v) = f b h in (inr u, v)
      later (equal h) b = sibling (omega arith)
      later (greater h) b = sibling (omega arith)

      step : Order o y → ParentFrom q o y
      step (less h) = later (order y (o + m)) h
      step (equal h) = (inl (subst (λ z. p.parent z ≡ q) h e), subst (λ z. p.parent z < z) h (omega arith))
      step (greater h) = absurd (omega arith)

  mutual
    pub inside : (t : Tree S) (o : ℕ) → Placed t o → (y : ℕ) → o < y → y < o + size S t → (o ≤ p.parent y) × (p.parent y < y)
    inside (node l f) o h y a z =
        let (u, v) = inside_all f o (suc o) (omega arith) h.1 y a (omega arith) in
        (⊎_elim (λ e. omega arith) (λ e. omega arith) u, v)

    inside_all : (f : Forest S) (q o : ℕ) → q < o → PlacedAll f q o → (y : ℕ) → o ≤ y → y < o + sizes S f → ParentFrom q o y
    inside_all nil q o l h y a z = absurd (omega arith)
    inside_all (cons k r t f) q o l h y a z =
        parent_from_step q o (size S t) (sizes S f) y l h.0 a z
        (λ c d. inside t o h.3 y c d) (λ c d. inside_all f q (o + size S t) (omega arith) h.4 y c d)

  -- no row from e on has its parent from o up to e
  abbrev Quiet : ℕ → ℕ → Type 0
  Quiet o e = (y : ℕ) → e ≤ y → y < p.rows → (p.parent y < o) ⊎ (e ≤ p.parent y)

  pub record Stands (o : ℕ) (t : Tree S) : Type 0 where
    pub placed : Placed t o
    pub ends : o + size S t ≤ p.rows
    pub quiet : Quiet o (o + size S t)

  -- if no later row hangs from t and its siblings f, then none hangs from t, and none from f
  module _ (q o : ℕ) (t : Tree S) (f : Forest S) (l : q < o) (h : PlacedAll f q (o + size S t)) (w : Quiet o (o + (size S t + sizes S f))) where
    quiet_first : Quiet o (o + size S t)
    quiet_first y a z = step (order y (o + (size S t + sizes S f)))
      where
        past : o + (size S t + sizes S f) ≤ y → (p.parent y < o) ⊎ (o + size S t ≤ p.parent y)
        past c = ⊎_elim (λ u. inl u) (λ u. inr (omega arith)) (w y c z)

        step : Order y (o + (size S t + sizes S f)) → (p.parent y < o) ⊎ (o + size S t ≤ p.parent y)
        step (less c) = ⊎_elim (λ u. inl (omega arith)) (λ u. inr u) (inside_all f q (o + size S t) (omega arith) h y a (omega arith)).0
        step (equal c) = past (omega arith)
        step (greater c) = past (omega arith)

    quiet_others : Quiet (o + size S t) (o + size S t + sizes S f)
    quiet_others y a z = ⊎_elim (λ u. inl (omega arith)) (λ u. inr (omega arith)) (w y (omega arith) z)

  abbrev pub places : Forest S → ℕ → List ℕ
  places nil o = []
  places (cons k r t f) o = o ∷ places f (o + size S t)

  not_successor : (q y : ℕ) → ¬ (p.parent y ≡ q) → T (not (successor_of S p q y))
  not_successor q y n = refute (successor_of S p q y) (λ h. n (successor_parent S p q y h))

  -- of the rows of a tree that hangs from q, only the first hangs from q
  successors_in_tree : (q o : ℕ) (t : Tree S) → q < o → p.parent o ≡ q → Placed t o → filter_from (successor_of S p q) o (size S t) ≡ o ∷ []
  successors_in_tree q o (node l f) b e h =
      let c = successor_of S p q in
      let rest = filter_from c (suc o) (sizes S f) in
      chosen_first (λ s. s ≡ o ∷ []) (c o) (o ∷ rest) rest (successor_intro S p q o (λ z. omega arith) e)
      (ap (λ s. o ∷ s) (filter_from_none c (suc o) (sizes S f) (λ y a z.
      not_successor q y (λ g. let w = (inside (node l f) o h y a (omega arith)).0 in omega arith))))

  successors_in_forest : (f : Forest S) (q o : ℕ) → q < o → PlacedAll f q o → filter_from (successor_of S p q) o (sizes S f) ≡ places f o
  successors_in_forest nil q o b h = refl
  successors_in_forest (cons k r t f) q o b h =
      filter_from_split (successor_of S p q) o (size S t) (sizes S f) (size S t + sizes S f) (o + size S t) refl refl
      ∙ ap₂ (λ a c. a ++ c) (successors_in_tree q o t b h.0 h.3) (successors_in_forest f q (o + size S t) (omega arith) h.4)

  -- of all rows, exactly the places of its successors hang from a row where a tree stands: none before, none after
  successors_placed : ParentsFirst S p → (x : ℕ) (l : Label S) (f : Forest S) → Stands x (node l f) → successor_rows S p x ≡ places f (suc x)
  successors_placed up x l f w =
      let c = successor_of S p x in
      let e = w.ends in
      let end = suc x + sizes S f in
      filter_from_split c 0 (suc x) (p.rows - suc x) p.rows (suc x) (omega arith) (omega arith)
      ∙ ap₂ (λ a b. a ++ b)
      (filter_from_none c 0 (suc x) (λ y a z. refute (c y) (λ h. let v = successor_above S p up x y (omega arith) h in omega arith)))
      (filter_from_split c (suc x) (sizes S f) (p.rows - end) (p.rows - suc x) end (omega arith) refl
      ∙ ap₂ (λ a b. a ++ b) (successors_in_forest f x (suc x) (omega arith) w.placed.1)
      (filter_from_none c end (p.rows - end) (λ y a z.
      not_successor x y (λ g. ⊎_elim (λ u. omega arith) (λ u. omega arith) (w.quiet y (omega arith) (omega arith)))))
      ∙ append-nil (places f (suc x)))

  cons_path : {k k' : Kind} {r r' : ℕ} {t t' : Tree S} {f f' : Forest S} → k ≡ k' → r ≡ r' → t ≡ t' → f ≡ f' →
      ◌≡◌ {A = Forest S} (cons k r t f) (cons k' r' t' f')
  cons_path a b c d = cc

  stands_quiet : (x : ℕ) (l : Label S) (f : Forest S) → Stands x (node l f) → Quiet (suc x) (suc x + sizes S f)
  stands_quiet x l f w y a z = ⊎_elim (λ u. inl (omega arith)) (λ u. inr (omega arith)) (w.quiet y (omega arith) z)

  module _ (up : ParentsFirst S p) where
    mutual
      pub placed_tree : (t : Tree S) (o n : ℕ) → Stands o t → height S t ≤ n → tree_of S p n o ≡ t
      placed_tree (node l nil) o zero w h = ap (λ m. node m nil) w.placed.0
      placed_tree (node l (cons k r t f)) o zero w h = absurd (omega arith)
      placed_tree (node l f) o (suc n) w h =
          ap₂ (λ m g. node m g) w.placed.0
          (ap (λ s. successors S p (λ j. tree_of S p n j) s) (successors_placed up o l f w)
          ∙ placed_forest f o (suc o) n (omega arith) w.placed.1 (omega (arith, w.ends)) (stands_quiet o l f w) h)

      placed_forest : (f : Forest S) (q o n : ℕ) → q < o → PlacedAll f q o → o + sizes S f ≤ p.rows → Quiet o (o + sizes S f) → heights S f ≤ suc n →
          successors S p (λ j. tree_of S p n j) (places f o) ≡ f
      placed_forest nil q o n b h e w g = refl
      placed_forest (cons k r t f) q o n b h e w g =
          cons_path h.1 h.2
          (placed_tree t o n (record { placed = h.3; ends = omega arith; quiet = quiet_first q o t f b h.4 w }) (omega arith))
          (placed_forest f q (o + size S t) n (omega arith) h.4 (omega arith) (quiet_others q o t f b h.4 w) (omega arith))

module _ (S : Signature) where
  mutual
    pub encode_tree_length : (t : Tree S) (p : ℕ) (k : Kind) (r o : ℕ) → length (encode_tree S t p k r o) ≡ size S t
    encode_tree_length (node l f) p k r o = ap suc (encode_forest_length f o (suc o))

    pub encode_forest_length : (f : Forest S) (p o : ℕ) → length (encode_forest S f p o) ≡ sizes S f
    encode_forest_length nil p o = refl
    encode_forest_length (cons k r t f) p o =
        let others = encode_forest S f p (o + size S t) in
        omega (arith, length-append (encode_tree S t p k r o) others, encode_tree_length t p k r o, encode_forest_length f p (o + size S t))

  module _ (w : List (Row S)) where
    -- the rows l stand in w from o on
    abbrev Segment : ℕ → List (Row S) → Type 0
    Segment o l = (i j : ℕ) → i < length l → j ≡ o + i → get_or w j (no_row S) ≡ get_or l i (no_row S)

    segment_left : (o : ℕ) (a b : List (Row S)) → Segment o (a ++ b) → Segment o a
    segment_left o a b h i j l e = h i j (omega (arith, length-append a b)) e ∙ get_or-append a b (no_row S) i l

    segment_right : (o : ℕ) (a b : List (Row S)) (n : ℕ) → length a ≡ n → Segment o (a ++ b) → Segment (o + n) b
    segment_right o a b n m h i j l e = h (length a + i) j (omega (arith, length-append a b)) (omega arith) ∙ get_or-append-add a b i (no_row S)

    -- where the rows of a tree were written, the tree is placed, and its root hangs as it was written
    mutual
      segment_placed : (t : Tree S) (p : ℕ) (k : Kind) (r o : ℕ) → Segment o (encode_tree S t p k r o) →
          (get_or w o (no_row S) ≡ record { parent = p; kind = k; role = r; label = label_of S t }) × Placed S (table_of S w) t o
      segment_placed (node l f) p k r o h =
          let e = h 0 o (omega arith) (omega arith) in
          (e, (ap (λ q. q.label) e, segment_placed_all f o (suc o) (λ i j l g. h (suc i) j (omega arith) (omega arith))))

      segment_placed_all : (f : Forest S) (p o : ℕ) → Segment o (encode_forest S f p o) → PlacedAll S (table_of S w) f p o
      segment_placed_all nil p o h = tt
      segment_placed_all (cons k r t f) p o h =
          let first = encode_tree S t p k r o in
          let others = encode_forest S f p (o + size S t) in
          let (e, d) = segment_placed t p k r o (segment_left o first others h) in (
            ap (λ q. q.parent) e,
            ap (λ q. q.kind) e,
            ap (λ q. q.role) e,
            d,
            segment_placed_all f p (o + size S t) (segment_right o first others (size S t) (encode_tree_length t p k r o) h),
          )

  module _ (t : Tree S) where
    pub encoded_placed : Placed S (encoded S t) t 0
    encoded_placed = (segment_placed (encode S t) t 0 exists 0 0 (λ i j l e. ap (λ q. get_or (encode S t) q (no_row S)) (omega arith))).1

    encoded_stands : Stands S (encoded S t) 0 t
    encoded_stands = record {
      placed = encoded_placed;
      ends = omega (arith, encode_tree_length t 0 exists 0 0);
      quiet = λ y a z. absurd (omega (arith, encode_tree_length t 0 exists 0 0));
    }

    pub encoded_parents_first : ParentsFirst S (encoded S t)
    encoded_parents_first y z n = (inside S (encoded S t) t 0 encoded_placed y (omega arith) (omega (arith, encode_tree_length t 0 exists 0 0))).1

    pub encoded_tree : (n : ℕ) → height S t ≤ n → tree_of S (encoded S t) n 0 ≡ t
    encoded_tree n h = placed_tree S (encoded S t) encoded_parents_first t 0 n encoded_stands h

  mutual
    pub height_size : (t : Tree S) → height S t < size S t
    height_size (node l f) = omega (arith, heights_sizes f)

    heights_sizes : (f : Forest S) → heights S f ≤ sizes S f
    heights_sizes nil = omega arith
    heights_sizes (cons k r t f) = omega (arith, height_size t, heights_sizes f)

  -- the table's own number of rows is deep enough
  pub encoded_back : (b : Tree S) → tree_of S (encoded S b) (length (encode S b)) 0 ≡ b
  encoded_back b = encoded_tree b (length (encode S b)) (omega (arith, encode_tree_length b 0 exists 0 0, height_size b))
