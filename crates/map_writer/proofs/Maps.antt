-- The map that we write, as the search left it, and its file. s is the first table, t the second.
-- Where the image of a row's parent is not marked, the image that the search found is that of the map: it compared trees down to what was left of its
-- depth, but both rows then stand so deep that nothing of them is cut off. By induction on the row (`Reached`).
--   shallow_whole, shallow_deep                  a depth that no row stands below cuts nothing off; nor does less, of a row that stands as much lower
--   image_homomorphism, image_below              the images are a homomorphism's; each is a row of the first table
--   parent_image, parent_inside                  that of a row's parent, as it stands in the file; it is one too
--   image_start, image_marked, image_kept        the image of row 0; of a row whose parent's image is marked; of any other row, as the search left it
--   lowest_map_counted                            our map's file has as many images as rows were counted
use Prim.Native.Nat.{◌+◌, ◌<◌, ◌≤◌, suc, zero, ℕ}
use borrow.Author.Tests.{eq-eqb, eqb-false, eqb-true, ne_eqb}
use lib.Dec.{T, eqb, eqb→eq}
use lib.ListN.{get_or}
use mathlib.Core.Bool.{Bool, ◌&&◌}
use mathlib.Core.List.{List}
use mathlib.Core.Logic.{⊎_elim}
use mathlib.Core.Path.{◌∙◌, ◌≡◌, ap, ap₂, refl, subst, sym}
use native.Mathlib.Omega.{arith}
use Rattle.ale.proofs.Depths.{tree_of_deeper}
use Rattle.ale.proofs.LowestMap.{image_next, lowest_homomorphism}
use Rattle.ale.proofs.TableLaws.{successor_intro}
use Rattle.ale.proofs.Tests.{and_left, or_split}
use Rattle.ale.proofs.WholeTrees.{whole_tree_is}
use Rattle.ale.specs.Homomorphism.{maps_to, role_serves}
use Rattle.ale.specs.PictureSignature.{picture_signature}
use Rattle.ale.specs.RowMap.{IsHomomorphism, edge_joins, next_image, row_maps_to}
use Rattle.ale.specs.Rows.{first_from}
use Rattle.ale.specs.Table.{successor_of}
use Rattle.ale.specs.Tree.{same_kind}
use Rattle.meaning.specs.Meaning.{picture_table}
use Rattle.row_sets.specs.Rows.{Checked}
use Rattle.table.proofs.Bools.{by_test, true_is}
use Rattle.table.proofs.Tests.{and_same}
use Rattle.table.specs.Fields.{impossible_of, parent_of}
use Rattle.homomorphism.specs.Layout.{image_of}
use Rattle.homomorphism.specs.Map.{lowest_map, map_file}
use Rattle.homomorphism_search.specs.Search.{Found, Mapped, Shallow, lowest_image, row_maps, tree_at}
use Rattle.homomorphism_search.proofs.Walks.{checked_parents}
use Rattle.map_writer.specs.Images.{image_row}

pub shallow_whole : {t : List ℕ} {rows depth : ℕ} → Shallow t depth → Checked t rows → (i : ℕ) →
    tree_at t depth i ≡ tree_at t (picture_table t).rows i
shallow_whole {t} {depth = depth} shallow checked =
    whole_tree_is picture_signature (picture_table t) (checked_parents checked) shallow.rank depth shallow.ranked

pub shallow_deep : {t : List ℕ} {rows depth : ℕ} (shallow : Shallow t depth) → Checked t rows → (left i : ℕ) → depth ≤ shallow.rank i + left →
    tree_at t left i ≡ tree_at t (picture_table t).rows i
shallow_deep {t} {depth = depth} shallow checked left i h =
    let deeper = tree_of_deeper picture_signature (picture_table t) shallow.rank depth shallow.ranked in
    deeper depth left i h
    ∙ ap (λ d. tree_at t d i) (let e : depth + left ≡ left + depth = omega arith in e)
    ∙ sym (deeper left depth i (omega arith))
    ∙ shallow_whole shallow checked i

first_from_same : (q r : ℕ → Bool) (o n : ℕ) → ((j : ℕ) → j < o + n → q j ≡ r j) → first_from q o n ≡ first_from r o n
first_from_same q r o zero h = refl
first_from_same q r o (suc n) h = rw (h o (omega arith), first_from_same q r (suc o) n (λ j l. h j (omega arith)))

-- the images

module _ {s t found : List ℕ} {n m : ℕ} (first : Checked s n) (second : Checked t m) (mapped : Mapped s t found) where
  abbrev joins : ℕ → ℕ → ℕ → Bool
  joins c u v = edge_joins picture_signature (picture_table s) (picture_table t) c u v

  abbrev whole_maps : ℕ → ℕ → Bool
  whole_maps c v = row_maps_to picture_signature (picture_table s) (picture_table t) c v

  abbrev rankₛ : ℕ → ℕ
  rankₛ v = mapped.first_shallow.rank v

  abbrev rankₜ : ℕ → ℕ
  rankₜ i = mapped.second_shallow.rank i

  -- the rows of the tables are those that were counted
  first_row : (i : ℕ) → i < (picture_table s).rows → i < n
  first_row i l = rw first.counted l

  first_some : 0 < (picture_table s).rows
  first_some = rw (sym first.counted) first.some

  second_row : (i : ℕ) → i < m → i < (picture_table t).rows
  second_row i l = rw (sym second.counted) l

  -- the ranks rise from a row to what hangs from it, in either table
  joined_above : (c u v : ℕ) → v < (picture_table s).rows → T (joins c u v) → rankₛ u < rankₛ v
  joined_above c u v l e =
      let kind = (picture_table t).kind c in
      let serves = same_kind kind ((picture_table s).kind v) && role_serves picture_signature kind ((picture_table s).role v) ((picture_table t).role c) in
      mapped.first_shallow.ranked.rises u v l (and_left (successor_of picture_signature (picture_table s) u v) serves e)

  parent_above : (i : ℕ) → i < m → (i ≡ 0 → ⊥) → rankₜ (parent_of t i) < rankₜ i
  parent_above i l later =
      mapped.second_shallow.ranked.rises (parent_of t i) i (second_row i l)
      (successor_intro picture_signature (picture_table t) (parent_of t i) i later refl)

  -- where the depth cuts nothing off, the test is that of whole trees
  row_whole : (left c v : ℕ) → mapped.depth ≤ rankₜ c + left → mapped.depth ≤ rankₛ v + left → row_maps s t left c v ≡ whole_maps c v
  unfolding row_maps
  row_whole left c v h g =
      ap₂ (λ x y. maps_to picture_signature x y) (shallow_deep mapped.second_shallow second left c h) (shallow_deep mapped.first_shallow first left v g)

  -- and the search finds the same: a row that it tests hangs from u, so one level less is deep enough
  search_whole : (left c u : ℕ) → mapped.depth ≤ rankₜ c + left → mapped.depth ≤ rankₛ u + suc left →
      lowest_image s t left c u ≡ first_from (λ v. joins c u v && whole_maps c v) 0 (picture_table s).rows
  unfolding lowest_image
  search_whole left c u h g =
      first_from_same (λ v. joins c u v && row_maps s t left c v) (λ v. joins c u v && whole_maps c v) 0 (picture_table s).rows (λ v l.
      and_same (joins c u v) (row_maps s t left c v) (whole_maps c v) (λ e.
      let up = joined_above c u v (omega arith) (true_is (joins c u v) e) in
      row_whole left c v h (omega arith)))

  pub image_homomorphism : IsHomomorphism picture_signature (picture_table s) (picture_table t) (image_row s t)
  image_homomorphism =
      let root = true_is (whole_maps 0 0) (sym (row_whole mapped.depth 0 0 (omega arith) (omega arith)) ∙ mapped.maps) in
      lowest_homomorphism picture_signature (picture_table s) (picture_table t) (checked_parents first) (checked_parents second) first_some root
      (second_row 0 second.some)

  pub image_below : (i : ℕ) → i < m → image_row s t i < n
  image_below i l = first_row (image_row s t i) (image_homomorphism.inside i (second_row i l))

  pub image_start : 0 ≡ image_row s t 0
  image_start = sym image_homomorphism.root

  -- what the search left behind reaches row i, whose image is v: deep enough below both rows
  record Reached (i v : ℕ) : Type 0 where
    left : ℕ
    row_deep : mapped.depth ≤ rankₜ i + left
    image_deep : (impossible_of s v ≡ 1 → ⊥) → mapped.depth ≤ rankₛ v + left
    below : Found s t found left i v

  found_marked : (left i u : ℕ) → impossible_of s u ≡ 1 → Found s t found left i u
  found_marked zero i u e = tt
  found_marked (suc left) i u e = λ d. absurd (d e)

  module _ {i u : ℕ} (l : i < m) (later : i ≡ 0 → ⊥) (above : u ≡ image_row s t (parent_of t i)) where
    image_step : image_row s t i ≡ next_image picture_signature (picture_table s) (picture_table t) i u
    image_step =
        rw above (image_next picture_signature (picture_table s) (picture_table t) (checked_parents first) (checked_parents second) i (second_row i l) later)

    image_stays : impossible_of s u ≡ 1 → u ≡ image_row s t i
    image_stays marked = sym (image_step ∙ simp (eq-eqb (impossible_of s u) 1 marked))

    module _ (other : impossible_of s u ≡ 1 → ⊥) where
      image_searched : (left : ℕ) → mapped.depth ≤ rankₜ i + left → mapped.depth ≤ rankₛ u + suc left → lowest_image s t left i u ≡ image_row s t i
      image_searched left h g = search_whole left i u h g ∙ sym (image_step ∙ simp (ne_eqb (impossible_of s u) 1 other))

      image_above : rankₛ u < rankₛ (image_row s t i)
      image_above =
          let v = image_row s t i in
          let bottom = eqb (impossible_of s u) 1 in
          ⊎_elim
          (λ e. absurd (other (eqb→eq (impossible_of s u) 1 (and_left bottom (eqb v u) e))))
          (λ e. joined_above i u v (image_homomorphism.inside i (second_row i l)) e)
          (or_split (bottom && eqb v u) (joins i u v) (rw above (image_homomorphism.edges i (second_row i l) later)))

      reached_next : (left : ℕ) → mapped.depth ≤ rankₜ (parent_of t i) + left → mapped.depth ≤ rankₛ u + left →
          Found s t found left (parent_of t i) u → (get_or found i 0 ≡ image_row s t i) × Reached i (image_row s t i)
      reached_next zero h g f =
          let up = parent_above i l later in
          let cap = mapped.second_shallow.ranked.capped i (second_row i l) in
          absurd (omega arith)
      reached_next (suc left) h g f =
          let up = parent_above i l later in
          let over = image_above in
          let (kept, next) = f other i (later, second_row i l, refl) in
          let same = image_searched left (omega arith) g in (
            kept ∙ same,
            record {
              left = left;
              row_deep = omega arith;
              image_deep = λ d. omega arith;
              below = subst (λ v. Found s t found left i v) same next;
            },
          )

    reached_step : Reached (parent_of t i) u → Reached i (image_row s t i)
    reached_step r =
        by_test (eqb (impossible_of s u) 1)
        (λ e.
        let marked = eqb-true (impossible_of s u) 1 e in
        subst (λ v. Reached i v) (image_stays marked)
        (record {
          left = mapped.depth;
          row_deep = omega arith;
          image_deep = λ d. omega arith;
          below = found_marked mapped.depth i u marked;
        }))
        (λ e. let other = eqb-false (impossible_of s u) 1 e in (reached_next other r.left r.row_deep (r.image_deep other) r.below).1)

  reached : (k i : ℕ) → i < k → i < m → Reached i (image_row s t i)
  reached zero i a b = absurd (omega arith)
  reached (suc k) i a b =
      by_test (eqb i 0)
      (λ e.
      subst (λ j. Reached j (image_row s t j)) (sym (eqb-true i 0 e))
      (subst (λ v. Reached 0 v) image_start
      (record { left = mapped.depth; row_deep = omega arith; image_deep = λ d. omega arith; below = mapped.images })))
      (λ e.
      let later = eqb-false i 0 e in
      let less = second.parents i later b in
      reached_step b later refl (reached k (parent_of t i) (omega arith) (omega arith)))

  -- row i's parent is row `above`, whose image u stands in the file
  module _ (out : List ℕ) {i above u : ℕ} (l : i < m) (later : i ≡ 0 → ⊥) (is : above ≡ parent_of t i)
      (read : u ≡ image_of out above) (before : (k : ℕ) → k < i → image_of out k ≡ image_row s t k) where
    pub parent_image : u ≡ image_row s t (parent_of t i)
    parent_image =
        let less = second.parents i later l in read ∙ before above (omega arith) ∙ ap (image_row s t) is

    pub parent_inside : u < n
    parent_inside =
        let less = second.parents i later l in rw parent_image (image_below (parent_of t i) (omega arith))

  module _ {i u mark : ℕ} (l : i < m) (later : i ≡ 0 → ⊥) (above : u ≡ image_row s t (parent_of t i))
      (read : mark ≡ impossible_of s u) where
    pub image_marked : mark ≡ 1 → u ≡ image_row s t i
    image_marked e = image_stays l later above (sym read ∙ e)

    pub image_kept : (mark ≡ 1 → ⊥) → get_or found i 0 ≡ image_row s t i
    image_kept d =
        let less = second.parents i later l in
        let other : impossible_of s u ≡ 1 → ⊥ = λ e. d (read ∙ e) in
        let r = subst (λ v. Reached (parent_of t i) v) (sym above)
        (reached (suc (parent_of t i)) (parent_of t i) (omega arith) (omega arith)) in
        (reached_next l later above other r.left r.row_deep (r.image_deep other) r.below).0

pub lowest_map_counted : (s : List ℕ) {t : List ℕ} {m : ℕ} → Checked t m → lowest_map (picture_table s) (picture_table t) ≡ map_file m (image_row s t)
unfolding lowest_map
lowest_map_counted s {t} checked = ap (λ (rows : ℕ). map_file rows (image_row s t)) (sym checked.counted)
