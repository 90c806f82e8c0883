-- What the search leaves behind, and that a later part of it leaves it as it is: each part writes only under the row that it is asked of, and rows that
-- hang from the same one have nothing below them in common. Only rows of the table are compared, where parents stand before their rows.
--   Rising                                       parents stand before their rows
--   under_self, under_child                      a row is under itself; what is under a row is under its parent
--   under_least                                  what is under a row does not stand before it
--   siblings_apart                               nothing is under two rows that hang from the same one
--   apart_refl, apart_trans, apart_wider         no change; one after the other; a change under a row is one under its parent
--   apart_store                                  one store more, at a row under w
--   Agree                                        two lists agree in the rows under w
--   apart_sibling                                what is changed under one row leaves what is under another of the same parent
--   found_same, missed_same, missed_below_same   what was found needs only the rows below w; what was missed only u and those below
--   Before, Kept                                 row c stands before the row that a walk is at; P of every such row that hangs from w
--   kept_start, kept_next, kept_all              before the loop, one turn more, and where the walk is at its end
--   Imaged, ServedAt                             the search for images at row c: each row before has its image, and those below it theirs
--   served_start, served_next                    before that loop, and one turn more, which stores the image
--   served_found, served_none, served_written, served_stop   where row c has no image: what is answered, changed and stored
--   served_end, served_all                       where all have theirs
--   Refused, ImageAt                             the search for an image at row v: each row before with such an edge was refused
--   image_start, image_not, image_other          before that loop, and one turn more: the row test says no, or the edge is another one
--   image_found, image_missed                    what is changed by a row test
--   image_all                                    where none is an image
--   found_marked, found_leaf, found_deep         what the row test leaves where it says yes: a marked row, depth 0, the rows below
--   missed_label, missed_deep                    and where it says no: the label, a row that no edge serves
use Prim.Native.Nat.{◌+◌, ◌-◌, ◌<◌, ◌≤◌, suc, zero, ℕ}
use borrow.Author.Tests.{eqb-false, eqb-true, ltb-false, ltb-true}
use lib.Dec.{eqb, ltb}
use lib.ListN.{get_or, length, length-set, set}
use lib.Seq.{get_or-set_other, get_or-set_same}
use mathlib.Core.Bool.{Bool, false, false≢true, true}
use mathlib.Core.List.{List}
use mathlib.Core.Path.{◌∙◌, ◌≡◌, ap, refl, subst, sym}
use native.Mathlib.Omega.{arith}
use Rattle.table.proofs.Bools.{by_test}
use Rattle.table.specs.Bounds.{max_rows}
use Rattle.table.specs.Fields.{impossible_of, parent_of}
use Rattle.row_sets.proofs.LinkLists.{OnChain}
use Rattle.row_sets.specs.Rows.{Checked, LinkedTable}
use Rattle.homomorphism_search.proofs.Walks.{WalkAt, walk_end, walk_found, walk_next, walk_start}
use Rattle.homomorphism_search.proofs.Searches.{image_none, image_some, lowest_along, no_image, takes, takes_not, takes_other, unserved_along}
use Rattle.homomorphism_search.specs.Search.{Apart, Climbs, Found, FoundBelow, Hangs, Missed, MissedBelow, Under, label_carried, lowest_image, row_maps, same_edge, unserved_row}

abbrev pub Rising : (ℕ → ℕ) → ℕ → Type 0
Rising parent rows = (j : ℕ) → (j ≡ 0 → ⊥) → j < rows → parent j < j

-- ---- rows under a row

module _ (parent : ℕ → ℕ) where
  pub under_self : (w : ℕ) → Under parent w w
  under_self w = (zero, refl)

  climbs_on : (k i c : ℕ) → (c ≡ 0 → ⊥) → Climbs parent k i c → Climbs parent (suc k) i (parent c)
  climbs_on zero i c z e = ((λ x. z (sym e ∙ x)), ap parent e)
  climbs_on (suc k) i c z (y, up) = (y, climbs_on k (parent i) c z up)

  pub under_child : (w c i : ℕ) → (c ≡ 0 → ⊥) → parent c ≡ w → Under parent c i → Under parent w i
  under_child w c i z hung (k, up) = subst (λ x. Under parent x i) hung (suc k, climbs_on k i c z up)

  module _ {rows : ℕ} (rising : Rising parent rows) where
    climbs_least : (k i w : ℕ) → i < rows → Climbs parent k i w → w ≤ i
    climbs_least zero i w l e = omega arith
    climbs_least (suc k) i w l (z, up) =
        let r = rising i z l in
        let m = climbs_least k (parent i) w (omega arith) up in
        omega arith

    pub under_least : (w i : ℕ) → i < rows → Under parent w i → w ≤ i
    under_least w i l (k, up) = climbs_least k i w l up

    -- a row that hangs where j does is not below j
    not_below : (k i j : ℕ) → i < rows → (j ≡ 0 → ⊥) → parent i ≡ parent j → Climbs parent (suc k) i j → ⊥
    not_below k i j l y same (z, up) =
        let r = rising i z l in
        let m = climbs_least k (parent i) j (omega arith) up in
        let q = rising j y (omega arith) in
        omega arith

    module _ (c j : ℕ) (z : c ≡ 0 → ⊥) (y : j ≡ 0 → ⊥) (same : parent c ≡ parent j) (other : j ≡ c → ⊥) where
      climbs_apart : (k m i : ℕ) → i < rows → Climbs parent k i c → Climbs parent m i j → ⊥
      climbs_apart zero zero i l e f = other (sym f ∙ e)
      climbs_apart zero (suc m) i l e up = not_below m i j l y (ap parent e ∙ same) up
      climbs_apart (suc k) zero i l up f = not_below k i c l z (ap parent f ∙ sym same) up
      climbs_apart (suc k) (suc m) i l (x, up) (_, on) = let r = rising i x l in climbs_apart k m (parent i) (omega arith) up on

      pub siblings_apart : (i : ℕ) → i < rows → Under parent c i → Under parent j i → ⊥
      siblings_apart i l (k, up) (m, on) = climbs_apart k m i l up on

-- ---- lists that agree but for rows under w

module _ {parent : ℕ → ℕ} {w : ℕ} where
  pub apart_refl : (s : List ℕ) → Apart parent w s s
  apart_refl s = record { size = refl; same = λ i _. refl }

  pub apart_trans : {r s t : List ℕ} → Apart parent w r s → Apart parent w s t → Apart parent w r t
  apart_trans a b = record { size = b.size ∙ a.size; same = λ i out. b.same i out ∙ a.same i out }

  pub apart_wider : {s t : List ℕ} (c : ℕ) → (c ≡ 0 → ⊥) → parent c ≡ w → Apart parent c s t → Apart parent w s t
  apart_wider c z hung a = record { size = a.size; same = λ i out. a.same i (λ below. out (under_child parent w c i z hung below)) }

  pub apart_store : {s t : List ℕ} (i v : ℕ) → Under parent w i → Apart parent w s t → Apart parent w s (set t i v)
  apart_store {t = t} i v below a =
      record {
        size = length-set t i v ∙ a.size;
        same = λ k out. get_or-set_other t i k v 0 (λ e. out (subst (λ x. Under parent w x) (sym e) below)) ∙ a.same k out;
      }

abbrev pub Agree : (ℕ → ℕ) → ℕ → ℕ → List ℕ → List ℕ → Type 0
Agree parent rows w old new = (i : ℕ) → i < rows → Under parent w i → get_or new i 0 ≡ get_or old i 0

pub apart_sibling : {parent : ℕ → ℕ} {rows : ℕ} {old new : List ℕ} → Rising parent rows → (c j : ℕ) → (c ≡ 0 → ⊥) → (j ≡ 0 → ⊥) →
    parent c ≡ parent j → (j ≡ c → ⊥) → Apart parent c old new → Agree parent rows j old new
apart_sibling {parent} rising c j z y same other a i l below =
    a.same i (λ up. siblings_apart parent rising c j z y same other i l up below)

-- ---- what was found and missed, in other lists

module _ (s t : List ℕ) {rows : ℕ} (checked : Checked t rows) (old new : List ℕ) where
  -- only the rows below w are looked at
  pub found_same : (depth w u : ℕ) →
      ((i : ℕ) → i < rows → (i ≡ w → ⊥) → Under (parent_of t) w i → get_or new i 0 ≡ get_or old i 0) →
      Found s t old depth w u → Found s t new depth w u
  found_same zero w u agree f = f
  found_same (suc depth) w u agree f = λ clear c hung.
      let (z, m, e) = hung in
      let l : c < rows = omega (arith, checked.counted) in
      let r = checked.parents c z l in
      let (at, below) = f clear c hung in (
        agree c l (λ x. omega arith) (under_child (parent_of t) w c c z e (under_self (parent_of t) c)) ∙ at,
        found_same depth c (lowest_image s t depth c u)
            (λ i b other up. let q = under_least (parent_of t) checked.parents c i b up in
            agree i b (λ x. omega arith) (under_child (parent_of t) w c i z e up)) below,
      )

module _ (s t : List ℕ) {rows : ℕ} (checked : Checked s rows) (old new : List ℕ) where
  pub missed_same : (depth w u : ℕ) → Agree (parent_of s) rows u old new → u < rows → Missed s t old depth w u → Missed s t new depth w u
  missed_same zero w u agree b f = f
  missed_same (suc depth) w u agree b f = λ carried.
      let (at, below) = f carried in (
        agree u b (under_self (parent_of s) u) ∙ at,
        λ v hung edge.
            let (z, m, e) = hung in
            missed_same depth (unserved_row s t depth w u) v (λ i l up. agree i l (under_child (parent_of s) u v i z e up))
            (omega (arith, checked.counted)) (below v hung edge),
      )

  -- here row u itself may have changed
  pub missed_below_same : (depth c u : ℕ) →
      ((i : ℕ) → i < rows → (i ≡ u → ⊥) → get_or new i 0 ≡ get_or old i 0) →
      MissedBelow s t old depth c u → MissedBelow s t new depth c u
  missed_below_same depth c u agree below v hung edge =
      let (z, m, e) = hung in
      let l : v < rows = omega (arith, checked.counted) in
      let r = checked.parents v z l in
      missed_same depth c v
      (λ i b up. let q = under_least (parent_of s) checked.parents v i b up in agree i b (λ x. omega arith)) l (below v hung edge)

-- ---- along the rows that hang from w

abbrev pub Before : ℕ → ℕ → Type 0
Before j c = (j ≡ 0 → ⊥) → c < j

abbrev pub Kept : List ℕ → ℕ → (ℕ → Type 0) → ℕ → Type 0
Kept t w P j = (c : ℕ) → Hangs t w c → Before j c → P c

module _ {t : List ℕ} {rows : ℕ} {links : List ℕ} (table : LinkedTable t rows links) (w : ℕ) where
  pub kept_start : (P : ℕ → Type 0) (j : ℕ) → w < rows → j ≡ get_or links w 0 → Kept t w P j
  kept_start P j l first c (z, m, e) before =
      let (y, least) = (table.linked.lowest w l).first c z (omega arith) (omega (arith, table.checked.counted)) e in
      let b = before (λ x. y (sym first ∙ x)) in
      absurd (omega arith)

  pub kept_next : (P Q : ℕ → Type 0) (j k : ℕ) → (j ≡ 0 → ⊥) → OnChain (parent_of t) rows w j → k ≡ get_or links (max_rows + j) 0 →
      Q j → ((c : ℕ) → Hangs t w c → (c ≡ j → ⊥) → P c → Q c) → Kept t w P j → Kept t w Q k
  kept_next P Q j k z on next here others kept c hung before =
      by_test (eqb c j)
      (λ e. subst Q (sym (eqb-true c j e)) here)
      (λ e.
      let other = eqb-false c j e in
      by_test (ltb c j)
      (λ l. others c hung other (kept c hung (λ _. ltb-true c j l)))
      (λ l.
      let (y, m, h) = hung in
      let (o, p) = on z in
      let g = ltb-false c j l in
      let (x, least) = (table.linked.later j z o).first c y (omega (arith, other)) (omega (arith, table.checked.counted)) (h ∙ sym p) in
      let b = before (λ q. x (sym next ∙ q)) in
      absurd (omega arith)))

pub kept_all : (t : List ℕ) (w j : ℕ) (P : ℕ → Type 0) → Kept t w P j → j ≡ 0 → (c : ℕ) → Hangs t w c → P c
kept_all t w j P kept e c hung = kept c hung (λ z. absurd (z e))

-- ---- the two loops

-- row c has the image that was found, and the rows below it have theirs
abbrev pub Imaged : List ℕ → List ℕ → List ℕ → ℕ → ℕ → ℕ → Type 0
Imaged s t found depth u c = (get_or found c 0 ≡ lowest_image s t depth c u) × Found s t found depth c (lowest_image s t depth c u)

-- if row v hangs by an edge like c's, it is known why row c does not map to it
abbrev pub Refused : List ℕ → List ℕ → List ℕ → ℕ → ℕ → ℕ → Type 0
Refused s t missed depth c v = same_edge s t c v ≡ true → Missed s t missed depth c v

pub record ServedAt (s t : List ℕ) (n m depth w u : ℕ) (found₀ missed₀ found missed : List ℕ) (c : ℕ) : Type 0 where
  pub walk : WalkAt (parent_of t) m w (no_image s t n depth u) 0 (unserved_row s t depth w u) c
  pub found_apart : Apart (parent_of t) w found₀ found
  pub missed_apart : Apart (parent_of s) u missed₀ missed
  pub kept : Kept t w (Imaged s t found depth u) c

pub record ImageAt (s t : List ℕ) (n depth c u : ℕ) (found₀ missed₀ found missed : List ℕ) (v : ℕ) : Type 0 where
  pub walk : WalkAt (parent_of s) n u (takes s t depth c) n (lowest_image s t depth c u) v
  pub found_apart : Apart (parent_of t) c found₀ found
  pub missed_apart : Apart (parent_of s) u missed₀ missed
  pub kept : Kept s u (Refused s t missed depth c) v

module _ {s t : List ℕ} {n m : ℕ} {links others : List ℕ} (one : LinkedTable s n links) (two : LinkedTable t m others) (depth w u : ℕ) where
  pub served_start : (found missed : List ℕ) (c : ℕ) → w < m → c ≡ get_or others w 0 → ServedAt s t n m depth w u found missed found missed c
  served_start found missed c l first =
      record {
        walk = walk_start two.linked c l (unserved_along s t n m depth w u one.checked two.checked) first;
        found_apart = apart_refl found;
        missed_apart = apart_refl missed;
        kept = kept_start two w (Imaged s t found depth u) c l first;
      }

  module _ {found₀ missed₀ found missed : List ℕ} {c : ℕ} (z : c ≡ 0 → ⊥) (at : ServedAt s t n m depth w u found₀ missed₀ found missed c)
      (r : ℕ) {found' missed' : List ℕ} (is : r ≡ lowest_image s t depth c u)
      (first-apart : Apart (parent_of s) u missed missed') (second-apart : Apart (parent_of t) c found found') where
    child : parent_of t c ≡ w
    child = (at.walk.on z).1

    pub served_found : Apart (parent_of t) w found₀ found'
    served_found = apart_trans at.found_apart (apart_wider c z child second-apart)

    served_missed : Apart (parent_of s) u missed₀ missed'
    served_missed = apart_trans at.missed_apart first-apart

    -- row c has its image: it is stored
    pub served_next : (k : ℕ) → length found₀ ≡ max_rows → (r ≡ n → ⊥) → Found s t found' depth c r → k ≡ get_or others (max_rows + c) 0 →
        ServedAt s t n m depth w u found₀ missed₀ (set found' c r) missed' k
    served_next k size some below next =
        let b = (at.walk.on z).0 in
        let room : c < length found' = omega (arith, two.checked.most, served_found.size, size) in
        let e : get_or (set found' c r) c 0 ≡ r = get_or-set_same found' c r 0 room in
        let stays : Found s t (set found' c r) depth c r
        = found_same s t two.checked found' (set found' c r) depth c r (λ i l other up. get_or-set_other found' c i r 0 other) below in
        let stored = apart_store c r (under_self (parent_of t) c) second-apart in
        record {
          walk = walk_next two.linked z at.walk k next (image_some s t n depth u c r is some);
          found_apart = apart_store c r (under_child (parent_of t) w c c z child (under_self (parent_of t) c)) served_found;
          missed_apart = served_missed;
          kept =
              kept_next two w (Imaged s t found depth u) (Imaged s t (set found' c r) depth u) c k z at.walk.on next
              (e ∙ is, subst (λ v. Found s t (set found' c r) depth c v) is stays)
              (λ j hung other old.
              let (y, l, h) = hung in
              let (image, rest) = old in
              let agree = apart_sibling two.checked.parents c j z y (child ∙ sym h) other stored in (
                agree j (omega (arith, two.checked.counted)) (under_self (parent_of t) j) ∙ image,
                found_same s t two.checked found (set found' c r) depth j (lowest_image s t depth j u) (λ i o _ up. agree i o up) rest,
              ))
              at.kept;
        }

    -- row c has none: it is stored with u
    module _ (none : r ≡ n) where
      pub served_none : c ≡ unserved_row s t depth w u
      served_none = sym (walk_found two.linked z at.walk (image_none s t n depth u c r is none))

      pub served_written : Apart (parent_of s) u missed₀ (set missed' u c)
      served_written = apart_store u c (under_self (parent_of s) u) served_missed

      pub served_stop : length missed₀ ≡ max_rows → u < n → MissedBelow s t missed' depth c u →
          (get_or (set missed' u c) u 0 ≡ c) × MissedBelow s t (set missed' u c) depth c u
      served_stop size l below =
          let room : u < length missed' = omega (arith, one.checked.most, served_missed.size, size) in (
            get_or-set_same missed' u c 0 room,
            missed_below_same s t one.checked missed' (set missed' u c) depth c u (λ i o other. get_or-set_other missed' u i c 0 other) below,
          )

  module _ {found₀ missed₀ found missed : List ℕ} {c : ℕ} (at : ServedAt s t n m depth w u found₀ missed₀ found missed c) (e : c ≡ 0) where
    pub served_end : 0 ≡ unserved_row s t depth w u
    served_end = sym (walk_end at.walk e)

    pub served_all : FoundBelow s t found depth w u
    served_all = kept_all t w c (Imaged s t found depth u) at.kept e

module _ {s : List ℕ} (t : List ℕ) {n : ℕ} {links : List ℕ} (one : LinkedTable s n links) (depth c u : ℕ) where
  pub image_start : (found missed : List ℕ) (v : ℕ) → u < n → v ≡ get_or links u 0 → ImageAt s t n depth c u found missed found missed v
  image_start found missed v l first =
      record {
        walk = walk_start one.linked v l (lowest_along s t n depth c u one.checked) first;
        found_apart = apart_refl found;
        missed_apart = apart_refl missed;
        kept = kept_start one u (Refused s t missed depth c) v l first;
      }

  module _ {found₀ missed₀ found missed : List ℕ} {v : ℕ} (z : v ≡ 0 → ⊥) (at : ImageAt s t n depth c u found₀ missed₀ found missed v)
      {found' missed' : List ℕ} (second-apart : Apart (parent_of t) c found found') (first-apart : Apart (parent_of s) v missed missed') where
    below : parent_of s v ≡ u
    below = (at.walk.on z).1

    pub image_found : Apart (parent_of t) c found₀ found'
    image_found = apart_trans at.found_apart second-apart

    pub image_missed : Apart (parent_of s) u missed₀ missed'
    image_missed = apart_trans at.missed_apart (apart_wider v z below first-apart)

    image_next : (k : ℕ) → takes s t depth c v ≡ false → Refused s t missed' depth c v → k ≡ get_or links (max_rows + v) 0 →
        ImageAt s t n depth c u found₀ missed₀ found' missed' k
    image_next k fails refused next =
        record {
          walk = walk_next one.linked z at.walk k next fails;
          found_apart = image_found;
          missed_apart = image_missed;
          kept =
              kept_next one u (Refused s t missed depth c) (Refused s t missed' depth c) v k z at.walk.on next refused
              (λ j hung other old edge.
              let (y, l, h) = hung in
              missed_same s t one.checked missed missed' depth c j
              (apart_sibling one.checked.parents v j z y (below ∙ sym h) other first-apart)
              (omega (arith, one.checked.counted)) (old edge))
              at.kept;
        }

    -- the row test says no
    pub image_not : (found'' missed'' : List ℕ) → found'' ≡ found' → missed'' ≡ missed' → (k : ℕ) → k ≡ get_or links (max_rows + v) 0 →
        (maps : Bool) → maps ≡ row_maps s t depth c v → (maps ≡ false → Missed s t missed' depth c v) → maps ≡ false →
        ImageAt s t n depth c u found₀ missed₀ found'' missed'' k
    image_not found'' missed'' e f k next maps row told fails =
        rw (e, f) (image_next k (takes_not s t depth c v maps row fails) (λ _. told fails) next)

  -- the edge is another one
  pub image_other : {found₀ missed₀ found missed : List ℕ} {v : ℕ} → (v ≡ 0 → ⊥) → ImageAt s t n depth c u found₀ missed₀ found missed v →
      (found' missed' : List ℕ) → found' ≡ found → missed' ≡ missed → (k : ℕ) → k ≡ get_or links (max_rows + v) 0 →
      (same : Bool) → same ≡ same_edge s t c v → same ≡ false → ImageAt s t n depth c u found₀ missed₀ found' missed' k
  image_other {found = found} {missed = missed} {v = v} z at found' missed' e f k next same is apart =
      rw (e, f)
      (image_next z at (apart_refl found) (apart_refl missed) k (takes_other s t depth c v same is apart)
      (λ edge. absurd (false≢true (sym apart ∙ is ∙ edge))) next)

  pub image_all : {found₀ missed₀ found missed : List ℕ} {v : ℕ} → ImageAt s t n depth c u found₀ missed₀ found missed v → v ≡ 0 →
      MissedBelow s t missed depth c u
  image_all {missed = missed} {v = v} at e = kept_all s u v (Refused s t missed depth c) at.kept e

-- ---- the row test

pub found_marked : (s t found : List ℕ) (depth w u : ℕ) → impossible_of s u ≡ 1 → Found s t found depth w u
found_marked s t found zero w u marked = tt
found_marked s t found (suc depth) w u marked = λ clear. absurd (clear marked)

pub found_leaf : (s t found : List ℕ) (depth w u : ℕ) → depth ≡ 0 → Found s t found depth w u
found_leaf s t found zero w u e = tt
found_leaf s t found (suc depth) w u e = absurd (omega arith)

pub found_deep : (s t found : List ℕ) (depth w u : ℕ) → (depth ≡ 0 → ⊥) → FoundBelow s t found (depth - 1) w u → Found s t found depth w u
found_deep s t found depth w u z below =
    let deep : suc (depth - 1) ≡ depth = omega arith in
    subst (λ d. Found s t found d w u) deep (λ _. below)

pub missed_label : (s t missed : List ℕ) (depth w u : ℕ) → label_carried s t w u ≡ false → Missed s t missed depth w u
missed_label s t missed zero w u lacks = tt
missed_label s t missed (suc depth) w u lacks = λ carried. absurd (false≢true (sym lacks ∙ carried))

pub missed_deep : (s t missed : List ℕ) (depth w u row : ℕ) → (depth ≡ 0 → ⊥) → row ≡ unserved_row s t (depth - 1) w u →
    get_or missed u 0 ≡ row → MissedBelow s t missed (depth - 1) row u → Missed s t missed depth w u
missed_deep s t missed depth w u row z is at below =
    let deep : suc (depth - 1) ≡ depth = omega arith in
    subst (λ d. Missed s t missed d w u) deep
    (λ _. (at ∙ is, subst (λ c. MissedBelow s t missed (depth - 1) c u) is below))
