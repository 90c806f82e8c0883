-- The merged tree of a set of rows no longer changes once it is read deep enough: as far below each row of the set as some rank still has to rise.
-- The rows for which a successor of a merged node stands hang from rows of its set, so their rank is larger; where it can rise no more there are none.
--   by_role_agree, value_part_agree, exists_parts_agree, role_parts_agree   the successors of a merged node by the trees of the sets they stand for
--   DeepEnough                                                          the rank of each row of the set has no more than n still to rise
--   merged_settled, merged_deeper                                       then one level more changes nothing, nor do k
use Prim.Native.Nat.{◌+◌, ◌<◌, ◌≤◌, suc, zero, ℕ}
use lib.Dec.{T, eqb}
use mathlib.Core.Bool.{not}
use mathlib.Core.List.{List, [], ◌∷◌}
use mathlib.Core.Path.{◌∙◌, ◌≡◌, ap, ap₂, refl, sym}
use native.Mathlib.Omega.{arith}
use Rattle.ale.specs.Forest.{append, by_role}
use Rattle.ale.specs.Merged.{exists_parts, exists_rows, label_of_set, merged, role_parts, successor_of_set, value_part, value_rows}
use Rattle.ale.specs.Rows.{member}
use Rattle.ale.specs.Signature.{Signature}
use Rattle.ale.specs.Table.{Table}
use Rattle.ale.specs.Tree.{Forest, Tree, cons, exists, forAll, nil, node}
use Rattle.ale.proofs.Appends.{by_role_same}
use Rattle.ale.proofs.Depths.{Ranked}
use Rattle.ale.proofs.Merging.{exists_rows_out, exists_set, value_rows_out}
use Rattle.ale.proofs.RowLists.{member_head, member_tail, no_members, with_row_each}
use Rattle.ale.proofs.TableLaws.{not_zero, successor_intro}
use Rattle.ale.proofs.Tests.{and_left, and_right}

module _ (S : Signature) where
  pub by_role_agree : (h h' : ℕ → Forest S) (n : ℕ) → ((r : ℕ) → h r ≡ h' r) → by_role S h n ≡ by_role S h' n
  by_role_agree h h' zero e = refl
  by_role_agree h h' (suc n) e = ap₂ (λ f g. append S f g) (by_role_agree h h' n e) (e n)

  pub value_part_agree : (r : ℕ) (h h' : List ℕ → Tree S) (v : List ℕ) → h v ≡ h' v → value_part S r h v ≡ value_part S r h' v
  value_part_agree r h h' [] e = refl
  value_part_agree r h h' (a ∷ v) e = ap (λ t. cons forAll r t nil) e

  pub exists_parts_agree : (r : ℕ) (h h' : ℕ → Tree S) (s : List ℕ) → ((c : ℕ) → T (member c s) → h c ≡ h' c) →
      exists_parts S r h s ≡ exists_parts S r h' s
  exists_parts_agree r h h' [] e = refl
  exists_parts_agree r h h' (c ∷ s) e =
      ap₂ (λ t f. cons exists r t f) (e c (member_head c s)) (exists_parts_agree r h h' s (λ i m. e i (member_tail i c s m)))

module _ (S : Signature) (p : Table S) where
  pub role_parts_agree : (h h' : List ℕ → Tree S) (s : List ℕ) (r : ℕ) → h (value_rows S p s r) ≡ h' (value_rows S p s r) →
      ((c : ℕ) → T (member c (exists_rows S p s r)) → h (exists_set S p s r c) ≡ h' (exists_set S p s r c)) →
      role_parts S p h s r ≡ role_parts S p h' s r
  role_parts_agree h h' s r e d =
      ap₂ (λ f g. append S f g) (value_part_agree S r h h' (value_rows S p s r) e)
      (exists_parts_agree S r (λ c. h (exists_set S p s r c)) (λ c. h' (exists_set S p s r c)) (exists_rows S p s r) d)

  module _ (rank : ℕ → ℕ) (bound : ℕ) (ranked : Ranked S p rank bound) where
    abbrev pub DeepEnough : ℕ → List ℕ → Type 0
    DeepEnough n s = (i : ℕ) → T (member i s) → bound ≤ rank i + n

    -- below the set, less is enough
    below_deep : (n : ℕ) (s : List ℕ) → DeepEnough n s → (j : ℕ) → j < p.rows → T (successor_of_set S p s j) → bound < rank j + n
    below_deep n s deep j l h =
        let a = not (eqb j 0) in
        let i = p.parent j in
        let m = and_right a (member i s) h in
        omega (arith, deep i m, ranked.rises i j l (successor_intro S p i j (not_zero j (and_left a (member i s) h)) refl))

    module _ (n : ℕ) (s : List ℕ) (deep : DeepEnough n s) (r : ℕ) where
      value_deep : (a : ℕ) → T (member a (value_rows S p s r)) → bound < rank a + n
      value_deep a m = let w = value_rows_out S p s r a m in below_deep n s deep a w.inside w.hanging

      exists_deep : (c : ℕ) → T (member c (exists_rows S p s r)) → bound < rank c + n
      exists_deep c m = let w = exists_rows_out S p s r c m in below_deep n s deep c w.inside w.hanging

    -- where nothing is left to rise, nothing hangs below
    no_parts : (h : List ℕ → Tree S) (s : List ℕ) → DeepEnough 0 s → (r : ℕ) → role_parts S p h s r ≡ nil
    no_parts h s deep r =
        let none = no_members (value_rows S p s r) (λ a m.
        omega (arith, value_deep 0 s deep r a m, ranked.capped a (value_rows_out S p s r a m).inside)) in
        let nor = no_members (exists_rows S p s r) (λ c m.
        omega (arith, exists_deep 0 s deep r c m, ranked.capped c (exists_rows_out S p s r c m).inside)) in
        ap₂ (λ v w. append S (value_part S r h v) (exists_parts S r (λ c. h (exists_set S p s r c)) w)) none nor

    pub merged_settled : (n : ℕ) (s : List ℕ) → DeepEnough n s → merged S p n s ≡ merged S p (suc n) s
    merged_settled zero s deep =
        let parts = role_parts S p (λ t. merged S p zero t) s in
        ap (λ f. node (label_of_set S p s) f)
        (sym (by_role_same S parts 0 S.roles (omega arith) (λ r a b. no_parts (λ t. merged S p zero t) s deep r)))
    merged_settled (suc n) s deep =
        let h : List ℕ → Tree S = λ t. merged S p n t in
        let h' : List ℕ → Tree S = λ t. merged S p (suc n) t in
        ap (λ f. node (label_of_set S p s) f)
        (by_role_agree S (role_parts S p h s) (role_parts S p h' s) S.roles (λ r.
        let v = value_rows S p s r in
        let values : DeepEnough n v = λ a m. omega (arith, value_deep (suc n) s deep r a m) in
        role_parts_agree h h' s r (merged_settled n v values) (λ c m.
        merged_settled n (exists_set S p s r c)
        (with_row_each (λ i. bound ≤ rank i + n) p.rows c v (omega (arith, exists_deep (suc n) s deep r c m)) values))))

    pub merged_deeper : (k n : ℕ) (s : List ℕ) → DeepEnough n s → merged S p n s ≡ merged S p (k + n) s
    merged_deeper zero n s deep = ap (λ m. merged S p m s) (let e : n ≡ 0 + n = omega arith in e)
    merged_deeper (suc k) n s deep =
        merged_deeper k n s deep
        ∙ merged_settled (k + n) s (λ i m. omega (arith, deep i m))
        ∙ ap (λ m. merged S p m s) (let e : suc (k + n) ≡ suc k + n = omega arith in e)
