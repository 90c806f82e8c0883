-- An element fits the merged tree of a set of rows exactly if it fits the tree of each row of the set.
-- By induction on the depth, for all sets at once. The label of the set asks for what the labels of its rows ask for together. By role r, an
-- element is reached that fits some-successor c of the set; it also fits every all-successor A that binds r, so it fits each row of c with A,
-- for which the merged some-successor stands. Conversely every row below the set is a row of A for its own role, or such a c.
--   merged_value, merged_exists, merged_successors   the all-successor and the some-successors of a merged node by one role; all its successors
--   exists_set                                     the rows for which its some-successor c by role r stands
--   SuccessorRow                                  row j hangs below the set, is of the kind, and passes the test of its role
--   value_rows_in, value_rows_out                   the all-successors of the set that bind role r are such rows, and only those
--   exists_rows_in, exists_rows_out                 the same of its some-successors by role r
--   value_rows_subrole                             the all-successors that bind a role bind its subroles
--   FitsEach                                      an element fits the tree of each row of the set, down to depth n
--   fits_merged, merged_fits                      then it fits the merged tree; and conversely, if the roles are known
use Prim.Native.Nat.{◌<◌, suc, zero, ℕ}
use lib.Dec.{T, eqb, eqb_refl, eqb→eq}
use mathlib.Core.Bool.{Bool, ◌&&◌, not}
use mathlib.Core.List.{List, [], ◌∷◌}
use mathlib.Core.Path.{◌≡◌, refl, subst, sym}
use Rattle.ale.specs.Forest.{by_role}
use Rattle.ale.specs.Merged.{exists_parts, exists_rows, label_of_set, merged, role_parts, rows_below, successor_of_set, value_part, value_rows}
use Rattle.ale.specs.Rows.{filter_below, member, with_row}
use Rattle.ale.specs.Signature.{Signature}
use Rattle.ale.specs.Structure.{Fits, FitsAll, Satisfies, Structure}
use Rattle.ale.specs.Table.{KnownRoles, Table, successor_of, successors, tree_of}
use Rattle.ale.specs.Tree.{All, Forest, Kind, Tree, exists, forAll, same_kind}
use Rattle.ale.proofs.Forests.{All-append, All-append-left, All-append-right, All-byRole, All-byRole-at}
use Rattle.ale.proofs.RowLists.{filter_below_in, filter_below_out, member_cons, member_head, member_tail, with_row_each, with_row_self}
use Rattle.ale.proofs.Structures.{FitsEdge, each_fits, fits_each, satisfies_empty_label, satisfies_left, satisfies_right, satisfies_union}
use Rattle.ale.proofs.Tests.{and_intro, and_left, and_right}
use Rattle.ale.proofs.Trees.{same_kind_eq, same_kind_refl}

module _ (S : Signature) (p : Table S) where
  abbrev pub exists_set : List ℕ → ℕ → ℕ → List ℕ
  exists_set s r c = with_row p.rows c (value_rows S p s r)

  abbrev pub merged_value : ℕ → List ℕ → ℕ → Forest S
  merged_value n s r = value_part S r (λ t. merged S p n t) (value_rows S p s r)

  abbrev pub merged_exists : ℕ → List ℕ → ℕ → Forest S
  merged_exists n s r = exists_parts S r (λ c. merged S p n (exists_set s r c)) (exists_rows S p s r)

  abbrev pub merged_successors : ℕ → List ℕ → Forest S
  merged_successors n s = by_role S (role_parts S p (λ t. merged S p n t) s) S.roles

  pub record SuccessorRow (s : List ℕ) (k : Kind) (j : ℕ) (B : Bool) : Type 0 where
    pub inside : j < p.rows
    pub hanging : T (successor_of_set S p s j)
    pub of_kind_is : k ≡ p.kind j
    pub of_role_is : T B

  rows_below_in : (s : List ℕ) (k : Kind) (q : ℕ → Bool) (j : ℕ) → SuccessorRow s k j (q (p.role j)) → T (member j (rows_below S p s k q))
  rows_below_in s k q j w =
      let a = successor_of_set S p s j in
      let b = same_kind k (p.kind j) in
      let c = q (p.role j) in
      filter_below_in (λ j. successor_of_set S p s j && (same_kind k (p.kind j) && q (p.role j))) p.rows j
      (and_intro a (b && c) w.hanging (and_intro b c (subst (λ z. T (same_kind k z)) w.of_kind_is (same_kind_refl k)) w.of_role_is)) w.inside

  rows_below_out : (s : List ℕ) (k : Kind) (q : ℕ → Bool) (j : ℕ) → T (member j (rows_below S p s k q)) → SuccessorRow s k j (q (p.role j))
  rows_below_out s k q j m =
      let a = successor_of_set S p s j in
      let b = same_kind k (p.kind j) in
      let c = q (p.role j) in
      let (t, l) = filter_below_out (λ j. successor_of_set S p s j && (same_kind k (p.kind j) && q (p.role j))) p.rows j m in
      let u = and_right a (b && c) t in
      record { inside = l; hanging = and_left a (b && c) t; of_kind_is = same_kind_eq k (p.kind j) (and_left b c u); of_role_is = and_right b c u }

  pub value_rows_in : (s : List ℕ) (r j : ℕ) → j < p.rows → T (successor_of_set S p s j) → forAll ≡ p.kind j → T (S.subrole r (p.role j)) →
      T (member j (value_rows S p s r))
  value_rows_in s r j b h k i = rows_below_in s forAll (S.subrole r) j (record { inside = b; hanging = h; of_kind_is = k; of_role_is = i })

  pub value_rows_out : (s : List ℕ) (r j : ℕ) → T (member j (value_rows S p s r)) → SuccessorRow s forAll j (S.subrole r (p.role j))
  value_rows_out s r j m = rows_below_out s forAll (S.subrole r) j m

  pub exists_rows_in : (s : List ℕ) (j : ℕ) → j < p.rows → T (successor_of_set S p s j) → exists ≡ p.kind j → T (member j (exists_rows S p s (p.role j)))
  exists_rows_in s j b h k =
      rows_below_in s exists (λ q. eqb q (p.role j)) j (record { inside = b; hanging = h; of_kind_is = k; of_role_is = eqb_refl (p.role j) })

  pub exists_rows_out : (s : List ℕ) (r j : ℕ) → T (member j (exists_rows S p s r)) → SuccessorRow s exists j (eqb (p.role j) r)
  exists_rows_out s r j m = rows_below_out s exists (λ q. eqb q r) j m

  pub value_rows_subrole : (s : List ℕ) (r q j : ℕ) → T (S.subrole r q) → T (member j (value_rows S p s q)) → T (member j (value_rows S p s r))
  value_rows_subrole s r q j i m =
      let w = value_rows_out s q j m in
      value_rows_in s r j w.inside w.hanging w.of_kind_is (S.subrole_trans r q (p.role j) i w.of_role_is)

module _ (S : Signature) (p : Table S) (M : Structure S) where
  label_of_set_satisfies : (s : List ℕ) (x : M.Element) → Satisfies S M (label_of_set S p s) x →
      (i : ℕ) → T (member i s) → Satisfies S M (p.label i) x
  label_of_set_satisfies [] x c = λ i h. absurd h
  label_of_set_satisfies (j ∷ s) x c =
      let l = label_of_set S p s in
      member_cons (λ i. Satisfies S M (p.label i) x) j s (satisfies_left S M (p.label j) l x c)
      (label_of_set_satisfies s x (satisfies_right S M (p.label j) l x c))

  satisfies_label_of_set : (s : List ℕ) (x : M.Element) → ((i : ℕ) → T (member i s) → Satisfies S M (p.label i) x) →
      Satisfies S M (label_of_set S p s) x
  satisfies_label_of_set [] x c = satisfies_empty_label S M x
  satisfies_label_of_set (j ∷ s) x c =
      satisfies_union S M (p.label j) (label_of_set S p s) x (c j (member_head j s))
      (satisfies_label_of_set s x (λ i h. c i (member_tail i j s h)))

  -- the edge to row j, whose tree h gives, is fitted
  abbrev FitsRow : (ℕ → Tree S) → M.Element → ℕ → Type 0
  FitsRow h x j = FitsEdge S M x (p.kind j) (p.role j) (h j)

  pub successors_fit : (h : ℕ → Tree S) (s : List ℕ) (x : M.Element) → FitsAll S M (successors S p h s) x →
      (j : ℕ) → T (member j s) → FitsRow h x j
  successors_fit h [] x f = λ j m. absurd m
  successors_fit h (i ∷ s) x f = member_cons (FitsRow h x) i s f.0 (successors_fit h s x f.1)

  pub fit_successors : (h : ℕ → Tree S) (s : List ℕ) (x : M.Element) →
      ((j : ℕ) → T (member j s) → FitsRow h x j) → FitsAll S M (successors S p h s) x
  fit_successors h [] x f = tt
  fit_successors h (i ∷ s) x f = (f i (member_head i s), fit_successors h s x (λ j m. f j (member_tail j i s m)))

  -- the parts of a merged node are fitted exactly if the edges that they stand for are
  value_part_fits : (r : ℕ) (h : List ℕ → Tree S) (s : List ℕ) (x : M.Element) → All S (FitsEdge S M x) (value_part S r h s) →
      (j : ℕ) → T (member j s) → FitsEdge S M x forAll r (h s)
  value_part_fits r h [] x f j m = absurd m
  value_part_fits r h (a ∷ s) x f j m = f.0

  fits_value_part : (r : ℕ) (h : List ℕ → Tree S) (s : List ℕ) (x : M.Element) → FitsEdge S M x forAll r (h s) →
      All S (FitsEdge S M x) (value_part S r h s)
  fits_value_part r h [] x f = tt
  fits_value_part r h (a ∷ s) x f = (f, tt)

  exists_parts_fit : (r : ℕ) (h : ℕ → Tree S) (s : List ℕ) (x : M.Element) → All S (FitsEdge S M x) (exists_parts S r h s) →
      (j : ℕ) → T (member j s) → FitsEdge S M x exists r (h j)
  exists_parts_fit r h [] x f = λ j m. absurd m
  exists_parts_fit r h (c ∷ s) x f = member_cons (λ j. FitsEdge S M x exists r (h j)) c s f.0 (exists_parts_fit r h s x f.1)

  fit_exists_parts : (r : ℕ) (h : ℕ → Tree S) (s : List ℕ) (x : M.Element) → ((j : ℕ) → T (member j s) → FitsEdge S M x exists r (h j)) →
      All S (FitsEdge S M x) (exists_parts S r h s)
  fit_exists_parts r h [] x f = tt
  fit_exists_parts r h (c ∷ s) x f = (f c (member_head c s), fit_exists_parts r h s x (λ j m. f j (member_tail j c s m)))

  abbrev pub FitsEach : ℕ → List ℕ → M.Element → Type 0
  FitsEach n s x = (i : ℕ) → T (member i s) → Fits S M (tree_of S p n i) x

  -- a row below the set is a successor of its parent, which is in the set
  successor_fits : (n : ℕ) (s : List ℕ) (x : M.Element) → FitsEach (suc n) s x → (j : ℕ) → j < p.rows → T (successor_of_set S p s j) →
      FitsRow (λ j. tree_of S p n j) x j
  successor_fits n s x e j b h =
      let a = not (eqb j 0) in
      let i = p.parent j in
      successors_fit (λ j. tree_of S p n j) (filter_below (successor_of S p i) p.rows) x (e i (and_right a (member i s) h)).1 j
      (filter_below_in (successor_of S p i) p.rows j (and_intro a (eqb i i) (and_left a (member i s) h) (eqb_refl i)) b)

  pub fits_merged : (n : ℕ) (s : List ℕ) (x : M.Element) → FitsEach n s x → Fits S M (merged S p n s) x
  fits_merged zero s x e = (satisfies_label_of_set s x (λ i m. (e i m).0), tt)
  fits_merged (suc n) s x e = (
    satisfies_label_of_set s x (λ i m. (e i m).0),
    each_fits S M (merged_successors S p n s) x
        (All-byRole S (FitsEdge S M x) (role_parts S p (λ t. merged S p n t) s) (λ r.
        let v = value_rows S p s r in
        All-append S (FitsEdge S M x) (merged_value S p n s r) (merged_exists S p n s r)
        (fits_value_part r (λ t. merged S p n t) v x (λ y st. fits_merged n v y (values_fit r y st)))
        (fit_exists_parts r (λ c. merged S p n (exists_set S p s r c)) (exists_rows S p s r) x (λ c m.
        let (y, st, f) = exists_fit r c m in
        (y, st, fits_merged n (exists_set S p s r c) y (with_row_each (λ i. Fits S M (tree_of S p n i) y) p.rows c v f (values_fit r y st))))))
        S.roles),
  )
    where
      value_fits : (r a : ℕ) → T (member a (value_rows S p s r)) → FitsEdge S M x forAll (p.role a) (tree_of S p n a)
      value_fits r a m =
          let w = value_rows_out S p s r a m in
          subst (λ k. FitsEdge S M x k (p.role a) (tree_of S p n a)) (sym w.of_kind_is) (successor_fits n s x e a w.inside w.hanging)

      -- what x reaches by r fits the all-successors that bind r
      values_fit : (r : ℕ) (y : M.Element) → M.edge r x y → FitsEach n (value_rows S p s r) y
      values_fit r y st a m = value_fits r a m y (M.respects r (p.role a) x y (value_rows_out S p s r a m).of_role_is st)

      exists_fit : (r c : ℕ) → T (member c (exists_rows S p s r)) → FitsEdge S M x exists r (tree_of S p n c)
      exists_fit r c m =
          let w = exists_rows_out S p s r c m in
          subst (λ q. FitsEdge S M x exists q (tree_of S p n c)) (eqb→eq (p.role c) r w.of_role_is)
          (subst (λ k. FitsEdge S M x k (p.role c) (tree_of S p n c)) (sym w.of_kind_is) (successor_fits n s x e c w.inside w.hanging))

  module _ (known : KnownRoles S p) where
    pub merged_fits : (n : ℕ) (s : List ℕ) (x : M.Element) → Fits S M (merged S p n s) x → FitsEach n s x
    merged_fits zero s x f i m = (label_of_set_satisfies s x f.0 i m, tt)
    merged_fits (suc n) s x f i m = (
      label_of_set_satisfies s x f.0 i m,
      fit_successors (λ j. tree_of S p n j) (filter_below (successor_of S p i) p.rows) x (λ j t.
          let (q, b) = filter_below_out (successor_of S p i) p.rows j t in
          let a = not (eqb j 0) in
          let c = eqb (p.parent j) i in
          let h = and_intro a (member (p.parent j) s) (and_left a c q) (subst (λ z. T (member z s)) (sym (eqb→eq (p.parent j) i (and_right a c q))) m) in
          row_fits (λ t y g. merged_fits n t y g) j b h (parts_fit (p.role j) (known j b)) (p.kind j) refl),
    )
      where
        parts_fit : (r : ℕ) → r < S.roles → All S (FitsEdge S M x) (role_parts S p (λ t. merged S p n t) s r)
        parts_fit r b =
            All-byRole-at S (FitsEdge S M x) (role_parts S p (λ t. merged S p n t) s) S.roles r b (fits_each S M (merged_successors S p n s) x f.1)

        -- a row below the set, by its kind: it is in the set for which the merged successor stands
        row_fits : ((t : List ℕ) (y : M.Element) → Fits S M (merged S p n t) y → FitsEach n t y) → (j : ℕ) → j < p.rows → T (successor_of_set S p s j) →
            All S (FitsEdge S M x) (role_parts S p (λ t. merged S p n t) s (p.role j)) → (k : Kind) → k ≡ p.kind j →
            FitsEdge S M x k (p.role j) (tree_of S p n j)
        row_fits ih j b h w exists e =
            let r = p.role j in
            let parts = All-append-right S (FitsEdge S M x) (merged_value S p n s r) (merged_exists S p n s r) w in
            let m = exists_rows_in S p s j b h e in
            let (y, st, g) = exists_parts_fit r (λ c. merged S p n (exists_set S p s r c)) (exists_rows S p s r) x parts j m in
            (y, st, ih (exists_set S p s r j) y g j (with_row_self p.rows j (value_rows S p s r) b))
        row_fits ih j b h w forAll e =
            let r = p.role j in
            let v = value_rows S p s r in
            let part = All-append-left S (FitsEdge S M x) (merged_value S p n s r) (merged_exists S p n s r) w in
            let m = value_rows_in S p s r j b h e (S.subrole_refl r) in
            λ y st. ih v y (value_part_fits r (λ t. merged S p n t) v x part j m y st) j m
