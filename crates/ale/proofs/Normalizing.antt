-- The normal tree of a set of rows is saturated, and means what the rows mean together.
-- By induction on the depth: every successor of a node stands for a set of rows. A some-successor by role r stands for a set with all the
-- all-successors A that bind r, the all-successor of r for A itself; so whatever fits either fits A, hence the all-successor of every role
-- including r. If A is empty, or its normal tree is trivial and so dropped, every element fits A, and ⊤ says as much.
use Prim.Native.Nat.{suc, zero, ℕ}
use lib.Dec.{T, eqb, eqb_refl, eqb→eq}
use mathlib.Core.Bool.{◌&&◌, ◌||◌, not}
use mathlib.Core.List.{List, [], ◌∷◌}
use mathlib.Core.Logic.{inl, inr, ⊎_elim}
use mathlib.Core.Path.{subst}
use Rattle.ale.specs.Forest.{dropped, trivial}
use Rattle.ale.specs.Merged.{exists_parts, exists_rows, label_of_set, merged, role_parts, value_part, value_rows}
use Rattle.ale.specs.Normal.{bottom_exists, inconsistent, normal_of, tidy, tidy_all, tidy_node}
use Rattle.ale.specs.Countermodel.{value_of}
use Rattle.ale.specs.Theory.{IfExists, IfForAll, Propagated, Saturated, SaturatedAll, SubsumedInAll}
use Rattle.ale.specs.Rows.{member}
use Rattle.ale.specs.Signature.{Signature}
use Rattle.ale.specs.Structure.{Fits, Structure}
use Rattle.ale.specs.Table.{KnownRoles, Table}
use Rattle.ale.specs.Tree.{All, Any, Forest, Kind, Label, Tree, any, bottom_tree, cons, exists, forAll, nil, node, same_kind}
use Rattle.ale.proofs.Forests.{All-append, All-byRole, All-consReduced, Any-append-left, Any-byRole, Any-consReduced, Any-consReduced-later, trivial_fits}
use Rattle.ale.proofs.Merging.{FitsEach, exists_set, fits_merged, merged_fits, merged_exists, merged_successors, merged_value, value_rows_out, value_rows_subrole}
use Rattle.ale.proofs.NameLaws.{intersection_intro, none_has}
use Rattle.ale.proofs.NormalForms.{value_of_elim}
use Rattle.ale.proofs.RowLists.{member_head, with_row_others}
use Rattle.ale.proofs.Tests.{chosen, clash, decide, or_fails_left, or_fails_right}
use Rattle.ale.proofs.Tidying.{fits_tidy, tidy_fits}
use Rattle.ale.proofs.Trees.{All-map}

module _ (S : Signature) where
  -- what is true of every tidied successor is true of every one that is kept; a successor that is not trivial is kept
  All-tidyAll {ℓ} : (P : Kind → ℕ → Tree S → Type ℓ) (f : Forest S) → All S (λ k r t. P k r (tidy S t)) f → All S P (tidy_all S f)
  All-tidyAll P nil h = tt
  All-tidyAll P (cons k r t f) h = All-consReduced S P k r (tidy S t) (tidy_all S f) h.0 (All-tidyAll P f h.1)

  Any-tidyAll : (P : Kind → ℕ → Tree S → Type 0) (f : Forest S) → Any S (λ k r t. T (not (dropped S k (tidy S t))) × P k r (tidy S t)) f →
      Any S P (tidy_all S f)
  Any-tidyAll P nil h = h
  Any-tidyAll P (cons k r t f) (inl h) = Any-consReduced S P k r (tidy S t) (tidy_all S f) h.0 h.1
  Any-tidyAll P (cons k r t f) (inr h) = Any-consReduced-later S P k r (tidy S t) (tidy_all S f) (Any-tidyAll P f h)

  abbrev IsValue : ℕ → Kind → ℕ → Tree S → Type 0
  IsValue r k s b = T (same_kind forAll k && eqb s r)

  -- an all-successor of role r that tidying keeps
  abbrev KeptValue : ℕ → Kind → ℕ → Tree S → Type 0
  KeptValue r k s b = T (not (dropped S k (tidy S b))) × IsValue r k s (tidy S b)

  -- `value_of` is an all-successor of the role, where there is one
  value_of_present {ℓ} : (P : Tree S → Type ℓ) (r : ℕ) (f : Forest S) → Any S (IsValue r) f → All S (IfForAll S (λ s b. T (eqb s r) → P b)) f →
      P (value_of S r f)
  value_of_present P r nil h p = absurd h
  value_of_present P r (cons exists s t f) (inl h) p = absurd h
  value_of_present P r (cons exists s t f) (inr h) p = value_of_present P r f h p.1
  value_of_present P r (cons forAll s t f) (inl h) p = chosen P (eqb s r) t (value_of S r f) p.0 (λ n. absurd (clash (eqb s r) h n))
  value_of_present P r (cons forAll s t f) (inr h) p = chosen P (eqb s r) t (value_of S r f) p.0 (λ n. value_of_present P r f h p.1)

  saturated_bottom : Saturated S (bottom_tree S)
  saturated_bottom = (record { consistent = λ u. absurd u; into_exists = tt; into_for_all = λ r. tt }, tt)

  saturated_not_bottom : (f : Forest S) → All S (λ k r t. Saturated S t) f → T (not (any S (bottom_exists S) f)) → SaturatedAll S f
  saturated_not_bottom nil w n = tt
  saturated_not_bottom (cons k r t f) w n =
      let a = bottom_exists S k r t in
      let b = any S (bottom_exists S) f in
      (or_fails_left a b n, w.0, saturated_not_bottom f w.1 (or_fails_right a b n))

  -- a tidied node is saturated if all-successors are propagated to its successors and these are saturated
  tidy_node_saturated : (l : Label S) (f : Forest S) → All S (IfExists S (λ r c. Propagated S f r c)) f → ((r : ℕ) → Propagated S f r (value_of S r f)) →
      All S (λ k r t. Saturated S t) f → Saturated S (tidy_node S l f)
  tidy_node_saturated l f s a w =
      let overlapping = S.intersection l.wanted l.excluded in
      let z = S.subset overlapping S.none in
      let d = any S (bottom_exists S) f in
      chosen (λ t. Saturated S t) (inconsistent S l f) (bottom_tree S) (node l f) (λ b. saturated_bottom) (λ b.
      let c = or_fails_right l.bottom (not z || d) b in (
        record {
          consistent = λ u n i o.
              ⊎_elim
              (λ t. none_has S n (S.subset_has overlapping S.none t n (intersection_intro S l.wanted l.excluded n i o)))
              (λ t. clash (not z) t (or_fails_left (not z) d c))
              (decide z);
          into_exists = s;
          into_for_all = a;
        },
        saturated_not_bottom f w (or_fails_right (not z) d c),
      ))

module _ (S : Signature) where
  -- what is true of the successors of a merged node, by its parts
  pub All-valuePart {ℓ} : (P : Kind → ℕ → Tree S → Type ℓ) (r : ℕ) (h : List ℕ → Tree S) (s : List ℕ) → P forAll r (h s) →
      All S P (value_part S r h s)
  All-valuePart P r h [] q = tt
  All-valuePart P r h (a ∷ s) q = (q, tt)

  Any-valuePart : (P : Kind → ℕ → Tree S → Type 0) (r : ℕ) (h : List ℕ → Tree S) (s : List ℕ) (j : ℕ) → T (member j s) → P forAll r (h s) →
      Any S P (value_part S r h s)
  Any-valuePart P r h [] j m q = absurd m
  Any-valuePart P r h (a ∷ s) j m q = inl q

  pub All-existsParts {ℓ} : (P : Kind → ℕ → Tree S → Type ℓ) (r : ℕ) (h : ℕ → Tree S) (s : List ℕ) → ((c : ℕ) → P exists r (h c)) →
      All S P (exists_parts S r h s)
  All-existsParts P r h [] q = tt
  All-existsParts P r h (c ∷ s) q = (q c, All-existsParts P r h s q)

module _ (S : Signature) (p : Table S) where
  All-merged {ℓ} : (P : Kind → ℕ → Tree S → Type ℓ) (n : ℕ) (s : List ℕ) → ((r : ℕ) → P forAll r (merged S p n (value_rows S p s r))) →
      ((r c : ℕ) → P exists r (merged S p n (exists_set S p s r c))) → All S P (merged_successors S p n s)
  All-merged P n s a b =
      All-byRole S P (role_parts S p (λ t. merged S p n t) s) (λ r.
      All-append S P (merged_value S p n s r) (merged_exists S p n s r)
      (All-valuePart S P r (λ t. merged S p n t) (value_rows S p s r) (a r))
      (All-existsParts S P r (λ c. merged S p n (exists_set S p s r c)) (exists_rows S p s r) (b r)))
      S.roles

  -- an element fits the normal tree of a set exactly if it fits the tree of each of its rows
  pub fits_normal_of : (M : Structure S) (n : ℕ) (s : List ℕ) (x : M.Element) → FitsEach S p M n s x → Fits S M (normal_of S p n s) x
  fits_normal_of M n s x e = fits_tidy S M (merged S p n s) x (fits_merged S p M n s x e)

  module _ (known : KnownRoles S p) where
    pub normal_of_fits : (M : Structure S) (n : ℕ) (s : List ℕ) (x : M.Element) → Fits S M (normal_of S p n s) x → FitsEach S p M n s x
    normal_of_fits M n s x f = merged_fits S p M known n s x (tidy_fits S M (merged S p n s) x f)

    module _ (n : ℕ) (s : List ℕ) where
      abbrev tidied : Forest S
      tidied = tidy_all S (merged_successors S p n s)

      -- whatever fits t fits the all-successors that bind role r; and the converse
      abbrev ImpliesValues : ℕ → Tree S → Type 1
      ImpliesValues r t = (M : Structure S) (x : M.Element) → Fits S M t x → FitsEach S p M n (value_rows S p s r) x

      abbrev ImpliedByValues : ℕ → Tree S → Type 1
      ImpliedByValues r t = (M : Structure S) (x : M.Element) → FitsEach S p M n (value_rows S p s r) x → Fits S M t x

      -- what an end says of the all-successors that bind its role: some-ends say at least that, all-ends exactly that
      abbrev EdgeMeaning : Kind → ℕ → Tree S → Type 1
      EdgeMeaning exists r t = ImpliesValues r t
      EdgeMeaning forAll r t = ImpliesValues r t × ImpliedByValues r t

      edges_mean : All S EdgeMeaning tidied
      edges_mean =
          All-tidyAll S EdgeMeaning (merged_successors S p n s)
          (All-merged (λ k r t. EdgeMeaning k r (tidy S t)) n s
          (λ r. (λ M x f. normal_of_fits M n (value_rows S p s r) x f, λ M x e. fits_normal_of M n (value_rows S p s r) x e))
          (λ r c M x f i m.
          let v = value_rows S p s r in
          normal_of_fits M n (exists_set S p s r c) x f i (with_row_others p.rows c i v (value_rows_out S p s r i m).inside m)))

      propagated : (r : ℕ) (t : Tree S) → ImpliesValues r t → Propagated S tidied r t
      propagated r t b = All-map S EdgeMeaning (IfForAll S (λ q u. T (S.subrole r q) → SubsumedInAll S t u)) step tidied edges_mean
        where
          step : (k : Kind) (q : ℕ) (u : Tree S) → EdgeMeaning k q u → IfForAll S (λ q u. T (S.subrole r q) → SubsumedInAll S t u) k q u
          step exists q u e = tt
          step forAll q u e = λ i M x f. e.1 M x (λ j m. b M x f j (value_rows_subrole S p s r q j i m))

      propagated_exists : All S (IfExists S (λ r c. Propagated S tidied r c)) tidied
      propagated_exists = All-map S EdgeMeaning (IfExists S (λ r c. Propagated S tidied r c)) step tidied edges_mean
        where
          step : (k : Kind) (r : ℕ) (c : Tree S) → EdgeMeaning k r c → IfExists S (λ r c. Propagated S tidied r c) k r c
          step exists r c e = propagated r c e
          step forAll r c e = tt

      values_imply : (r : ℕ) → All S (IfForAll S (λ q b. T (eqb q r) → ImpliesValues r b)) tidied
      values_imply r = All-map S EdgeMeaning (IfForAll S (λ q b. T (eqb q r) → ImpliesValues r b)) step tidied edges_mean
        where
          step : (k : Kind) (q : ℕ) (b : Tree S) → EdgeMeaning k q b → IfForAll S (λ q b. T (eqb q r) → ImpliesValues r b) k q b
          step exists q b e = tt
          step forAll q b e = λ t. subst (λ z. ImpliesValues z b) (eqb→eq q r t) e.0

      -- if a row binds r, and their normal tree is not trivial, there is an all-successor of r
      value_present : (r a : ℕ) → T (member a (value_rows S p s r)) → T (not (trivial S (normal_of S p n (value_rows S p s r)))) →
          Any S (IsValue S r) tidied
      value_present r a m b =
          let w = value_rows_out S p s r a m in
          let l = S.subrole_below r (p.role a) w.of_role_is (known a w.inside) in
          Any-tidyAll S (IsValue S r) (merged_successors S p n s)
          (Any-byRole S (KeptValue S r) (role_parts S p (λ t. merged S p n t) s) r S.roles l
          (Any-append-left S (KeptValue S r) (merged_value S p n s r) (merged_exists S p n s r)
          (Any-valuePart S (KeptValue S r) r (λ t. merged S p n t) (value_rows S p s r) a m (b, eqb_refl r))))

      -- whether the rows that bind r are none, or their normal tree is trivial, or neither
      value_of_implies : (r : ℕ) → ImpliesValues r (value_of S r tidied)
      value_of_implies r = by_rows (value_rows S p s r) (λ j m. m) (λ j m. m)
        where
          by_rows : (z : List ℕ) → ((j : ℕ) → T (member j (value_rows S p s r)) → T (member j z)) →
              ((j : ℕ) → T (member j z) → T (member j (value_rows S p s r))) → ImpliesValues r (value_of S r tidied)
          by_rows [] u v = value_of_elim S (λ t. ImpliesValues r t) r tidied (λ M x f j m. absurd (u j m)) (values_imply r)
          by_rows (a ∷ z) u v =
              let t = normal_of S p n (value_rows S p s r) in
              ⊎_elim
              (λ b. value_of_elim S (λ t. ImpliesValues r t) r tidied
              (λ M x f. normal_of_fits M n (value_rows S p s r) x (trivial_fits S M t b x)) (values_imply r))
              (λ b. value_of_present S (λ t. ImpliesValues r t) r tidied (value_present r a (v a (member_head a z)) b) (values_imply r))
              (decide (trivial S t))

    pub normal_of_saturated : (n : ℕ) (s : List ℕ) → Saturated S (normal_of S p n s)
    normal_of_saturated zero s = tidy_node_saturated S (label_of_set S p s) nil tt (λ r. tt) tt
    normal_of_saturated (suc n) s =
        tidy_node_saturated S (label_of_set S p s) (tidied n s) (propagated_exists n s)
        (λ r. propagated n s r (value_of S r (tidied n s)) (value_of_implies n s r))
        (All-tidyAll S (λ k r t. Saturated S t) (merged_successors S p n s)
        (All-merged (λ k r t. Saturated S (tidy S t)) n s
        (λ r. normal_of_saturated n (value_rows S p s r))
        (λ r c. normal_of_saturated n (exists_set S p s r c))))
