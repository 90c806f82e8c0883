-- However pictures are folded two at a time, the result is their least common subsumer. By induction on the folding: a tree of known
-- roles subsumes two foldings put together exactly if it subsumes both. So only the set of tables that are used counts, up to
-- equivalence, and the least common subsumer is commutative, associative and idempotent.
--   folding_subsumes                                   the result subsumes each table that is used
--   folding_least                                      every tree of known roles that subsumes all of them subsumes the result
--   folding_equivalent                                 two foldings that use the same tables are equivalent
--   lcs_commutative, lcs_associative, lcs_idempotent   so order, grouping and repetition do not count
use Prim.Native.Nat.{◌<◌, suc, zero, ℕ}
use mathlib.Core.Logic.{◌↔◌, inl, inr, ⊎_elim}
use mathlib.Core.Path.{refl, subst, sym}
use Rattle.ale.specs.Theory.{Folding, Uses, fold, one, two, lcs, lcs_table}
use Rattle.ale.specs.Interpretation.{Equivalent, Subsumed}
use Rattle.ale.specs.Signature.{Signature}
use Rattle.ale.specs.Table.{KnownRoles, Table, tree}
use Rattle.ale.specs.Tree.{RolesKnown, Tree}
use Rattle.ale.proofs.CommonSubsumers.{lcs_least, lcs_left, lcs_right, lcs_table_known, lcs_table_tree}
use Rattle.ale.proofs.RoleLaws.{tree_of_roles_known}
use Rattle.ale.proofs.Structures.{subsumed_trans}

module _ (S : Signature) (n : ℕ) (tables : ℕ → Table S) where
  pub folding_subsumes : (w : Folding) (i : ℕ) → Uses w i → Subsumed S (tree S (tables i) n) (tree S (fold S n tables w) n)
  folding_subsumes (one j) i e = subst (λ k. Subsumed S (tree S (tables i) n) (tree S (tables k) n)) e (λ I x l f. f)
  folding_subsumes (two a b) i u =
      let p = fold S n tables a in
      let q = fold S n tables b in
      subst (λ t. Subsumed S (tree S (tables i) n) t) (sym (lcs_table_tree S p q n))
      (⊎_elim
      (λ h. subsumed_trans S (tree S (tables i) n) (tree S p n) (lcs S p q n n) (folding_subsumes a i h) (lcs_left S p q n n))
      (λ h. subsumed_trans S (tree S (tables i) n) (tree S q n) (lcs S p q n n) (folding_subsumes b i h) (lcs_right S p q n n))
      u)

module _ (S : Signature) (z : 0 < S.roles) (n : ℕ) (tables : ℕ → Table S) where
  -- every table that is used has known roles
  abbrev pub KnownUses : Folding → Type 0
  KnownUses w = (i : ℕ) → Uses w i → KnownRoles S (tables i)

  fold_known : (w : Folding) → KnownUses w → KnownRoles S (fold S n tables w)
  fold_known (one i) k = k i refl
  fold_known (two a b) k = lcs_table_known S z (fold S n tables a) (fold S n tables b) n

  pub folding_least : (w : Folding) → KnownUses w → (u : Tree S) → RolesKnown S u → ((i : ℕ) → Uses w i → Subsumed S (tree S (tables i) n) u) →
      Subsumed S (tree S (fold S n tables w) n) u
  folding_least (one i) k u v h = h i refl
  folding_least (two a b) k u v h =
      let p = fold S n tables a in
      let q = fold S n tables b in
      let ka : KnownUses a = λ i x. k i (inl x) in
      let kb : KnownUses b = λ i x. k i (inr x) in
      subst (λ t. Subsumed S t u) (sym (lcs_table_tree S p q n))
      (lcs_least S p q (fold_known a ka) (fold_known b kb) n n u v
      (folding_least a ka u v (λ i x. h i (inl x))) (folding_least b kb u v (λ i x. h i (inr x))))

  -- a folding is subsumed by every folding that uses at least its tables
  folding_within : (v w : Folding) → KnownUses v → KnownUses w → ((i : ℕ) → Uses v i → Uses w i) →
      Subsumed S (tree S (fold S n tables v) n) (tree S (fold S n tables w) n)
  folding_within v w kv kw h =
      let q = fold S n tables w in
      folding_least v kv (tree S q n) (tree_of_roles_known S q (fold_known w kw) n 0) (λ i u. folding_subsumes S n tables w i (h i u))

  pub folding_equivalent : (v w : Folding) → KnownUses v → ((i : ℕ) → Uses v i ↔ Uses w i) →
      Equivalent S (tree S (fold S n tables v) n) (tree S (fold S n tables w) n)
  folding_equivalent v w k h =
      let l : KnownUses w = λ i u. k i ((h i).1 u) in
      (folding_within v w k l (λ i. (h i).0), folding_within w v l k (λ i. (h i).1))

module _ (S : Signature) (p q r : Table S) where
  -- tables 0, 1 and 2
  abbrev three : ℕ → Table S
  three zero = p
  three (suc zero) = q
  three (suc (suc i)) = r

  three_known : KnownRoles S p → KnownRoles S q → KnownRoles S r → (i : ℕ) → KnownRoles S (three i)
  three_known kp kq kr zero = kp
  three_known kp kq kr (suc zero) = kq
  three_known kp kq kr (suc (suc i)) = kr

module _ (S : Signature) (z : 0 < S.roles) (n : ℕ) where
  pub lcs_commutative : (p q : Table S) → KnownRoles S p → KnownRoles S q →
      Equivalent S (tree S (lcs_table S p q n) n) (tree S (lcs_table S q p n) n)
  lcs_commutative p q kp kq =
      folding_equivalent S z n (three S p q q) (two (one 0) (one 1)) (two (one 1) (one 0)) (λ i u. three_known S p q q kp kq kq i)
      (λ i. (⊎_elim inr inl, ⊎_elim inr inl))

  pub lcs_associative : (p q r : Table S) → KnownRoles S p → KnownRoles S q → KnownRoles S r →
      Equivalent S (tree S (lcs_table S (lcs_table S p q n) r n) n) (tree S (lcs_table S p (lcs_table S q r n) n) n)
  lcs_associative p q r kp kq kr =
      folding_equivalent S z n (three S p q r) (two (two (one 0) (one 1)) (one 2)) (two (one 0) (two (one 1) (one 2))) (λ i u. three_known S p q r kp kq kr i)
      (λ i. (⊎_elim (⊎_elim inl (λ h. inr (inl h))) (λ h. inr (inr h)), ⊎_elim (λ h. inl (inl h)) (⊎_elim (λ h. inl (inr h)) inr)))

  pub lcs_idempotent : (p : Table S) → KnownRoles S p → Equivalent S (tree S (lcs_table S p p n) n) (tree S p n)
  lcs_idempotent p kp =
      folding_equivalent S z n (three S p p p) (two (one 0) (one 0)) (one 0) (λ i u. three_known S p p p kp kp kp i)
      (λ i. (⊎_elim (λ h. h) (λ h. h), inl))
