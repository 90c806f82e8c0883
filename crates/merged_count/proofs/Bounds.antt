-- The merged rows of a picture are at most what the sums over its file rows say. All rows that a merged row stands for
-- have one key, since a key is made of the parent's key and the role. So an all-row meets some-rows of its key only:
-- what hangs below it stands once below the all-successor, and once below each of those.
--   weighed_most   one more than what hangs below the root
use Prim.Native.Nat.{◌*◌, ◌+◌, ◌<◌, ◌≤◌, suc, zero, ℕ}
use lib.Dec.{eqb, ltb}
use lib.ListN.{get_or}
use mathlib.Core.Bool.{Bool, ◌&&◌, false, false≢true, not, true}
use mathlib.Core.List.{List, [], ◌∷◌}
use mathlib.Core.Logic.{◌⊎◌, inl, inr, ⊎_elim}
use mathlib.Core.Path.{◌∙◌, ◌≡◌, ap, refl, subst, sym}
use native.Mathlib.Nat.{mul-le-mul}
use native.Mathlib.Omega.{arith}
use borrow.Author.Tests.{eq-eqb, eqb-false, eqb-true, lt-ltb, ltb-true, ne_eqb, not-true}
use Rattle.table.specs.Fields.{kind_of, parent_of, role_of}
use Rattle.table.specs.Layout.{kind_exists, kind_for_all, roles}
use Rattle.table.specs.Pick.{pick}
use Rattle.table.specs.declared.layout.Limits.{Limits}
use Rattle.table.proofs.Bools.{both, either, or_none}
use Rattle.table.proofs.Tests.{refuted}
use Rattle.ale.specs.Merged.{merged, value_part}
use Rattle.ale.specs.PictureSignature.{picture_signature}
use Rattle.ale.specs.Rows.{filter_below}
use Rattle.ale.specs.Tree.{Forest, Tree, cons, exists, nil, size, sizes}
use Rattle.ale.proofs.Appends.{sizes_append}
use Rattle.meaning.specs.Meaning.{picture_table}
use Rattle.meaning.specs.NormalTable.{merged_count}
use Rattle.row_sets.specs.Parts.{exists_part_at, merged_at, parts_at, roles_at, successors_at}
use Rattle.row_sets.specs.Rows.{Checked, also, hangs, of_kind, of_role}
use Rattle.row_sets.proofs.PartLaws.{exists_next, exists_none, exists_skip, merged_node, roles_next, roles_none}
use Rattle.row_sets.proofs.RowFilters.{filter_none}
use Rattle.row_sets.proofs.Roots.{merged_root}
use Rattle.merged_count.specs.Bound.{Keyed, Tallied, Weighed, below_key, key_count, share_of, some_of, total}
use Rattle.merged_count.proofs.Totals.{some_passes, total_cover, total_more, total_most, total_none}
use Rattle.merged_count.proofs.Totals.{total_one, total_parts, total_sum, total_times}

both_are : (a b : Bool) → a ≡ true → b ≡ true → (a && b) ≡ true
both_are a b d e = rw (d, e)

-- ---- what hangs from a set: not the first row, and its parent is of the set

later : (j : ℕ) → not (eqb j 0) ≡ true → j ≡ 0 → ⊥
later j e = eqb-false j 0 (not-true (eqb j 0) e)

module _ (s : List ℕ) (q : ℕ → Bool) (j : ℕ) where
  hangs_from : hangs s q j ≡ true → (not (eqb j 0) ≡ true) × (q (parent_of s j) ≡ true)
  unfolding hangs
  hangs_from h = both (not (eqb j 0)) (q (parent_of s j)) h

  hangs_so : not (eqb j 0) ≡ true → q (parent_of s j) ≡ true → hangs s q j ≡ true
  unfolding hangs
  hangs_so d e = both_are (not (eqb j 0)) (q (parent_of s j)) d e

-- ---- sets whose rows have one key

record OneKey (rows : ℕ) (keys : List ℕ) (key : ℕ) (q : ℕ → Bool) : Type 0 where
  same_key : (j : ℕ) → j < rows → q j ≡ true → get_or keys j 0 ≡ key

module _ (s : List ℕ) (rows : ℕ) (keys : List ℕ) where
  -- those that hang by one role
  hung_key : Checked s rows → Keyed s rows keys → (key role : ℕ) (q : ℕ → Bool) → OneKey rows keys key q →
      OneKey rows keys (below_key key role) (of_role s role (hangs s q))
  hung_key checked keyed key role q one = record { same_key = same }
    where
      same : (j : ℕ) → j < rows → of_role s role (hangs s q) j ≡ true → get_or keys j 0 ≡ below_key key role
      same j l e =
          let (r, h) = both (eqb (role_of s j) role) (hangs s q j) e in
          let (n, i) = hangs_from s q j h in
          let above = checked.parents j (later j n) l in
          keyed.key_is j (later j n) l
          ∙ ap (λ k. below_key k (role_of s j)) (one.same_key (parent_of s j) (omega arith) i)
          ∙ ap (below_key key) (eqb-true (role_of s j) role r)

  module _ (key : ℕ) (p : ℕ → Bool) (one : OneKey rows keys key p) (kind : ℕ) where
    kind_key : OneKey rows keys key (of_kind s kind p)
    kind_key = record { same_key = λ j l e. one.same_key j l (both (eqb (kind_of s j) kind) (p j) e).1 }

    also_key : (c : ℕ) → p c ≡ true → OneKey rows keys key (also c (of_kind s kind p))
    also_key c h = record {
      same_key = λ j l e.
          ⊎_elim (λ z. one.same_key j l (subst (λ i. p i ≡ true) (sym (eqb-true j c z)) h))
          (λ z. kind_key.same_key j l z) (either (eqb j c) (of_kind s kind p j) e);
    }

-- the all-successor, if there is one
value_size : (role : ℕ) (h : List ℕ → Tree picture_signature) (v : List ℕ) →
    sizes picture_signature (value_part picture_signature role h v) ≤ size picture_signature (h v)
value_size role h [] = omega arith
value_size role h (a ∷ v) = omega arith

module _ (s : List ℕ) (rows : ℕ) (keys somes below : List ℕ) where
  abbrev share : ℕ → ℕ
  share = share_of s keys somes below

  abbrev weight : ℕ → ℕ
  weight i = get_or below i 0

  -- what hangs from a set at most
  abbrev hung : (ℕ → Bool) → ℕ
  hung q = total (hangs s q) share rows

  abbrev Most : ℕ → (ℕ → Bool) → Type 0
  Most depth q = size picture_signature (merged_at s rows depth q) ≤ 1 + hung q

  module _ (checked : Checked s rows) (keyed : Keyed s rows keys) (tallied : Tallied s rows keys somes)
      (weighed : Weighed s rows keys somes below) where
    -- ---- what hangs from a set is no more than what hangs from its rows

    hung_also : (c : ℕ) (q : ℕ → Bool) → c < rows → hung (also c q) ≤ weight c + hung q
    hung_also c q l =
        omega (
          arith,
          weighed.weight c l,
          total_cover (hangs s (also c q)) (hangs s (λ i. eqb i c)) (hangs s q) share rows
              (λ j b e. part j (hangs_from s (also c q) j e)),
        )
      where
        part : (j : ℕ) → (not (eqb j 0) ≡ true) × (also c q (parent_of s j) ≡ true) →
            (hangs s (λ i. eqb i c) j ≡ true) ⊎ (hangs s q j ≡ true)
        part j (n, e) =
            ⊎_elim (λ h. inl (hangs_so s (λ i. eqb i c) j n h)) (λ h. inr (hangs_so s q j n h))
            (either (eqb (parent_of s j) c) (q (parent_of s j)) e)

    -- of the rows below n
    hung_each : (q : ℕ → Bool) (n : ℕ) → n ≤ rows →
        total (hangs s q) share n ≤ total q (λ i. total (hangs s (λ j. eqb j i)) share n) rows
    hung_each q zero l = omega arith
    hung_each q (suc n) l =
        omega (
          arith,
          hung_each q n (omega arith),
          last (hangs s q n) refl,
          total_sum q (λ i. total (hangs s (λ j. eqb j i)) share n) at_last rows,
        )
      where
        at_last : ℕ → ℕ
        at_last i = pick (hangs s (λ j. eqb j i) n) (share n) 0

        last : (b : Bool) → hangs s q n ≡ b → pick b (share n) 0 ≤ total q at_last rows
        last false e = omega arith
        last true e =
            let parent = parent_of s n in
            let (d, i) = hangs_from s q n e in
            let above = checked.parents n (later n d) (omega arith) in
            let h = hangs_so s (λ j. eqb j parent) n d (eq-eqb parent parent refl) in
            let o = total_one q at_last rows parent (omega arith) i in
            rw h at o

    hung_sum : (q : ℕ → Bool) → hung q ≤ total q weight rows
    hung_sum q =
        omega (
          arith,
          hung_each q rows (omega arith),
          total_more q q (λ i. hung (λ j. eqb j i)) weight rows (λ i l e. (e, omega (arith, weighed.weight i l))),
        )

    -- ---- one role, by which rows p of one key hang

    module _ (depth role key : ℕ) (p : ℕ → Bool) (one : OneKey rows keys key p)
        (rootless : (j : ℕ) → p j ≡ true → not (eqb j 0) ≡ true)
        (most : (t : ℕ → Bool) → OneKey rows keys key t → Most depth t) where
      abbrev all_rows : ℕ → Bool
      all_rows = of_kind s kind_for_all p

      abbrev some_rows : ℕ → Bool
      some_rows = of_kind s kind_exists p

      abbrev count : ℕ
      count = get_or somes key 0

      abbrev Is : ℕ → ℕ → Type 0
      Is kind j = (eqb (kind_of s j) kind ≡ true) × (p j ≡ true)

      kind_is : (kind j : ℕ) → of_kind s kind p j ≡ true → Is kind j
      kind_is kind j e = both (eqb (kind_of s j) kind) (p j) e

      -- all of them are some-rows of the key
      some_count : total some_rows (λ _. 1) rows ≤ count
      some_count =
          total_most some_rows (λ _. 1) rows count
          (λ i l e.
          let k = one.same_key i l (kind_is kind_exists i e).1 in
          omega (
            arith,
            tallied.tally key (subst (λ n. n < key_count) k (keyed.key_below i l)),
            total_more some_rows (some_of s keys key) (λ _. 1) (λ _. 1) rows
                (λ j b h. (of_key j b (kind_is kind_exists j h), omega arith)),
          ))
        where
          of_key : (j : ℕ) → j < rows → Is kind_exists j → some_of s keys key j ≡ true
          of_key j l (k, h) =
              both_are (not (eqb j 0)) _ (rootless j h)
              (both_are (eqb (kind_of s j) kind_exists) _ k (eq-eqb (get_or keys j 0) key (one.same_key j l h)))

      abbrev tree : List ℕ → Tree picture_signature
      tree v = merged picture_signature (picture_table s) depth v

      abbrev value : Forest picture_signature
      value = value_part picture_signature role tree (filter_below all_rows rows)

      value_most : sizes picture_signature value ≤ total all_rows (λ _. 1) rows + hung all_rows
      unfolding merged_at
      value_most =
          ⊎_elim
          (λ w.
          omega (
            arith,
            value_size role tree (filter_below all_rows rows),
            most all_rows (kind_key s rows keys key p one kind_for_all),
            total_one all_rows (λ _. 1) rows w.0 w.1 w.2,
          ))
          (λ none. rw (filter_none all_rows rows none) (omega arith)) (some_passes all_rows rows)

      abbrev upto : ℕ → Forest picture_signature
      upto n = exists_part_at s rows depth role some_rows all_rows n

      exists_most : (n : ℕ) → n ≤ rows →
          sizes picture_signature (upto n)
          ≤ total some_rows (λ c. 1 + weight c) n + total some_rows (λ _. 1) n * hung all_rows
      exists_most zero l = rw (exists_none s rows depth role some_rows all_rows) (omega arith)
      exists_most (suc n) l =
          turn (total some_rows (λ c. 1 + weight c) n) (total some_rows (λ _. 1) n) (exists_most n (omega arith))
          (some_rows n) refl
        where
          turn : (a m : ℕ) → sizes picture_signature (upto n) ≤ a + m * hung all_rows → (b : Bool) → some_rows n ≡ b →
              sizes picture_signature (upto (suc n)) ≤ a + pick b (1 + weight n) 0 + (m + pick b 1 0) * hung all_rows
          turn a m h true e =
              let next : upto (suc n) ≡ _ =
              ap upto (omega arith) ∙ sym (exists_next s rows depth role some_rows all_rows n e) in
              rw next
              (omega (
                arith,
                h,
                sizes_append picture_signature (upto n) (cons exists role (merged_at s rows depth (also n all_rows)) nil),
                most (also n all_rows) (also_key s rows keys key p one kind_for_all n (kind_is kind_exists n e).1),
                hung_also n all_rows l,
              ))
          turn a m h false e =
              let none : (j : ℕ) → n ≤ j → j < suc n → some_rows j ≡ false =
              λ j x y. subst (λ i. some_rows i ≡ false) (omega arith) e in
              rw (← (exists_skip s rows depth role some_rows all_rows n (suc n) (omega arith) none)) (omega arith)

      -- an all-row may stand alone and beside each some-row of its key, a some-row stands once
      shares :
          total all_rows (λ j. 1 + weight j * (1 + count)) rows + total some_rows (λ c. 1 + weight c) rows
          ≤ total p share rows
      shares =
          total_parts all_rows some_rows p (λ j. 1 + weight j * (1 + count)) (λ c. 1 + weight c) share rows
          (λ j l e. of_all j l (kind_is kind_for_all j e)) (λ j l e. of_some j (kind_is kind_exists j e))
        where
          of_all : (j : ℕ) → j < rows → Is kind_for_all j →
              (some_rows j ≡ false) × (p j ≡ true) × (1 + weight j * (1 + count) ≤ share j)
          of_all j l (k, h) =
              let e = eqb-true (kind_of s j) kind_for_all k in
              let other = ne_eqb (kind_of s j) kind_exists (λ z. omega arith) in
              (rw other, h, rw (other, one.same_key j l h) (omega arith))

          of_some : (j : ℕ) → Is kind_exists j → (p j ≡ true) × (1 + weight j ≤ share j)
          of_some j (k, h) = (h, rw k (omega arith))

      parts_most : sizes picture_signature (parts_at s rows depth role p) ≤ total p share rows
      unfolding parts_at
      parts_most =
          let beside = total some_rows (λ _. 1) rows in
          omega (
            arith,
            sizes_append picture_signature value (upto rows),
            value_most,
            exists_most rows (omega arith),
            shares,
            total_times all_rows weight (1 + count) rows,
            mul-le-mul {n₁ = 1 + beside} {n₂ = 1 + count} (omega (arith, some_count)) (hung_sum all_rows),
          )

    -- ---- all roles, and all depths

    module _ (depth key : ℕ) (q : ℕ → Bool) (one : OneKey rows keys key q)
        (most : (k : ℕ) (t : ℕ → Bool) → OneKey rows keys k t → Most depth t) where
      abbrev up_to : ℕ → ℕ → Bool
      up_to n j = ltb (role_of s j) n && hangs s q j

      abbrev by : ℕ → ℕ → Bool
      by n = of_role s n (hangs s q)

      in_next : (n j : ℕ) → role_of s j < suc n → hangs s q j ≡ true → (up_to (suc n) j ≡ true) × (share j ≤ share j)
      in_next n j l h =
          (both_are (ltb (role_of s j) (suc n)) (hangs s q j) (lt-ltb (role_of s j) (suc n) l) h, omega arith)

      role_apart : (n : ℕ) → total (up_to n) share rows + total (by n) share rows ≤ total (up_to (suc n)) share rows
      role_apart n =
          total_parts (up_to n) (by n) (up_to (suc n)) share share share rows
          (λ j l e. before j (both (ltb (role_of s j) n) (hangs s q j) e))
          (λ j l e. here j (both (eqb (role_of s j) n) (hangs s q j) e))
        where
          before : (j : ℕ) → (ltb (role_of s j) n ≡ true) × (hangs s q j ≡ true) →
              (by n j ≡ false) × (up_to (suc n) j ≡ true) × (share j ≤ share j)
          before j (r, h) =
              let l = ltb-true (role_of s j) n r in
              let (i, m) = in_next n j (omega arith) h in
              (rw (ne_eqb (role_of s j) n (λ z. omega arith)), i, m)

          here : (j : ℕ) → (eqb (role_of s j) n ≡ true) × (hangs s q j ≡ true) →
              (up_to (suc n) j ≡ true) × (share j ≤ share j)
          here j (r, h) = let e = eqb-true (role_of s j) n r in in_next n j (omega arith) h

      roles_most : (n : ℕ) → sizes picture_signature (roles_at s rows depth (hangs s q) n) ≤ total (up_to n) share rows
      roles_most zero = rw (roles_none s rows (hangs s q) depth) (omega arith)
      roles_most (suc n) =
          let next : roles_at s rows depth (hangs s q) (suc n) ≡ _ =
          ap (roles_at s rows depth (hangs s q)) (omega arith) ∙ sym (roles_next s rows (hangs s q) depth n) in
          rw next
          (omega (
            arith,
            roles_most n,
            role_apart n,
            sizes_append picture_signature (roles_at s rows depth (hangs s q) n) (parts_at s rows depth n (by n)),
            parts_most depth n (below_key key n) (by n) (hung_key s rows keys checked keyed key n q one)
                (λ j e. (hangs_from s q j (both (eqb (role_of s j) n) (hangs s q j) e).1).0) (most (below_key key n)),
          ))

    merged_most : (depth key : ℕ) (q : ℕ → Bool) → OneKey rows keys key q → Most depth q
    unfolding successors_at
    merged_most zero key q one = rw (merged_node s rows checked q zero) (omega arith)
    merged_most (suc depth) key q one =
        rw (merged_node s rows checked q (suc depth))
        (omega (
          arith,
          roles_most depth key q one (λ k t o. merged_most depth k t o) roles,
          total_more (λ j. ltb (role_of s j) roles && hangs s q j) (hangs s q) share share rows
              (λ j l e. ((both (ltb (role_of s j) roles) (hangs s q j) e).1, omega arith)),
        ))

pub weighed_most : (limits : Limits) (s : List ℕ) (rows : ℕ) (keys somes below : List ℕ) → Checked s rows →
    Keyed s rows keys → Tallied s rows keys somes → Weighed s rows keys somes below →
    merged_count limits s ≤ 1 + get_or below 0 0
unfolding merged_count
weighed_most limits s rows keys somes below checked keyed tallied weighed =
    rw (← (merged_root limits s rows checked.some))
    (omega (
      arith,
      hung_also s rows keys somes below checked keyed tallied weighed 0 empty checked.some,
      merged_most s rows keys somes below checked keyed tallied weighed limits.depth (get_or keys 0 0) (also 0 empty)
          (record { same_key = root }),
      total_none (hangs s empty) (share_of s keys somes below) rows none,
    ))
  where
    empty : ℕ → Bool
    empty j = false

    root : (j : ℕ) → j < rows → also 0 empty j ≡ true → get_or keys j 0 ≡ get_or keys 0 0
    root j l e = ap (λ i. get_or keys i 0) (eqb-true j 0 (sym (or_none (eqb j 0)) ∙ e))

    none : (j : ℕ) → j < rows → hangs s empty j ≡ false
    none j l = refuted (hangs s empty j) (λ h. false≢true (hangs_from s empty j h).1)
