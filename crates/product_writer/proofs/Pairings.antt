-- The pairs of successors of two rows, found in one pass along both: the second's stand still where the first's go on,
-- and go on where they stand before
-- them, so no pair is missed.
--   PairsAt                             the pass is at row c of the first and row e of the second, and the pairs from
--                                       there on are left
--   pairs_start                         before the first turn
--   pairs_paired                        what may be asked of the first row of the second that does not stand before row
--                                       c
--   pairs_over                          there is no such row
--   pairs_next, pairs_full, pairs_end   once row c's pairs are made: within the limit, beyond it; no row is left
--   EachAt                              the pairs of row c: row v of the second and those after it are left
--   each_kept, each_next, each_full     a row by the same edge, and once it is paired
--   each_other, each_end                a row by another edge, or none: no more pairs
use Prim.Native.Nat.{◌-◌, ◌<◌, ◌≤◌, ℕ}
use lib.ListN.{get_or}
use mathlib.Core.List.{List}
use mathlib.Core.Path.{◌∙◌, ◌≡◌, ap, refl, subst, sym}
use native.Mathlib.Omega.{arith}
use Rattle.table.specs.Fields.{kind_of, role_of}
use Rattle.table_rows.specs.declared.builder.Builder.{Builder}
use Rattle.ale.proofs.PairWalks.{KeysFrom, each_on, each_past, key_kind, ordered_keys, pair_forest_walk, pair_walk, picture_equal}
use Rattle.ale.specs.Forest.{append, cons_reduced}
use Rattle.ale.specs.PictureSignature.{picture_signature}
use Rattle.ale.specs.Product.{pair_each, product}
use Rattle.ale.specs.Tree.{Forest, Kind, cons, nil, successors_of}
use Rattle.meaning.specs.Meaning.{kind_at, picture_table}
use Rattle.row_sets.specs.Rows.{LinkedTable}
use Rattle.homomorphism_search.specs.Search.{tree_at}
use Rattle.product_rows.specs.Grown.{Grown, Room}
use Rattle.product_rows.specs.Siblings.{Trim, TrimAll, drop_lower, forest_from, forest_of, key_at, siblings}
use Rattle.product_writer.specs.Tables.{Paired, pairs_below, pairs_from, product_at}
use Rattle.product_rows.specs.Siblings.{Kept}
use Rattle.product_rows.proofs.Copies.{rows_parts, tree_node}
use Rattle.product_rows.proofs.Growth.{Onward, onward_end, onward_full, onward_next, onward_start}
use Rattle.product_rows.proofs.SiblingRows.{Headed, drop_keys, drop_trim, drop_walk, siblings_none, trees_level, trim_below, trim_first, trim_later}

pub walk_nil : (f : Forest picture_signature) → pair_walk picture_signature f nil ≡ nil
walk_nil nil = refl
walk_nil (cons k r c f) = walk_nil f

-- what is asked of a tree is true of its successors
trim_successors : (t : List ℕ) (depth u : ℕ) → Trim (tree_at t depth u) →
    TrimAll (successors_of picture_signature (tree_at t depth u))
trim_successors t depth u a =
    trim_below ((picture_table t).label u) (successors_of picture_signature (tree_at t depth u))
    (subst Trim (tree_node t depth u) a)

-- a row and those after it, in order: the row, those after it, and where they stand
module _ {t : List ℕ} {rows from c next : ℕ} (head : Headed t rows from c next) (depth : ℕ)
    (trim : TrimAll (forest_from t rows depth from)) where
  abbrev kind : Kind
  kind = kind_at (kind_of t c)

  parts : forest_from t rows depth from ≡ cons kind (role_of t c) (tree_at t depth c) (forest_from t rows depth next)
  parts = rows_parts head depth

  row_kept : Kept (kind_at (kind_of t c)) (tree_at t depth c)
  row_kept = trim_first kind (role_of t c) (tree_at t depth c) (forest_from t rows depth next)
      (subst TrimAll parts trim)

  later_trim : TrimAll (forest_from t rows depth next)
  later_trim = trim_later kind (role_of t c) (tree_at t depth c) (forest_from t rows depth next)
      (subst TrimAll parts trim)

  row_keys : KeysFrom picture_signature (key_at t c) (forest_from t rows depth from)
  unfolding key_at
  row_keys =
      subst (λ f. KeysFrom picture_signature (key_at t c) f) (sym parts)
      (ordered_keys picture_signature kind (role_of t c) (tree_at t depth c) (forest_from t rows depth next)
      (subst TrimAll parts trim).ordered)

  later_keys : (n : ℕ) → KeysFrom picture_signature n (forest_from t rows depth from) →
      KeysFrom picture_signature n (forest_from t rows depth next)
  later_keys n keys = (subst (λ f. KeysFrom picture_signature n f) parts keys).1

  row_key : (n : ℕ) → KeysFrom picture_signature n (forest_from t rows depth from) → n ≤ key_at t c
  unfolding key_at
  row_key n keys = (subst (λ f. KeysFrom picture_signature n f) parts keys).0

module _ (s t : List ℕ) (m depth limit parent : ℕ) (start : Builder) (first : List ℕ)
    (whole : Forest picture_signature) where
  pub record PairsAt (n c e : ℕ) (grown : Builder) (out : List ℕ) : Type 0 where
    pub first_trim : TrimAll (forest_from s n depth c)
    pub second_trim : TrimAll (forest_from t m depth e)
    pub onward :
        Onward limit parent start first whole (pair_walk picture_signature (forest_from s n depth c)
        (forest_from t m depth e)) grown out

  pub record EachAt (c v : ℕ) (grown : Builder) (out : List ℕ) : Type 0 where
    pub trim : TrimAll (forest_from t m depth v)
    pub from : KeysFrom picture_signature (key_at s c) (forest_from t m depth v)
    pub onward : Onward limit parent start first whole (pairs_from s t m depth c v) grown out

module _ {s t : List ℕ} {m depth limit parent : ℕ} {start : Builder} {first : List ℕ}
    {whole : Forest picture_signature} where
  -- ---- one row after the other

  pub pairs_end : {n c e : ℕ} {grown : Builder} {out : List ℕ} →
      PairsAt s t m depth limit parent start first whole n c e grown out → c ≡ 0 →
      Grown limit parent start first whole grown out
  pairs_end {n} {c} {e} at z =
      onward_end (ap (λ es. pair_walk picture_signature (forest_of s depth es) (forest_from t m depth e))
      (siblings_none s n c z)) at.onward

  module _ {n from e : ℕ} {grown : Builder} {out : List ℕ}
      (at : PairsAt s t m depth limit parent start first whole n from e grown out) {c next : ℕ}
      (head : Headed s n from c next) {key : ℕ} (is : key ≡ key_at s c) (v : ℕ)
      (sought : siblings t m v ≡ drop_lower t key (siblings t m e)) where
    keys : KeysFrom picture_signature key (forest_from s n depth from)
    keys = subst (λ k. KeysFrom picture_signature k (forest_from s n depth from)) (sym is)
        (row_keys head depth at.first_trim)

    left_is : forest_of t depth (drop_lower t key (siblings t m e)) ≡ forest_from t m depth v
    left_is = ap (forest_of t depth) (sym sought)

    left_trim : TrimAll (forest_from t m depth v)
    left_trim = subst TrimAll left_is (drop_trim t key depth (siblings t m e) at.second_trim)

    sought_onward : Onward limit parent start first whole (pair_walk picture_signature (forest_from s n depth from)
        (forest_from t m depth v)) grown out
    sought_onward =
        subst (λ f. Onward limit parent start first whole f grown out)
        (drop_walk t key depth (forest_from s n depth from) keys (siblings t m e)
        ∙ ap (pair_walk picture_signature (forest_from s n depth from)) left_is)
        at.onward

    pub pairs_paired : Paired s t m depth c v
    pairs_paired = record {
      first_kept = row_kept head depth at.first_trim;
      second_trim = left_trim;
      onward = subst (λ k. KeysFrom picture_signature k (forest_from t m depth v)) is
          (subst (λ f. KeysFrom picture_signature key f) left_is
          (drop_keys t key depth (siblings t m e) at.second_trim));
    }

    walk_parts : pair_walk picture_signature (forest_from s n depth from) (forest_from t m depth v)
        ≡ append picture_signature (pairs_from s t m depth c v)
        (pair_walk picture_signature (forest_from s n depth next) (forest_from t m depth v))
    unfolding pairs_from
    walk_parts = ap (λ f. pair_walk picture_signature f (forest_from t m depth v)) (parts head depth at.first_trim)

    module _ {r : Builder} {end : List ℕ} (more : Grown limit parent grown out (pairs_from s t m depth c v) r end) where
      pub pairs_next : r.rows ≤ limit → PairsAt s t m depth limit parent start first whole n next v r end
      pairs_next within = record {
        first_trim = later_trim head depth at.first_trim;
        second_trim = left_trim;
        onward = onward_next _ walk_parts sought_onward more within;
      }

      pub pairs_full : limit < r.rows → Grown limit parent start first whole r end
      pairs_full over = onward_full _ walk_parts sought_onward more over

    pub pairs_over : v ≡ 0 → Grown limit parent start first whole grown out
    pairs_over z =
        onward_end
        (ap (λ es. pair_walk picture_signature (forest_from s n depth from) (forest_of t depth es))
        (siblings_none t m v z)
        ∙ walk_nil (forest_from s n depth from))
        sought_onward

  -- ---- the pairs of row c

  module _ {c : ℕ} where
    pub each_end : {v : ℕ} {grown : Builder} {out : List ℕ} →
        EachAt s t m depth limit parent start first whole c v grown out → v ≡ 0 →
        Grown limit parent start first whole grown out
    unfolding pairs_from
    each_end {v} at z =
        onward_end (ap (λ es. pair_each picture_signature (kind_at (kind_of s c)) (role_of s c)
        (product picture_signature (tree_at s depth c)) (forest_of t depth es)) (siblings_none t m v z)) at.onward

    module _ {from : ℕ} {grown : Builder} {out : List ℕ}
        (at : EachAt s t m depth limit parent start first whole c from grown out) {v next : ℕ}
        (head : Headed t m from v next) where
      -- row v stands later: so do those after it
      pub each_other : (key_at t v ≡ key_at s c → ⊥) → Grown limit parent start first whole grown out
      unfolding pairs_from key_at
      each_other apart =
          onward_end
          (each_past picture_signature picture_equal (kind_at (kind_of s c)) (role_of s c)
          (product picture_signature (tree_at s depth c)) (key_at t v) (forest_from t m depth from)
          (omega (arith, row_key head depth at.trim (key_at s c) at.from))
          (row_keys head depth at.trim))
          at.onward

      module _ (same : key_at t v ≡ key_at s c) where
        pub each_kept : Kept (kind_at (kind_of s c)) (tree_at t depth v)
        unfolding key_at
        each_kept =
            subst (λ k. Kept k (tree_at t depth v)) (key_kind (kind_at (kind_of t v)) (role_of t v)
            (kind_at (kind_of s c)) (role_of s c) same)
            (row_kept head depth at.trim)

        abbrev pair : Forest picture_signature
        pair = cons_reduced picture_signature (kind_at (kind_of s c)) (role_of s c) (product_at s t depth c v) nil

        each_parts : pairs_from s t m depth c from ≡ append picture_signature pair (pairs_from s t m depth c next)
        unfolding pairs_from key_at product_at
        each_parts =
            ap (pair_each picture_signature (kind_at (kind_of s c)) (role_of s c)
            (product picture_signature (tree_at s depth c))) (parts head depth at.trim)
            ∙ each_on picture_signature picture_equal (kind_at (kind_of s c)) (role_of s c)
            (product picture_signature (tree_at s depth c)) (kind_at (kind_of t v)) (role_of t v) (tree_at t depth v)
            (forest_from t m depth next) (sym same)

        module _ {r : Builder} {end : List ℕ} (more : Grown limit parent grown out pair r end) where
          pub each_next : r.rows ≤ limit → EachAt s t m depth limit parent start first whole c next r end
          each_next within = record {
            trim = later_trim head depth at.trim;
            from = later_keys head depth at.trim (key_at s c) at.from;
            onward = onward_next _ each_parts at.onward more within;
          }

          pub each_full : limit < r.rows → Grown limit parent start first whole r end
          each_full over = onward_full _ each_parts at.onward more over

-- before the first turn: role by role is row by row
module _ {s t links others : List ℕ} {n m : ℕ} (one : LinkedTable s n links) (other : LinkedTable t m others)
    {depth limit parent u w : ℕ} {start : Builder}
    {first : List ℕ} where
  pub pairs_start : u < n → w < m → Trim (tree_at s depth u) → Trim (tree_at t depth w) → Room limit start first →
      0 < start.rows → (depth ≡ 0 → ⊥) →
      {c e : ℕ} → c ≡ get_or links u 0 → e ≡ get_or others w 0 →
      PairsAt s t m (depth - 1) limit parent start first (pairs_below s t depth u w) n c e start first
  unfolding pairs_below
  pairs_start l k trim other-trim room some deep {c} {e} c-is e-is =
      let f = trees_level s depth u one l c c-is deep in
      let g = trees_level t depth w other k e e-is deep in
      let f-trim = trim_successors s depth u trim in
      record {
        first_trim = subst TrimAll f f-trim;
        second_trim = subst TrimAll g (trim_successors t depth w other-trim);
        onward = onward_start room some
            (pair_forest_walk picture_signature picture_equal (successors_of picture_signature (tree_at s depth u))
            (successors_of picture_signature (tree_at t depth w))
            f-trim.ordered f-trim.known
            ∙ ap (λ x. pair_walk picture_signature x (successors_of picture_signature (tree_at t depth w))) f
            ∙ ap (pair_walk picture_signature (forest_from s n (depth - 1) c)) g);
      }
