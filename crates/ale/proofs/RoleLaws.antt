-- The roles of a table are those of its tree: if the one has only known roles, so has the other.
--   EachRow             a fact of every row of a list
--   append_each, row_at lists one after the other; the row at a place
--   KnownRows           every row of a list has a known role
--   rows_known          such a list is a table of known roles
--   encoded_known       a tree of known roles, encoded, is a table of known roles
--   tree_of_roles_known   the tree of a row of such a table has known roles
--   roles_known_append   forests of known roles, one after the other
use Prim.Native.Nat.{◌+◌, ◌<◌, suc, zero, ℕ}
use lib.Dec.{T}
use mathlib.Core.List.{List, [], ◌++◌, ◌∷◌}
use native.Mathlib.Omega.{arith}
use lib.ListN.{get_or, length}
use Rattle.ale.specs.Encoding.{Row, encode, encode_forest, encode_tree, encoded, no_row, table_of}
use Rattle.ale.specs.Forest.{append}
use Rattle.ale.specs.Rows.{filter_below, member}
use Rattle.ale.specs.Signature.{Signature}
use Rattle.ale.specs.Table.{KnownRoles, Table, successor_of, successors, tree_of}
use Rattle.ale.specs.Tree.{Forest, Kind, RolesKnown, RolesKnownAll, Tree, cons, exists, nil, node, size}
use Rattle.ale.proofs.RowLists.{filter_below_out, member_head, member_tail}

module _ (S : Signature) where
  module _ (P : Row S → Type 0) where
    abbrev pub EachRow : List (Row S) → Type 0
    EachRow [] = Unit
    EachRow (w ∷ s) = P w × EachRow s

    pub append_each : (s t : List (Row S)) → EachRow s → EachRow t → EachRow (s ++ t)
    append_each [] t a b = b
    append_each (w ∷ s) t a b = (a.0, append_each s t a.1 b)

    pub row_at : (s : List (Row S)) → EachRow s → (i : ℕ) → i < length s → P (get_or s i (no_row S))
    row_at [] a i l = absurd (omega arith)
    row_at (w ∷ s) a zero l = a.0
    row_at (w ∷ s) a (suc i) l = row_at s a.1 i (omega arith)

  abbrev pub KnownRow : Row S → Type 0
  KnownRow w = w.role < S.roles

  abbrev pub KnownRows : List (Row S) → Type 0
  KnownRows s = EachRow KnownRow s

  pub rows_known : (s : List (Row S)) → KnownRows s → KnownRoles S (table_of S s)
  rows_known = row_at KnownRow

  mutual
    encode_tree_known : (t : Tree S) (p : ℕ) (k : Kind) (r o : ℕ) → r < S.roles → RolesKnown S t → KnownRows (encode_tree S t p k r o)
    encode_tree_known (node l f) p k r o b w = (b, encode_forest_known f o (suc o) w)

    encode_forest_known : (f : Forest S) (p o : ℕ) → RolesKnownAll S f → KnownRows (encode_forest S f p o)
    encode_forest_known nil p o w = tt
    encode_forest_known (cons k r t f) p o w =
        let e = o + size S t in
        append_each KnownRow (encode_tree S t p k r o) (encode_forest S f p e) (encode_tree_known t p k r o w.0 w.1) (encode_forest_known f p e w.2)

  pub encoded_known : 0 < S.roles → (t : Tree S) → RolesKnown S t → KnownRoles S (encoded S t)
  encoded_known z t w = rows_known (encode S t) (encode_tree_known t 0 exists 0 0 z w)

  pub tree_of_roles_known : (p : Table S) → KnownRoles S p → (n i : ℕ) → RolesKnown S (tree_of S p n i)
  tree_of_roles_known p k zero i = tt
  tree_of_roles_known p k (suc n) i =
      let q = successor_of S p i in
      successors_known (filter_below q p.rows) (λ j m. (filter_below_out q p.rows j m).1) (λ j. tree_of_roles_known p k n j)
    where
      successors_known : (s : List ℕ) → ((j : ℕ) → T (member j s) → j < p.rows) → ((j : ℕ) → RolesKnown S (tree_of S p n j)) →
          RolesKnownAll S (successors S p (λ j. tree_of S p n j) s)
      successors_known [] h ih = tt
      successors_known (j ∷ s) h ih = (k j (h j (member_head j s)), ih j, successors_known s (λ i m. h i (member_tail i j s m)) ih)

  pub roles_known_append : (f g : Forest S) → RolesKnownAll S f → RolesKnownAll S g → RolesKnownAll S (append S f g)
  roles_known_append nil g a b = b
  roles_known_append (cons k r t f) g a b = (a.0, a.1, roles_known_append f g a.2 b)
