-- The canonical model of a row, as it is written: an individual, and then those of the some-successors one after the other.
--   canonical_rows                       those of a list of rows
--   canonical_tree_is                      the model of a row is an individual with its wanted names, and what hangs from it
--   canonical_leaf, canonical_level     nothing at depth 0; else those of the rows that hang from it
--   canonical_split                     of a row and others: of the row, and then of the others
--   canonical_some, canonical_all_is       of one row: its model if it is a some-successor, else nothing
--   canonical_here                      there is room for the individual
--   canonical_room, canonical_written   once it is written there is room for what hangs from it, and when that is written as well, all is
--   canonical_none                      at depth 0 all is written before the walk
--   canonical_start, canonical_turn,
--   canonical_next, canonical_skip,
--   canonical_end                       the walk along the rows: before it, room for one more, once that is written, past one, and at the end
use Prim.Native.Nat.{◌+◌, ◌-◌, ◌<◌, ◌≤◌, suc, zero, ℕ}
use lib.ListN.{get_or, length}
use mathlib.Core.List.{List, [], ◌∷◌, append-nil}
use mathlib.Core.Path.{◌∙◌, ◌≡◌, ap, refl, subst, sym}
use native.Mathlib.Omega.{arith}
use Rattle.ale.specs.Countermodel.{canonical, canonical_all, individual}
use Rattle.ale.specs.Forest.{append}
use Rattle.ale.specs.PictureSignature.{picture_signature}
use Rattle.ale.specs.Table.{successor_rows, successors}
use Rattle.ale.specs.Tree.{Forest, Kind, Tree, cons, exists, forAll, nil}
use Rattle.homomorphism_search.proofs.Labels.{Read, low_same}
use Rattle.homomorphism_search.specs.Search.{tree_at}
use Rattle.meaning.specs.Meaning.{picture_table, set_at}
use Rattle.row_sets.specs.Rows.{Checked}
use Rattle.row_sets.specs.declared.linked.Table.{Table}
use Rattle.table.specs.Bounds.{max_rows}
use Rattle.table.specs.Fields.{kind_of, role_of, wanted_of}
use Rattle.table.specs.Layout.{kind_exists}
use Rattle.table.specs.Put.{put}
use Rattle.countermodel.specs.Layout.{individual_place, individual_size, most_individuals}
use Rattle.refutation_writer.specs.Refuting.{canonical_below, canonical_tree, reached_all, reached_tree}
use Rattle.countermodel.specs.Writing.{individual_bytes}
use Rattle.refutation_writer.specs.Writing.{Room, Written}
use Rattle.refutation_writer.proofs.Walks.{Split, WalkAt, walk_end, walk_next, walk_room, walk_start}
use Rattle.refutation_writer.proofs.Writings.{room_here, room_node, room_same, written_node, written_none, written_same}

unfoldable pub canonical_rows : List ℕ → ℕ → List ℕ → Forest picture_signature
canonical_rows s depth vs = canonical_all picture_signature (successors picture_signature (picture_table s) (tree_at s depth) vs)

module _ (s : List ℕ) where
  pub canonical_tree_is : (depth u : ℕ) →
      canonical_tree s depth u ≡ individual picture_signature (set_at (wanted_of s u)) (canonical_below s depth u)
  unfolding canonical_tree canonical_below
  canonical_tree_is zero u = refl
  canonical_tree_is (suc depth) u = refl

  pub canonical_leaf : (depth u : ℕ) → depth ≡ 0 → canonical_below s depth u ≡ nil
  unfolding canonical_below
  canonical_leaf depth u z = rw z

  pub canonical_level : (depth u : ℕ) → (depth ≡ 0 → ⊥) →
      canonical_below s depth u ≡ canonical_rows s (depth - 1) (successor_rows picture_signature (picture_table s) u)
  unfolding canonical_below canonical_rows
  canonical_level depth u z =
      let e : depth ≡ suc (depth - 1) = omega arith in
      let last : suc (depth - 1) - 1 ≡ depth - 1 = omega arith in
      rw (e, last)

  module _ (depth : ℕ) where
    first_part : (k : Kind) (r : ℕ) (t : Tree picture_signature) (f : Forest picture_signature) →
        canonical_all picture_signature (cons k r t f)
        ≡ append picture_signature (canonical_all picture_signature (cons k r t nil)) (canonical_all picture_signature f)
    first_part exists r t f = refl
    first_part forAll r t f = refl

    pub canonical_split : Split (canonical_rows s depth)
    unfolding canonical_rows
    canonical_split =
        record {
          none = refl;
          first = λ v vs.
              first_part ((picture_table s).kind v) ((picture_table s).role v) (tree_at s depth v)
              (successors picture_signature (picture_table s) (tree_at s depth) vs);
        }

    pub canonical_some : (v parent k : ℕ) → kind_of s v ≡ kind_exists →
        reached_all (canonical_rows s depth (v ∷ [])) parent k ≡ reached_tree (canonical_tree s depth v) parent (role_of s v) k
    unfolding canonical_rows canonical_tree
    canonical_some v parent k e = rw e (append-nil (reached_tree (canonical picture_signature (tree_at s depth v)) parent (role_of s v) k))

    pub canonical_all_is : (rows v : ℕ) → Checked s rows → (v ≡ 0 → ⊥) → v < rows → (kind_of s v ≡ kind_exists → ⊥) → canonical_rows s depth (v ∷ []) ≡ nil
    unfolding canonical_rows
    canonical_all_is rows v checked z l other = rw (checked.kinds v z l other)

-- ---- one individual, and what hangs from it

module _ (s : List ℕ) (depth u : ℕ) (out : List ℕ) (k parent role : ℕ) (room : Room out k (reached_tree (canonical_tree s depth u) parent role k)) where
  tree_is : reached_tree (canonical_tree s depth u) parent role k
      ≡ reached_tree (individual picture_signature (set_at (wanted_of s u)) (canonical_below s depth u)) parent role k
  tree_is = ap (λ t. reached_tree t parent role k) (canonical_tree_is s depth u)

  node_room : Room out k (reached_tree (individual picture_signature (set_at (wanted_of s u)) (canonical_below s depth u)) parent role k)
  node_room = room_same out k _ _ tree_is room

  pub canonical_here : (k < most_individuals) × (individual_place k individual_size ≤ length out)
  canonical_here = room_here out k _ _ node_room

  module _ (mid : List ℕ) (names : ℕ) (read : Read names (wanted_of s u))
      (here : mid ≡ put out (individual_place k 0) (individual_bytes parent role names)) where
    here_is : mid ≡ put out (individual_place k 0) (individual_bytes parent role (set_at (wanted_of s u)).set)
    here_is = here ∙ ap (λ n. put out (individual_place k 0) (individual_bytes parent role n)) (sym (low_same names (wanted_of s u) read))

    pub canonical_room : Room mid (k + 1) (reached_all (canonical_below s depth u) k (k + 1))
    canonical_room = room_node out k parent role (set_at (wanted_of s u)) (canonical_below s depth u) node_room mid here_is

    pub canonical_written : (b : ℕ) (end : List ℕ) → Written mid (k + 1) (reached_all (canonical_below s depth u) k (k + 1)) b end →
        Written out k (reached_tree (canonical_tree s depth u) parent role k) b end
    canonical_written b end rest =
        written_same out k _ _ b end (sym tree_is)
        (written_node out k parent role (set_at (wanted_of s u)) (canonical_below s depth u) node_room mid here_is b end rest)

-- ---- along the rows that hang from row u

pub canonical_none : (s : List ℕ) (depth u parent : ℕ) (out : List ℕ) (k : ℕ) → depth ≡ 0 →
    Written out k (reached_all (canonical_below s depth u) parent k) k out
canonical_none s depth u parent out k z =
    written_same out k _ _ k out (ap (λ f. reached_all f parent k) (sym (canonical_leaf s depth u z))) (written_none out k)

module _ (t : Table) {depth : ℕ} (deep : depth ≡ 0 → ⊥) where
  below_is : (u parent k : ℕ) → reached_all (canonical_below t.bytes.now depth u) parent k
      ≡ reached_all (canonical_rows t.bytes.now (depth - 1) (successor_rows picture_signature (picture_table t.bytes.now) u)) parent k
  below_is u parent k = ap (λ f. reached_all f parent k) (canonical_level t.bytes.now depth u deep)

  pub canonical_start : {u parent : ℕ} {start : List ℕ} {k v : ℕ} → u < t.rows → v ≡ get_or t.links.now u 0 → Room start k (reached_all (canonical_below t.bytes.now depth u) parent k) →
      WalkAt (canonical_rows t.bytes.now (depth - 1)) t.bytes.now t.rows u parent start k k start v
  canonical_start {u} {parent} {start} {k} l e room =
      walk_start (canonical_split t.bytes.now (depth - 1)) t l e (room_same start k _ _ (below_is u parent k) room)

  module _ {u parent : ℕ} {start : List ℕ} {k v next : ℕ} {out : List ℕ} (z : v ≡ 0 → ⊥)
      (at : WalkAt (canonical_rows t.bytes.now (depth - 1)) t.bytes.now t.rows u parent start k next out v)
      {kind : ℕ} (kind_is : kind ≡ kind_of t.bytes.now v) where
    pub canonical_turn : {role : ℕ} → role ≡ role_of t.bytes.now v → kind ≡ kind_exists →
        Room out next (reached_tree (canonical_tree t.bytes.now (depth - 1) v) parent role next)
    canonical_turn e some =
        rw e
        (room_same out next _ _ (canonical_some t.bytes.now (depth - 1) v parent next (sym kind_is ∙ some))
        (walk_room (canonical_split t.bytes.now (depth - 1)) t z at))

    pub canonical_next : {w role a : ℕ} {mid : List ℕ} → w ≡ get_or t.links.now (max_rows + v) 0 → role ≡ role_of t.bytes.now v → kind ≡ kind_exists →
        Written out next (reached_tree (canonical_tree t.bytes.now (depth - 1) v) parent role next) a mid →
        WalkAt (canonical_rows t.bytes.now (depth - 1)) t.bytes.now t.rows u parent start k a mid w
    canonical_next {a = a} {mid = mid} e by some one =
        walk_next (canonical_split t.bytes.now (depth - 1)) t z at e
        (written_same out next _ _ a mid (sym (canonical_some t.bytes.now (depth - 1) v parent next (sym kind_is ∙ some)))
        (subst (λ r. Written out next (reached_tree (canonical_tree t.bytes.now (depth - 1) v) parent r next) a mid) by one))

    pub canonical_skip : {w : ℕ} → w ≡ get_or t.links.now (max_rows + v) 0 → (kind ≡ kind_exists → ⊥) →
        WalkAt (canonical_rows t.bytes.now (depth - 1)) t.bytes.now t.rows u parent start k next out w
    canonical_skip e other =
        let none = canonical_all_is t.bytes.now (depth - 1) t.rows v t.linked.checked z (at.on z).0 (λ h. other (kind_is ∙ h)) in
        walk_next (canonical_split t.bytes.now (depth - 1)) t z at e
        (written_same out next _ _ next out (ap (λ f. reached_all f parent next) (sym none)) (written_none out next))

  pub canonical_end : {u parent : ℕ} {start : List ℕ} {k v next : ℕ} {out : List ℕ} → v ≡ 0 → WalkAt (canonical_rows t.bytes.now (depth - 1)) t.bytes.now t.rows u parent start k next out v →
      Written start k (reached_all (canonical_below t.bytes.now depth u) parent k) next out
  canonical_end {u} {parent} {start} {k} {next = next} {out = out} z at =
      written_same start k _ _ next out (sym (below_is u parent k)) (walk_end (canonical_split t.bytes.now (depth - 1)) t z at)
