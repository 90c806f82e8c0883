-- The refutation is written depth first, along links: one individual and what hangs from it, one successor and the others, one turn of each loop.
--   widened_none                                           of ⊤, an individual has the names that are excluded
--   tree_room, tree_written, forest_room, forest_written   the same tree, the same successors
--   tree_here                                              there is room for the individual of a tree
--   Begun                                                  it is written: there is room for what hangs from it, and once that is written all is
--   leaf_written                                           nothing hangs from it
--   begun_lacks, begun_holds, begun_below                  the individual of row u, against row w
--   begun_top_lacks, begun_top_holds, begun_top            that of ⊤
--   edge_room, edges_room, edges_written, edge_written     a successor, and then the others; one successor alone
--   is_value, value_start                                  the search for the all-successor of a role, before its first turn
--   realized_start, realized_end                           before and after the walk along the some-successors (Walks)
--   refutation_room, refutation_end                        the whole file
use Prim.Native.Nat.{◌+◌, ◌<◌, ◌^◌, ◌≤◌, suc, ℕ}
use borrow.Author.Tests.{lt-ltb}
use lib.Dec.{eqb}
use lib.ListN.{get_or, length, length-append}
use mathlib.Core.Bool.{Bool, ◌&&◌, false, true}
use mathlib.Core.List.{List, [], ◌++◌, ◌∷◌}
use mathlib.Core.Path.{◌∙◌, ◌≡◌, ap, refl, subst, sym}
use native.Mathlib.Omega.{arith}
use Rattle.ale.proofs.Encodings.{encode_tree_length}
use Rattle.row_sets.proofs.LinkLists.{child_of}
use Rattle.ale.specs.Countermodel.{individual, widened}
use Rattle.ale.specs.Encoding.{encode}
use Rattle.ale.specs.PictureSignature.{NameSet, picture_signature}
use Rattle.ale.specs.Tree.{Forest, Tree, cons, empty_label, exists, nil, node, size}
use Rattle.homomorphism_search.proofs.Labels.{Read, low_same}
use Rattle.meaning.specs.Meaning.{label_at, picture_table, set_at}
use Rattle.table.proofs.Bools.{by_test}
use Rattle.table.proofs.NameSets.{has_below, has_complement, has_intersection, has_none, has_union, set_ext}
use Rattle.table.proofs.Puts.{put_put}
use Rattle.table.specs.Fields.{end_bytes, excluded_of, kind_of, parent_of, role_of, wanted_of}
use Rattle.table.specs.Layout.{end_size, kind_for_all, name_count}
use Rattle.table.specs.NameSet.{complement, has, intersection, none, subset, union}
use Rattle.table.specs.Number.{be_bytes}
use Rattle.table.specs.Put.{put}
use Rattle.countermodel.specs.Layout.{individual_place, individual_size, most_individuals}
use Rattle.refutation_writer.specs.Refuting.{against_top, against_tree, canonical_below, falsified_below, first_value, reached_all, reached_tree, realized_below, realized_rows, value_row, wanted_within}
use Rattle.countermodel.specs.Writing.{individual_bytes, individuals_of, refutation_file}
use Rattle.refutation_writer.specs.Writing.{RefutationRoom, Room, Written}
use Rattle.homomorphism_search.proofs.Walks as search
use Rattle.homomorphism_search.proofs.Walks.{first_of}
use Rattle.row_sets.specs.declared.linked.Table.{Table}
use Rattle.ale.specs.Rows.{filter_below}
use Rattle.ale.specs.Table.{successor_rows}
use Rattle.refutation_writer.proofs.Refutings.{against_below, against_holds, against_lacks, realized_split, top_below, top_holds, top_lacks, below_top}
use Rattle.refutation_writer.proofs.Walks.{WalkAt, walk_end, walk_start}
use Rattle.countermodel.proofs.Writings.{length_individuals}
use Rattle.refutation_writer.proofs.Writings.{room_here, room_left, room_node, room_right, room_same, written_append, written_node, written_none, written_same}

-- ---- nothing is wanted and nothing excluded of ⊤

widened_none : (a : ℕ) → a < 2 ^ name_count → intersection (union none a) (complement none) ≡ a
widened_none a l =
    set_ext (intersection (union none a) (complement none)) a (λ n.
    has_intersection (union none a) (complement none) n
    ∙ rw (has_union none a n, has_complement none n (omega arith), has_none n) (by_test (has a n)
    (λ e. rw (e, lt-ltb n name_count (has_below a n l e)))
    (λ e. rw e)))

-- ---- the same individuals

module _ {x y : Tree picture_signature} (e : x ≡ y) {role by : ℕ} (same : role ≡ by) (parent : ℕ) {out : List ℕ} {k : ℕ} where
  pub tree_room : Room out k (reached_tree x parent role k) → Room out k (reached_tree y parent by k)
  tree_room room = subst (λ t. Room out k (reached_tree t parent by k)) e (subst (λ r. Room out k (reached_tree x parent r k)) same room)

  pub tree_written : {a : ℕ} {end : List ℕ} → Written out k (reached_tree y parent by k) a end → Written out k (reached_tree x parent role k) a end
  tree_written {a} {end} w =
      subst (λ r. Written out k (reached_tree x parent r k) a end) (sym same) (subst (λ t. Written out k (reached_tree t parent by k) a end) (sym e) w)

module _ {f g : Forest picture_signature} (e : f ≡ g) (parent : ℕ) {out : List ℕ} {k : ℕ} where
  pub forest_room : Room out k (reached_all f parent k) → Room out k (reached_all g parent k)
  forest_room room = subst (λ h. Room out k (reached_all h parent k)) e room

  pub forest_written : {a : ℕ} {end : List ℕ} → Written out k (reached_all g parent k) a end → Written out k (reached_all f parent k) a end
  forest_written {a} {end} w = subst (λ h. Written out k (reached_all h parent k) a end) (sym e) w

-- ---- an individual, and then what hangs from it

pub tree_here : (x : Tree picture_signature) (parent role : ℕ) {out : List ℕ} {k : ℕ} → Room out k (reached_tree x parent role k) →
    (k < most_individuals) × (individual_place k individual_size ≤ length out)
tree_here (node l f) parent role {out} {k} room =
    room_here out k (record { parent = parent; kind = exists; role = role; label = l }) (reached_all f k (suc k)) room

-- individual k is written, and f is what hangs from it
pub record Begun (out : List ℕ) (k parent role : ℕ) (x : Tree picture_signature) (mid : List ℕ) (f : Forest picture_signature) : Type 0 where
  pub room : Room mid (k + 1) (reached_all f k (k + 1))
  pub written : (b : ℕ) (end : List ℕ) → Written mid (k + 1) (reached_all f k (k + 1)) b end → Written out k (reached_tree x parent role k) b end

begun : (out : List ℕ) (k parent role : ℕ) (x : Tree picture_signature) (names : NameSet) (f : Forest picture_signature) →
    x ≡ individual picture_signature names f → Room out k (reached_tree x parent role k) → (set : ℕ) → names.set ≡ set →
    (mid : List ℕ) → mid ≡ put out (individual_place k 0) (individual_bytes parent role set) → Begun out k parent role x mid f
begun out k parent role x names f is room set same mid here =
    let whole = tree_room is refl parent room in
    let stands : mid ≡ put out (individual_place k 0) (individual_bytes parent role names.set) =
    here ∙ ap (λ n. put out (individual_place k 0) (individual_bytes parent role n)) (sym same) in
    record {
      room = room_node out k parent role names f whole mid stands;
      written = λ b end rest. tree_written is refl parent (written_node out k parent role names f whole mid stands b end rest);
    }

pub leaf_written : {x : Tree picture_signature} {f : Forest picture_signature} {out : List ℕ} {k parent role : ℕ} {mid : List ℕ} →
    Begun out k parent role x mid f → f ≡ nil → Written out k (reached_tree x parent role k) (k + 1) mid
leaf_written {k = k} {mid = mid} first ends = first.written (k + 1) mid (forest_written ends k (written_none mid (k + 1)))

module _ (s t : List ℕ) (d w u parent role : ℕ) {out : List ℕ} {k : ℕ} (room : Room out k (reached_tree (against_tree s t d w u) parent role k)) {mid : List ℕ}
    {has : ℕ} (has-is : Read has (wanted_of s u)) {r : Bool} (is : r ≡ wanted_within t w has) where
  pub begun_lacks : r ≡ false → mid ≡ put out (individual_place k 0) (individual_bytes parent role has) →
      Begun out k parent role (against_tree s t d w u) mid (canonical_below s d u)
  begun_lacks h here =
      begun out k parent role (against_tree s t d w u) (set_at (wanted_of s u)) (canonical_below s d u)
      (against_lacks s t d w u has has-is r is h) room has (low_same has (wanted_of s u) has-is) mid here

  module _ (h : r ≡ true) {lacks excludes : ℕ} (lacks-is : Read lacks (excluded_of s u)) (excludes-is : Read excludes (excluded_of t w)) {q : Bool}
      (at : q ≡ subset excludes lacks) where
    pub begun_holds : q ≡ false → {set : ℕ} → set ≡ intersection (union has excludes) (complement lacks) →
        mid ≡ put out (individual_place k 0) (individual_bytes parent role set) →
        Begun out k parent role (against_tree s t d w u) mid (canonical_below s d u)
    begun_holds g {set} set_is here =
        begun out k parent role (against_tree s t d w u) (widened picture_signature (label_at t w) (label_at s u)) (canonical_below s d u)
        (against_holds s t d w u has has-is r is h lacks excludes lacks-is excludes-is q at g) room set
        (rw (low_same has (wanted_of s u) has-is, low_same excludes (excluded_of t w) excludes-is, low_same lacks (excluded_of s u) lacks-is) (sym set_is)) mid here

    pub begun_below : q ≡ true → mid ≡ put out (individual_place k 0) (individual_bytes parent role has) →
        Begun out k parent role (against_tree s t d w u) mid (falsified_below s t d w u)
    begun_below g here =
        begun out k parent role (against_tree s t d w u) (set_at (wanted_of s u)) (falsified_below s t d w u)
        (against_below s t d w u has has-is r is h lacks excludes lacks-is excludes-is q at g) room has (low_same has (wanted_of s u) has-is) mid here

module _ (t : List ℕ) (d w parent role : ℕ) {out : List ℕ} {k : ℕ} (room : Room out k (reached_tree (against_top t d w) parent role k)) {mid : List ℕ}
    {empty : ℕ} (empty-is : empty ≡ none) {r : Bool} (is : r ≡ wanted_within t w empty) where
  pub begun_top_lacks : r ≡ false → mid ≡ put out (individual_place k 0) (individual_bytes parent role empty) →
      Begun out k parent role (against_top t d w) mid nil
  begun_top_lacks h here =
      begun out k parent role (against_top t d w) picture_signature.none nil (top_lacks t d w empty empty-is r is h) room empty (sym empty-is) mid here

  module _ (h : r ≡ true) {excludes : ℕ} (excludes-is : Read excludes (excluded_of t w)) {q : Bool} (at : q ≡ eqb excludes none) where
    pub begun_top_holds : q ≡ false → mid ≡ put out (individual_place k 0) (individual_bytes parent role excludes) →
        Begun out k parent role (against_top t d w) mid nil
    begun_top_holds g here =
        begun out k parent role (against_top t d w) (widened picture_signature (label_at t w) (empty_label picture_signature)) nil
        (top_holds t d w empty empty-is r is h excludes excludes-is q at g) room excludes
        (ap (λ x. intersection (union none x) (complement none)) (low_same excludes (excluded_of t w) excludes-is)
        ∙ widened_none excludes excludes-is.1) mid here

    pub begun_top : q ≡ true → mid ≡ put out (individual_place k 0) (individual_bytes parent role empty) →
        Begun out k parent role (against_top t d w) mid (below_top t d w)
    begun_top g here =
        begun out k parent role (against_top t d w) picture_signature.none (below_top t d w)
        (top_below t d w empty empty-is r is h excludes excludes-is q at g) room empty (sym empty-is) mid here

-- ---- a successor, and then the others

module _ {f g : Forest picture_signature} {x : Tree picture_signature} {role : ℕ} (is : f ≡ cons exists role x g) (parent : ℕ) {out : List ℕ} {k : ℕ}
    (room : Room out k (reached_all f parent k)) where
  both_room : Room out k (reached_tree x parent role k ++ reached_all g parent (k + size picture_signature x))
  both_room = forest_room is parent room

  pub edge_room : Room out k (reached_tree x parent role k)
  edge_room = room_left out k (reached_tree x parent role k) (reached_all g parent (k + size picture_signature x)) both_room

  module _ {a : ℕ} {mid : List ℕ} (first : Written out k (reached_tree x parent role k) a mid) where
    next_at : k + size picture_signature x ≡ a
    next_at = omega (arith, first.next_is, encode_tree_length picture_signature x parent exists role k)

    pub edges_room : Room mid a (reached_all g parent a)
    edges_room =
        room_same mid a (reached_all g parent (k + size picture_signature x)) (reached_all g parent a) (ap (reached_all g parent) next_at)
        (room_right out k (reached_tree x parent role k) (reached_all g parent (k + size picture_signature x)) both_room a mid first)

    pub edges_written : {b : ℕ} {end : List ℕ} → Written mid a (reached_all g parent a) b end → Written out k (reached_all f parent k) b end
    edges_written {b} {end} rest =
        forest_written is parent
        (written_append out k (reached_tree x parent role k) (reached_all g parent (k + size picture_signature x)) both_room a mid first b end
        (written_same mid a (reached_all g parent a) (reached_all g parent (k + size picture_signature x)) b end (ap (reached_all g parent) (sym next_at)) rest))

    pub edge_written : g ≡ nil → Written out k (reached_all f parent k) a mid
    edge_written last = edges_written (forest_written last parent (written_none mid a))

-- ---- along the rows that hang from row u: the all-successor of a role

abbrev pub is_value : List ℕ → ℕ → ℕ → Bool
is_value s role v = eqb (kind_of s v) kind_for_all && eqb (role_of s v) role

first_value_is : (s : List ℕ) (role : ℕ) (rows : List ℕ) → first_value s role rows ≡ first_of (is_value s role) rows 0
first_value_is s role [] = refl
first_value_is s role (v ∷ rows) =
    by_test (eqb (kind_of s v) kind_for_all)
    (λ e. rw e (by_test (eqb (role_of s v) role) (λ same. rw same) (λ other. rw other (first_value_is s role rows))))
    (λ e. rw e (first_value_is s role rows))

pub value_start : (t : Table) (role : ℕ) {u v : ℕ} → u < t.rows → v ≡ get_or t.links.now u 0 →
    search.WalkAt (parent_of t.bytes.now) t.rows u (is_value t.bytes.now role) 0 (value_row t.bytes.now u role) v
unfolding value_row
value_start t role {u} {v} l first =
    search.walk_start t.linked.linked v l
    (first_value_is t.bytes.now role (successor_rows picture_signature (picture_table t.bytes.now) u)
    ∙ ap (λ n. first_of (is_value t.bytes.now role) (filter_below (child_of (parent_of t.bytes.now) u) n) 0) (sym t.linked.checked.counted))
    first

-- ---- along them: the some-successors

module _ (t : Table) (s : List ℕ) (d c : ℕ) {u parent : ℕ} {out : List ℕ} {k : ℕ} where
  pub realized_start : {v : ℕ} → u < t.rows → v ≡ get_or t.links.now u 0 → Room out k (reached_all (realized_below t.bytes.now s d c u) parent k) →
      WalkAt (realized_rows t.bytes.now s d c) t.bytes.now t.rows u parent out k k out v
  unfolding realized_below
  realized_start l first room = walk_start (realized_split t.bytes.now s d c) t l first room

  pub realized_end : {v next : ℕ} {mid : List ℕ} → v ≡ 0 → WalkAt (realized_rows t.bytes.now s d c) t.bytes.now t.rows u parent out k next mid v →
      Written out k (reached_all (realized_below t.bytes.now s d c u) parent k) next mid
  unfolding realized_below
  realized_end z at = walk_end (realized_split t.bytes.now s d c) t z at

-- ---- the whole file

module _ (x : Tree picture_signature) (out : List ℕ) (whole : RefutationRoom x (length out)) where
  pub refutation_room : Room out 0 (reached_tree x 0 0 0)
  refutation_room = record { most = omega (arith, whole.most); fits = omega (arith, whole.fits) }

  module _ (count : ℕ) (mid : List ℕ) (written : Written out 0 (reached_tree x 0 0 0) count mid) where
    pub refutation_end : (at : ℕ) (end : List ℕ) → at ≡ individual_place count 0 → end ≡ put mid at end_bytes →
        (at + end_size ≡ length (refutation_file x)) × (end ≡ put out 0 (refutation_file x))
    unfolding refutation_file end_bytes be_bytes
    refutation_end at end place last =
        let s = individuals_of (encode picture_signature x) in
        let n = length_individuals (encode picture_signature x) in
        let here : at ≡ 0 + length s = omega (arith, place, written.next_is, n) in
        (omega (arith, length-append s end_bytes, here), last ∙ rw (here, written.bytes_are) (put_put out 0 s end_bytes (omega (arith, n, whole.fits))))
