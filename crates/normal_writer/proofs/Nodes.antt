-- A merged row as it is left: is_inconsistent, dropped, or with what hangs from it. The tests of the code are those of the theory, over any kind.
--   nil_is         no rows were added exactly where there are no successors
--   dropped_bare   an all-successor is dropped exactly where it has no names and no successors; of a label that is not marked
--   grown_node     a row that was written, with what hangs from it, and then left, is one successor more
use Prim.Native.Nat.{◌+◌, ◌<◌, ◌≤◌, suc, ℕ}
use lib.Bits.{bit_and}
use lib.Dec.{eqb}
use lib.ListN.{length}
use mathlib.Core.Bool.{Bool, ◌&&◌, ◌||◌, false, not, true}
use mathlib.Core.List.{List, [], ◌++◌, append_assoc, append-nil}
use mathlib.Core.Path.{◌≡◌, ap, refl, subst, sym, ◌∙◌}
use native.Mathlib.Numerals.{add-one}
use native.Mathlib.Omega.{arith}
use borrow.Author.Tests.{eq-eqb, ne_eqb}
use Rattle.table.specs.Fields.{row_of}
use Rattle.table.specs.Layout.{kind_for_all, «place»}
use Rattle.table.specs.NameSet.{none}
use Rattle.table.specs.NameValues.{set_of}
use Rattle.table.specs.Pick.{pick}
use Rattle.table.specs.Put.{put}
use Rattle.table.proofs.Bools.{or_assoc}
use Rattle.table.proofs.Puts.{length_put}
use Rattle.table.proofs.Rows.{length_row_of}
use Rattle.ale.specs.Encoding.{Row, encode_forest}
use Rattle.ale.specs.Forest.{dropped, is_nil}
use Rattle.ale.specs.Normal.{bottom_exists, inconsistent, tidy_all}
use Rattle.ale.specs.PictureSignature.{picture_signature}
use Rattle.ale.specs.Tree as tree
use Rattle.ale.specs.Tree.{Forest, Kind, Tree, any, bottom_label, bottom_tree, cons, exists, forAll, nil, node, same_kind, sizes}
use Rattle.meaning.specs.File.{code_at, row_at, rows_from}
use Rattle.meaning.specs.Meaning.{kind_at}
use Rattle.normal_writer.specs.Grown.{Entered, Grown, Left, Room, Written, bare, is_inconsistent, is_dropped}
use Rattle.table_rows.specs.Rows.{prefix}
use Rattle.row_sets.specs.Labels.{LabelIs}
use Rattle.normal_writer.specs.declared.node.Branch.{Branch}
use Rattle.normal_writer.specs.declared.node.Edge.{Edge}
use Rattle.row_sets.specs.declared.label.Label.{Label}
use Rattle.normal_writer.proofs.Growth.{entered_length}
use Rattle.table.proofs.NameSets.{subset_none}
use Rattle.table_rows.proofs.Prefixes.{prefix_before, prefix_put}

-- ---- the tests

inconsistent_is : (label : Label) (l : tree.Label picture_signature) (below : Branch) (g : Forest picture_signature) → LabelIs label l → below.bottom ≡ any picture_signature (bottom_exists picture_signature) g → is_inconsistent label below ≡ inconsistent picture_signature l g
inconsistent_is label l below g is e =
    rw (is.wanted_is, is.excluded_is, is.bottom_is, e, subset_none (bit_and l.wanted.set l.excluded.set)) (or_assoc l.bottom _ _)

pub nil_is : (n : ℕ) (g : Forest picture_signature) → eqb (n + sizes picture_signature g) n ≡ is_nil picture_signature g
nil_is n nil = eq-eqb (n + 0) n (omega arith)
nil_is n (cons k r (node l f) g) = ne_eqb (n + (suc (sizes picture_signature f) + sizes picture_signature g)) n (λ e. omega arith)

kept_possible : (l : tree.Label picture_signature) (g : Forest picture_signature) → inconsistent picture_signature l g ≡ false → l.bottom ≡ false
kept_possible l g e = first l.bottom _ e
  where
    first : (a b : Bool) → (a || b) ≡ false → a ≡ false
    first true b z = z
    first false b z = refl

by_kind : (c : Bool) (t : Tree picture_signature) (b : Bool) → dropped picture_signature forAll t ≡ b → dropped picture_signature (pick c forAll exists) t ≡ (c && b)
by_kind true t b e = e
by_kind false t b e = refl

trivial_is : (w e n : Bool) → ((w && (e && true)) && n) ≡ ((w && e) && n)
trivial_is true true n = refl
trivial_is true false n = refl
trivial_is false e n = refl

pub dropped_bare : (kind : ℕ) (label : Label) (l : tree.Label picture_signature) (g : Forest picture_signature) → LabelIs label l → l.bottom ≡ false → dropped picture_signature (kind_at kind) (node l g) ≡ (eqb kind kind_for_all && (bare label && is_nil picture_signature g))
dropped_bare kind label l g is possible =
    by_kind (eqb kind kind_for_all) (node l g) (bare label && is_nil picture_signature g)
    (rw (is.wanted_is, is.excluded_is, possible, subset_none l.wanted.set, subset_none l.excluded.set)
    (trivial_is (eqb l.wanted.set 0) (eqb l.excluded.set 0) (is_nil picture_signature g)))

dropped_is : (b : Branch) (edge : Edge) (label : Label) (l : tree.Label picture_signature) (below : Branch) (g : Forest picture_signature) → LabelIs label l → below.table.rows ≡ b.table.rows + 1 + sizes picture_signature g → l.bottom ≡ false → is_dropped b edge label below ≡ dropped picture_signature (kind_at edge.kind) (node l g)
dropped_is b edge label l below g is e possible =
    ap (λ (c : Bool). eqb edge.kind kind_for_all && (bare label && c)) (ap (λ (n : ℕ). eqb n (b.table.rows + 1)) e ∙ nil_is (b.table.rows + 1) g)
    ∙ sym (dropped_bare edge.kind label l g is possible)

-- ---- the row as it is left

-- ⊥ is dropped by neither kind, and is a some-successor by one
bottom_kept : (k : Kind) → dropped picture_signature k (bottom_tree picture_signature) ≡ false
bottom_kept exists = refl
bottom_kept forAll = refl

bottom_spoils : (c : Bool) → not c ≡ ((same_kind (pick c forAll exists) exists && true) || false)
bottom_spoils true = refl
bottom_spoils false = refl

kept_spoils : (k : Kind) → false ≡ ((same_kind k exists && false) || false)
kept_spoils exists = refl
kept_spoils forAll = refl

-- what tidying makes of one successor, by the two tests
abbrev left_as : Kind → ℕ → tree.Label picture_signature → Forest picture_signature → Bool → Bool → Forest picture_signature
left_as k role l g true d = cons k role (bottom_tree picture_signature) nil
left_as k role l g false true = nil
left_as k role l g false false = cons k role (node l g) nil

tidied : (k : Kind) (role : ℕ) (l : tree.Label picture_signature) (f : Forest picture_signature) (β δ : Bool) → inconsistent picture_signature l (tidy_all picture_signature f) ≡ β → (β ≡ false → dropped picture_signature k (node l (tidy_all picture_signature f)) ≡ δ) → tidy_all picture_signature (cons k role (node l f) nil) ≡ left_as k role l (tidy_all picture_signature f) β δ
tidied k role l f true δ e h = rw (e, bottom_kept k)
tidied k role l f false true e h = rw (e, h refl)
tidied k role l f false false e h = rw (e, h refl)

module _ (limit : ℕ) (b : Branch) (out : List ℕ) (edge : Edge) (label : Label) (l : tree.Label picture_signature) (is : LabelIs label l) (code : code_at b.table.rows (kind_at edge.kind) ≡ edge.kind) (room : Room limit b out) (fits : b.merged < limit) where
  abbrev at : ℕ
  at = b.table.rows

  abbrev entered_row : List ℕ
  entered_row = row_of edge.parent edge.kind edge.role 0 (set_of label.wanted) (set_of label.excluded)

  abbrev bottom_row : List ℕ
  bottom_row = row_of edge.parent edge.kind edge.role 1 none none

  abbrev encoded : tree.Label picture_signature → Row picture_signature
  encoded m = record { parent = edge.parent; kind = kind_at edge.kind; role = edge.role; label = m }

  bottom_encoded : bottom_row ≡ row_at at (encoded (bottom_label picture_signature))
  bottom_encoded = ap (λ (c : ℕ). row_of edge.parent c edge.role 1 0 0) (sym code)

  entered_encoded : l.bottom ≡ false → entered_row ≡ row_at at (encoded l)
  entered_encoded possible =
      rw (is.wanted_is, is.excluded_is, possible) (ap (λ (c : ℕ). row_of edge.parent c edge.role 0 l.wanted.set l.excluded.set) (sym code))

  -- the rows that hang from it, as the encoding goes on after its own
  below_encoded : (g : Forest picture_signature) → rows_from (at + 1) (encode_forest picture_signature g at (at + 1)) ≡ rows_from (suc at) (encode_forest picture_signature g at (suc at) ++ [])
  below_encoded g =
      ap (λ (n : ℕ). rows_from n (encode_forest picture_signature g at n)) (add-one at)
      ∙ ap (rows_from (suc at)) (sym (append-nil (encode_forest picture_signature g at (suc at))))

  -- what stands in the lent part once the rows below g are there
  record Standing (g : Forest picture_signature) (below : Branch) (end : List ℕ) : Type 0 where
    rows_are : below.table.rows ≡ at + 1 + sizes picture_signature g
    bytes_are : prefix below.table.rows end ≡ (prefix at out ++ entered_row) ++ rows_from (at + 1) (encode_forest picture_signature g at (at + 1))
    before : prefix at end ≡ prefix at out
    space : place at 0 ≤ length end

  written_left : (β δ : Bool) (g : Forest picture_signature) (below r : Branch) (mid end : List ℕ) → Standing g below mid → r.table.rows ≡ pick β (at + 1) (pick δ at below.table.rows) → r.bottom ≡ (b.bottom || (β && not (eqb edge.kind kind_for_all))) → end ≡ pick β (put mid (place at 0) bottom_row) mid → (β ≡ false → l.bottom ≡ false) → Written edge.parent b out (left_as (kind_at edge.kind) edge.role l g β δ) r end
  written_left true δ g below r mid end st er eb ee possible = record {
    rows_are = omega arith;
    bytes_are =
        ap (λ (n : ℕ). prefix n end) er
        ∙ ap (prefix (at + 1)) ee
        ∙ prefix_put mid at bottom_row st.space (length_row_of edge.parent edge.kind edge.role 1 none none)
        ∙ ap (λ (p : List ℕ). p ++ bottom_row) st.before
        ∙ ap (λ (x : List ℕ). prefix at out ++ x) (bottom_encoded ∙ sym (append-nil _));
    bottom_is = eb ∙ ap (λ (c : Bool). b.bottom || c) (bottom_spoils (eqb edge.kind kind_for_all));
  }
  written_left false true g below r mid end st er eb ee possible = record {
    rows_are = omega arith;
    bytes_are = ap (λ (n : ℕ). prefix n end) er ∙ ap (prefix at) ee ∙ st.before ∙ sym (append-nil (prefix at out));
    bottom_is = eb;
  }
  written_left false false g below r mid end st er eb ee possible = record {
    rows_are = omega (arith, st.rows_are);
    bytes_are =
        ap (λ (n : ℕ). prefix n end) er
        ∙ ap (prefix below.table.rows) ee
        ∙ st.bytes_are
        ∙ append_assoc (prefix at out) entered_row _
        ∙ ap (λ (x : List ℕ). prefix at out ++ (x ++ rows_from (at + 1) (encode_forest picture_signature g at (at + 1)))) (entered_encoded (possible refl))
        ∙ ap (λ (x : List ℕ). prefix at out ++ (row_at at (encoded l) ++ x)) (below_encoded g);
    bottom_is = eb ∙ ap (λ (c : Bool). b.bottom || c) (rw (possible refl) (kept_spoils (kind_at edge.kind)));
  }

  module _ (f : Forest picture_signature) (entered below r : Branch) (first mid end : List ℕ) (en : Entered b out edge label entered first) (gr : Grown limit at entered first f below mid) (le : Left b edge label below mid r end) where
    first_length : length first ≡ length out
    first_length = entered_length limit b out edge label entered first room fits en

    end_length_is : (β : Bool) → end ≡ pick β (put mid (place at 0) bottom_row) mid → length end ≡ length mid
    end_length_is true e = let w = length_row_of edge.parent edge.kind edge.role 1 none none in ap length e ∙ length_put mid (place at 0) bottom_row (omega (arith, room.space, room.fewer, gr.same, first_length))
    end_length_is false e = ap length e

    standing : Written at entered first (tidy_all picture_signature f) below mid → Standing (tidy_all picture_signature f) below mid
    standing w =
        let e : prefix entered.table.rows first ≡ prefix at out ++ entered_row = ap (λ (n : ℕ). prefix n first) en.one_more ∙ ap (prefix (at + 1)) en.row_put ∙ prefix_put out at entered_row (omega (arith, room.space, room.fewer)) (length_row_of edge.parent edge.kind edge.role 0 (set_of label.wanted) (set_of label.excluded)) in
        let bytes : prefix below.table.rows mid ≡ (prefix at out ++ entered_row) ++ rows_from (at + 1) (encode_forest picture_signature (tidy_all picture_signature f) at (at + 1)) =
        w.bytes_are
        ∙ ap (λ (p : List ℕ). p ++ rows_from entered.table.rows (encode_forest picture_signature (tidy_all picture_signature f) at entered.table.rows)) e
        ∙ ap (λ (n : ℕ). (prefix at out ++ entered_row) ++ rows_from n (encode_forest picture_signature (tidy_all picture_signature f) at n)) en.one_more in
        record {
          rows_are = omega (arith, w.rows_are, en.one_more);
          bytes_are = bytes;
          before = prefix_before out mid (entered_row ++ _) at below.table.rows (omega (arith, w.rows_are, en.one_more)) (omega (arith, room.space, room.fewer)) (bytes ∙ append_assoc (prefix at out) entered_row _);
          space = omega (arith, room.space, room.fewer, gr.same, first_length);
        }

    left_most : (β δ : Bool) (n : ℕ) → at + 1 ≤ n → below.table.rows ≤ n → pick β (at + 1) (pick δ at below.table.rows) ≤ n
    left_most true δ n p q = p
    left_most false true n p q = omega arith
    left_most false false n p q = q

    left_least : (β δ : Bool) → at ≤ pick β (at + 1) (pick δ at below.table.rows)
    left_least true δ = omega arith
    left_least false true = omega arith
    left_least false false = omega (arith, gr.rises, en.one_more)

    pub grown_node : Grown limit edge.parent b out (cons (kind_at edge.kind) edge.role (node l f) nil) r end
    grown_node =
        let β : Bool = is_inconsistent label below in
        let δ : Bool = is_dropped b edge label below in
        record {
          count = omega (arith, le.counted, gr.count, en.counted);
          fewer = subst (λ (n : ℕ). n ≤ r.merged) (sym le.rows_are) (left_most β δ r.merged (omega (arith, le.counted, gr.count, en.counted, room.fewer)) (omega (arith, le.counted, gr.fewer)));
          rises = subst (λ (n : ℕ). at ≤ n) (sym le.rows_are) (left_least β δ);
          same = end_length_is β le.bytes_are ∙ gr.same ∙ first_length;
          written = λ h.
              let w = gr.written (omega (arith, en.counted)) in
              let e : β ≡ inconsistent picture_signature l (tidy_all picture_signature f) = inconsistent_is label l below (tidy_all picture_signature f) is (w.bottom_is ∙ ap (λ (c : Bool). c || any picture_signature (bottom_exists picture_signature) (tidy_all picture_signature f)) en.none_yet) in
              let possible : (β ≡ false → l.bottom ≡ false) = (λ z. kept_possible l (tidy_all picture_signature f) (sym e ∙ z)) in
              let st = standing w in
              subst (λ t. Written edge.parent b out t r end)
              (sym (tidied (kind_at edge.kind) edge.role l f β δ (sym e) (λ z. sym (dropped_is b edge label l below (tidy_all picture_signature f) is st.rows_are (possible z)))))
              (written_left β δ (tidy_all picture_signature f) below r mid end st le.rows_are le.bottom_is le.bytes_are possible);
        }
