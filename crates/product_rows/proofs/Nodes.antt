-- A row of the common picture as it is written and left. The code's tests are those of the theory, over any kind.
--   common_is       the label that two have in common
--   pushed_length, pushed_room   once a row is written the lent part is as long, and there is room for what hangs from
--                                the row
--   entered_length, entered_room   the same if there was room for the row, or none
--   entered_some    there is a row then
--   grown_row       a row, and then what hangs from it, is one successor more
--   grown_node      once it is left: one successor more, or none, if it is dropped
--   grown_stays     one that stays where the table is full
use Prim.Native.Nat.{◌+◌, ◌<◌, ◌≤◌, suc, ℕ}
use borrow.Author.Tests.{eq-eqb, eqb-true, le-ltb, lt-ltb, ne_eqb, ltb-true, ltb-false}
use lib.Dec.{eqb, ltb}
use lib.ListN.{length}
use mathlib.Core.Bool.{Bool, ◌&&◌, false, not, true}
use mathlib.Core.List.{List, [], ◌++◌, append_assoc, append-nil}
use mathlib.Core.Path.{◌∙◌, ◌≡◌, ap, refl, sym}
use native.Mathlib.Numerals.{add-one}
use native.Mathlib.Omega.{arith}
use Rattle.table.proofs.Bools.{by_test}
use Rattle.table.proofs.Puts.{length_put}
use Rattle.table.proofs.Rows.{length_row_of}
use Rattle.table.specs.Fields.{row_of}
use Rattle.table.specs.Layout.{kind_for_all, kind_root, «place», row_size}
use Rattle.table.specs.NameSet.{intersection}
use Rattle.table.specs.NameValues.{set_of}
use Rattle.table.specs.Pick.{pick}
use Rattle.table_rows.specs.declared.builder.Builder.{Builder}
use Rattle.ale.specs.Encoding.{Row, encode_forest}
use Rattle.ale.specs.Forest.{cons_reduced, dropped, is_nil}
use Rattle.ale.specs.PictureSignature.{picture_signature}
use Rattle.ale.specs.Product.{label_intersection}
use Rattle.ale.specs.Tree as tree
use Rattle.ale.specs.Tree.{Forest, cons, nil, node, sizes}
use Rattle.meaning.specs.File.{code_at, mark_code, row_at, rows_from}
use Rattle.meaning.specs.Meaning.{kind_at}
use Rattle.normal_writer.proofs.Nodes.{dropped_bare}
use Rattle.table_rows.proofs.Prefixes.{prefix_before, prefix_put}
use Rattle.normal_writer.specs.Grown.{bare}
use Rattle.table_rows.specs.Rows.{prefix}
use Rattle.row_sets.specs.Labels.{LabelIs}
use Rattle.row_sets.specs.declared.label.Label.{Label}
use Rattle.normal_writer.specs.declared.node.Edge.{Edge}
use Rattle.product_rows.specs.Grown.{Entered, Grown, Pushed, Room, is_dropped, stays}
use Rattle.product_rows.proofs.Growth.{grown_over, grown_same}

pub common_is : {a b r : Label} {l m : tree.Label picture_signature} → LabelIs a l → LabelIs b m →
    set_of r.wanted ≡ intersection (set_of a.wanted) (set_of b.wanted) →
    set_of r.excluded ≡ intersection (set_of a.excluded) (set_of b.excluded) →
    eqb r.bottom 1 ≡ false → LabelIs r (label_intersection picture_signature l m)
common_is p q wants excludes unmarked = record {
  wanted_is = wants ∙ rw (p.wanted_is, q.wanted_is);
  excluded_is = excludes ∙ rw (p.excluded_is, q.excluded_is);
  bottom_is = unmarked;
}

-- ---- a row as it is written

length_row : (edge : Edge) (label : Label) →
    length (row_of edge.parent edge.kind edge.role (mark_code (eqb label.bottom 1)) (set_of label.wanted)
    (set_of label.excluded)) ≡ row_size
length_row edge label = length_row_of edge.parent edge.kind edge.role (mark_code (eqb label.bottom 1))
    (set_of label.wanted) (set_of label.excluded)

module _ {limit : ℕ} {b : Builder} {out : List ℕ} (room : Room limit b out) {edge : Edge} {label : Label}
    {entered : Builder} {first : List ℕ} where
  module _ (fits : b.rows < limit) (en : Pushed b out edge label entered first) where
    pub pushed_length : length first ≡ length out
    pushed_length = ap length en.row_put ∙ length_put out (place b.rows 0) _
        (omega (arith, room.space, length_row edge label))

    pub pushed_room : Room limit entered first
    pushed_room = record {
      limit_most = room.limit_most;
      space = omega
          (arith, room.space, pushed_length);
      within = omega (arith, en.one_more);
    }

  module _ (en : Entered limit b out edge label entered first) where
    pub entered_length : length first ≡ length out
    entered_length =
        by_test (ltb b.rows limit)
        (λ c. let l = ltb-true b.rows limit c in pushed_length l (en.pushed l))
        (λ c. ap length (en.full (ltb-false b.rows limit c)).1)

    pub entered_room : Room limit entered first
    entered_room = record {
      limit_most = room.limit_most;
      space = omega (arith, room.space, entered_length);
      within = by_test (ltb b.rows limit)
          (λ c. let l = ltb-true b.rows limit c in (pushed_room l (en.pushed l)).within)
          (λ c. omega (arith, room.within, (en.full (ltb-false b.rows limit c)).0));
    }

-- ---- and what hangs from it

module _ {limit : ℕ} {b : Builder} {out : List ℕ} (edge : Edge) {label : Label} {l : tree.Label picture_signature}
    (is : LabelIs label l)
    (code : code_at b.rows (kind_at edge.kind) ≡ edge.kind) (room : Room limit b out) where
  abbrev at : ℕ
  at = b.rows

  abbrev row : List ℕ
  row = row_of edge.parent edge.kind edge.role (mark_code (eqb label.bottom 1)) (set_of label.wanted)
      (set_of label.excluded)

  abbrev encoded : Row picture_signature
  encoded = record { parent = edge.parent; kind = kind_at edge.kind; role = edge.role; label = l }

  row_encoded : row ≡ row_at at encoded
  row_encoded =
      rw (is.wanted_is, is.excluded_is, is.bottom_is)
      (ap (λ (c : ℕ). row_of edge.parent c edge.role (mark_code l.bottom) l.wanted.set l.excluded.set) (sym code))

  module _ (fits : at < limit) {entered : Builder} {first : List ℕ} (en : Pushed b out edge label entered first)
      {f : Forest picture_signature}
      {below : Builder} {mid : List ℕ} (gr : Grown limit at entered first f below mid) where
    mid_length : length mid ≡ length out
    mid_length = gr.same ∙ pushed_length room fits en

    -- what stands in the lent part once the rows below are there
    standing : at + 1 + sizes picture_signature f ≤ limit →
        prefix below.rows mid ≡ prefix at out ++ (row ++ rows_from (at + 1)
        (encode_forest picture_signature f at (at + 1)))
    standing h =
        gr.written (omega (arith, en.one_more))
        ∙ ap (λ (p : List ℕ). p ++ rows_from entered.rows (encode_forest picture_signature f at entered.rows))
        (ap (λ (n : ℕ). prefix n first) en.one_more ∙ ap (prefix (at + 1)) en.row_put
        ∙ prefix_put out at row (omega (arith, room.space)) (length_row edge label))
        ∙ ap (λ (n : ℕ). (prefix at out ++ row) ++ rows_from n (encode_forest picture_signature f at n)) en.one_more
        ∙ append_assoc (prefix at out) row (rows_from (at + 1) (encode_forest picture_signature f at (at + 1)))

    pub grown_row : Grown limit edge.parent b out (cons (kind_at edge.kind) edge.role (node l f) nil) below mid
    grown_row = record {
      count = omega (arith, gr.count, en.one_more);
      same = mid_length;
      written = λ h.
          standing (omega arith)
          ∙ ap (λ (x : List ℕ). prefix at out ++ (x ++ rows_from (at + 1)
          (encode_forest picture_signature f at (at + 1)))) row_encoded
          ∙ ap (λ (x : List ℕ). prefix at out ++ (row_at at encoded ++ x))
          (ap (λ (n : ℕ). rows_from n (encode_forest picture_signature f at n)) (add-one at)
          ∙ ap (rows_from (suc at)) (sym (append-nil (encode_forest picture_signature f at (suc at)))));
    }

    -- a row that is given up: those before it stand as they did
    grown_dropped : sizes picture_signature f ≡ 0 → (r : Builder) → r.rows ≡ at →
        Grown limit edge.parent b out nil r mid
    grown_dropped none r e = record {
      count = omega (arith, room.within);
      same = mid_length;
      written = λ _.
          ap (λ (n : ℕ). prefix n mid) e
          ∙ prefix_before out mid _ at below.rows (omega (arith, gr.count, en.one_more)) (omega (arith, room.space))
          (standing (omega arith))
          ∙ sym (append-nil (prefix at out));
    }

  -- ---- once it is left

  -- Grown speaks of the rows of a table alone
  as_rows : (f : Forest picture_signature) (m r : Builder) (end : List ℕ) → r.rows ≡ m.rows →
      Grown limit edge.parent b out f m end →
      Grown limit edge.parent b out f r end
  as_rows f m r end e g = record {
    count = e ∙ g.count;
    same = g.same;
    written = λ h. ap (λ (n : ℕ). prefix n end) e ∙ g.written h;
  }

  module _ (possible : l.bottom ≡ false) where
    dropped_by : (s : Bool) → stays edge label ≡ s → (f : Forest picture_signature) →
        dropped picture_signature (kind_at edge.kind) (node l f) ≡ (not s && is_nil picture_signature f)
    dropped_by s e f =
        dropped_bare edge.kind label l f is possible
        ∙ regrouped (eqb edge.kind kind_for_all) (bare label) (is_nil picture_signature f)
        ∙ ap (λ (c : Bool). not c && is_nil picture_signature f) e
      where
        regrouped : (x y z : Bool) → (x && (y && z)) ≡ (not (not (x && y)) && z)
        regrouped true true z = refl
        regrouped true false z = refl
        regrouped false y z = refl

    abbrev one : Forest picture_signature → Forest picture_signature
    one f = cons_reduced picture_signature (kind_at edge.kind) edge.role (node l f) nil

    as_kept : (s : Bool) (f : Forest picture_signature) → stays edge label ≡ s →
        (not s && is_nil picture_signature f) ≡ false →
        one f ≡ cons (kind_at edge.kind) edge.role (node l f) nil
    as_kept s f e n = rw (dropped_by s e f ∙ n)

    as_dropped : stays edge label ≡ false → one nil ≡ nil
    as_dropped e = rw (dropped_by false e nil)

    -- one that stays where the table is full
    pub grown_stays : (f : Forest picture_signature) (r : Builder) → limit ≤ at → stays edge label ≡ true →
        r.rows ≡ limit + 1 →
        Grown limit edge.parent b out (one f) r out
    grown_stays f r full e over =
        grown_same limit edge.parent b r out out _ (one f) (sym (as_kept true f e refl))
        (grown_over limit edge.parent b r out (cons (kind_at edge.kind) edge.role (node l f) nil) full
        (omega arith) over)

    module _ (room-or : limit ≤ at → stays edge label ≡ false) {entered : Builder} {first : List ℕ}
        (en : Entered limit b out edge label entered first)
        (below r : Builder) (mid : List ℕ)
        (left : r.rows ≡ pick (is_dropped limit b edge label below) at below.rows) where
      by_tests : (c s x : Bool) → ltb at limit ≡ c → stays edge label ≡ s → eqb below.rows (at + 1) ≡ x →
          r.rows ≡ pick (c && (not s && x)) at below.rows
      by_tests c s x p q w = left ∙ rw (p, q, w)

      module _ (fits : at < limit) where
        -- with what hangs from it
        with_row : (s x : Bool) (f : Forest picture_signature) → stays edge label ≡ s → eqb below.rows (at + 1) ≡ x →
            (not s && x) ≡ false →
            (not s && is_nil picture_signature f) ≡ false → Grown limit at entered first f below mid →
            Grown limit edge.parent b out (one f) r mid
        with_row s x f e w kept full gr =
            grown_same limit edge.parent b r out mid _ (one f) (sym (as_kept s f e full))
            (as_rows (cons (kind_at edge.kind) edge.role (node l f) nil) below r mid
            (by_tests true s x (lt-ltb at limit fits) e w ∙ ap (λ (c : Bool). pick c at below.rows) kept)
            (grown_row fits (en.pushed fits) gr))

        when_pushed : (s : Bool) (f : Forest picture_signature) → stays edge label ≡ s →
            Grown limit at entered first f below mid →
            Grown limit edge.parent b out (one f) r mid
        when_pushed true f e gr = with_row true (eqb below.rows (at + 1)) f e refl refl refl gr
        when_pushed false nil e gr =
            grown_same limit edge.parent b r out mid nil (one nil) (sym (as_dropped e))
            (grown_dropped fits (en.pushed fits) gr refl r
            (by_tests true false true (lt-ltb at limit fits) e
            (eq-eqb below.rows (at + 1) (omega (arith, gr.count, (en.pushed fits).one_more)))))
        when_pushed false (cons k q (node m g) f) e gr =
            with_row false false (cons k q (node m g) f) e
            (ne_eqb below.rows (at + 1) (λ z. omega (arith, gr.count, (en.pushed fits).one_more))) refl refl gr

      module _ (full : limit ≤ at) where
        below_is : r.rows ≡ below.rows
        below_is = by_tests false false (eqb below.rows (at + 1)) (le-ltb at limit full) (room-or full) refl

        when_full : (f : Forest picture_signature) → Grown limit at entered first f below mid →
            Grown limit edge.parent b out (one f) r mid
        when_full nil gr =
            let (same, first_is) = en.full full in
            grown_same limit edge.parent b r out mid nil (one nil) (sym (as_dropped (room-or full)))
            (record {
              count = omega (arith, below_is, gr.count);
              same = gr.same ∙ ap length first_is;
              written = λ h.
                  ap (λ (n : ℕ). prefix n mid) below_is
                  ∙ gr.written (omega arith)
                  ∙ ap (λ (p : List ℕ). p ++ []) (ap (λ (n : ℕ). prefix n first) same ∙ ap (prefix at) first_is);
            })
        when_full (cons k q (node m g) f) gr =
            let (same, first_is) = en.full full in
            grown_same limit edge.parent b r out mid _ (one (cons k q (node m g) f))
            (sym (as_kept false (cons k q (node m g) f) (room-or full) refl))
            (record {
              count = omega (arith, below_is, gr.count, room.within);
              same = gr.same ∙ ap length first_is;
              written = λ h. absurd (omega arith);
            })

      pub grown_node : (f : Forest picture_signature) → Grown limit at entered first f below mid →
          Grown limit edge.parent b out (one f) r mid
      grown_node f gr =
          by_test (ltb at limit)
          (λ c. when_pushed (ltb-true at limit c) (stays edge label) f refl gr)
          (λ c. when_full (ltb-false at limit c) f gr)

  module _ {entered : Builder} {first : List ℕ} (en : Entered limit b out edge label entered first) where
    -- the root stays: so there is a row, written before or now
    pub entered_some : (limit ≤ at → stays edge label ≡ false) → 0 < entered.rows
    entered_some room-or =
        by_test (ltb at limit)
        (λ c. omega (arith, (en.pushed (ltb-true at limit c)).one_more))
        (λ c.
        let full = ltb-false at limit c in
        let all : edge.kind ≡ kind_for_all = eqb-true edge.kind kind_for_all
        (left_true (eqb edge.kind kind_for_all) (bare label) (room-or full)) in
        let hung : ¬ (at ≡ 0) = (λ z. let root : kind_root ≡ edge.kind = sym (rw (eq-eqb at 0 z)) ∙ code in
        omega arith) in
        omega (arith, (en.full full).0, hung))
      where
        left_true : (x y : Bool) → not (x && y) ≡ false → x ≡ true
        left_true true y e = refl
        left_true false y e = sym e
