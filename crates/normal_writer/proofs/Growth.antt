-- Laws of what a function that writes merged rows has done, over any forest.
--   rows_append    the rows of two forests, one after the other
--   grown_nil      nothing
--   grown_append   one forest after another
--   grown_same     the same forest
--   grown_full     a count beyond the limit stays beyond it
--   grown_over     one row more than the limit
--   grown_room     there is room for what follows; entered-room: and after a row was written
use Prim.Native.Nat.{◌+◌, ◌<◌, ◌≤◌, ℕ}
use lib.ListN.{length}
use mathlib.Core.Bool.{Bool, ◌||◌}
use mathlib.Core.List.{List, ◌++◌, append_assoc, append-nil}
use mathlib.Core.Path.{◌≡◌, ap, refl, subst, sym, ◌∙◌}
use native.Mathlib.Omega.{arith}
use Rattle.ale.proofs.Appends.{any_append, encode_forest_append, sizes_append, tidy_all_append}
use Rattle.ale.proofs.Encodings.{encode_forest_length}
use Rattle.ale.specs.Encoding.{encode_forest}
use Rattle.ale.specs.Forest.{append}
use Rattle.ale.specs.Normal.{bottom_exists, tidy_all}
use Rattle.ale.specs.PictureSignature.{picture_signature}
use Rattle.ale.specs.Tree.{Forest, Kind, Tree, any, cons, nil, node, sizes}
use Rattle.meaning.specs.File.{rows_from}
use Rattle.meaning.proofs.Files.{rows_from_append}
use Rattle.table.specs.Layout.{«place»}
use Rattle.table.specs.NameValues.{set_of}
use Rattle.table.proofs.Bools.{or_assoc, or_none}
use Rattle.table.proofs.Puts.{length_put}
use Rattle.table.proofs.Rows.{length_row_of}
use Rattle.normal_writer.specs.Grown.{Entered, Grown, Room, Written}
use Rattle.table_rows.specs.Rows.{prefix}
use Rattle.normal_writer.specs.declared.node.Edge.{Edge}
use Rattle.row_sets.specs.declared.label.Label.{Label}
use Rattle.normal_writer.specs.declared.node.Branch.{Branch}

-- the rows of two forests, one after the other
pub rows_append : (f g : Forest picture_signature) (p o : ℕ) → rows_from o (encode_forest picture_signature (append picture_signature f g) p o) ≡ rows_from o (encode_forest picture_signature f p o) ++ rows_from (o + sizes picture_signature f) (encode_forest picture_signature g p (o + sizes picture_signature f))
rows_append f g p o =
    ap (rows_from o) (encode_forest_append picture_signature f g p o)
    ∙ rows_from_append o (encode_forest picture_signature f p o) (encode_forest picture_signature g p (o + sizes picture_signature f))
    ∙ ap (λ (n : ℕ). rows_from o (encode_forest picture_signature f p o) ++ rows_from (o + n) (encode_forest picture_signature g p (o + sizes picture_signature f))) (encode_forest_length picture_signature f p o)

module _ (parent : ℕ) where
  written_nil : (b : Branch) (out : List ℕ) → Written parent b out nil b out
  written_nil b out = record {
    rows_are = omega arith;
    bytes_are = sym (append-nil (prefix b.table.rows out));
    bottom_is = sym (or_none b.bottom);
  }

  written_append : (b m r : Branch) (out mid end : List ℕ) (f g : Forest picture_signature) → Written parent b out f m mid → Written parent m mid g r end → Written parent b out (append picture_signature f g) r end
  written_append b m r out mid end f g p q = record {
    rows_are = omega (arith, p.rows_are, q.rows_are, sizes_append picture_signature f g);
    bytes_are =
        q.bytes_are
        ∙ ap (λ (l : List ℕ). l ++ rows_from m.table.rows (encode_forest picture_signature g parent m.table.rows)) p.bytes_are
        ∙ append_assoc (prefix b.table.rows out) _ _
        ∙ ap (λ (n : ℕ). prefix b.table.rows out ++ (rows_from b.table.rows (encode_forest picture_signature f parent b.table.rows) ++ rows_from n (encode_forest picture_signature g parent n))) p.rows_are
        ∙ ap (λ (l : List ℕ). prefix b.table.rows out ++ l) (sym (rows_append f g parent b.table.rows));
    bottom_is =
        q.bottom_is
        ∙ ap (λ (c : Bool). c || any picture_signature (bottom_exists picture_signature) g) p.bottom_is
        ∙ or_assoc b.bottom (any picture_signature (bottom_exists picture_signature) f) (any picture_signature (bottom_exists picture_signature) g)
        ∙ ap (λ (c : Bool). b.bottom || c) (sym (any_append picture_signature (bottom_exists picture_signature) f g));
  }

module _ (limit parent : ℕ) where
  pub grown_nil : (b : Branch) (out : List ℕ) → Room limit b out → Grown limit parent b out nil b out
  grown_nil b out room = record {
    count = omega (arith, room.counted);
    fewer = room.fewer;
    rises = omega arith;
    same = refl;
    written = λ h. written_nil parent b out;
  }

  pub grown_append : (b m r : Branch) (out mid end : List ℕ) (f g : Forest picture_signature) → Grown limit parent b out f m mid → Grown limit parent m mid g r end → Grown limit parent b out (append picture_signature f g) r end
  grown_append b m r out mid end f g p q =
      let e = sizes_append picture_signature f g in
      record {
        count = omega (arith, p.count, q.count);
        fewer = q.fewer;
        rises = omega (arith, p.rises, q.rises);
        same = q.same ∙ p.same;
        written = λ h.
            subst (λ t. Written parent b out t r end) (sym (tidy_all_append picture_signature f g))
            (written_append parent b m r out mid end (tidy_all picture_signature f) (tidy_all picture_signature g) (p.written (omega arith)) (q.written (omega (arith, p.count))));
      }

  pub grown_same : (b r : Branch) (out end : List ℕ) (f g : Forest picture_signature) → f ≡ g → Grown limit parent b out f r end → Grown limit parent b out g r end
  grown_same b r out end f g e p = subst (λ h. Grown limit parent b out h r end) e p

  pub grown_full : (b r : Branch) (out end : List ℕ) (f g : Forest picture_signature) → Grown limit parent b out f r end → limit < r.merged → sizes picture_signature f ≤ sizes picture_signature g → Grown limit parent b out g r end
  grown_full b r out end f g p over more = record {
    count = omega (arith, p.count);
    fewer = p.fewer;
    rises = p.rises;
    same = p.same;
    written = λ h. absurd (omega (arith, p.count));
  }

  pub grown_over : (b r : Branch) (out : List ℕ) (k : Kind) (role : ℕ) (t : Tree picture_signature) → Room limit b out → limit ≤ b.merged → r.merged ≡ limit + 1 → r.table.rows ≡ b.table.rows → Grown limit parent b out (cons k role t nil) r out
  grown_over b r out k role (node l f) room over e same = record {
    count = omega (arith, room.counted);
    fewer = omega (arith, room.fewer, room.counted);
    rises = omega arith;
    same = refl;
    written = λ h. absurd (omega arith);
  }

  pub grown_room : (b r : Branch) (out end : List ℕ) (f : Forest picture_signature) → Room limit b out → Grown limit parent b out f r end → Room limit r end
  grown_room b r out end f room p = record {
    limit_most = room.limit_most;
    space = omega (arith, room.space, p.same);
    fewer = p.fewer;
    counted = omega (arith, p.count);
  }

  pub grown_some : (b r : Branch) (out end : List ℕ) (f : Forest picture_signature) → 0 < b.table.rows → Grown limit parent b out f r end → 0 < r.table.rows
  grown_some b r out end f some p = omega (arith, p.rises)

module _ (limit : ℕ) (b : Branch) (out : List ℕ) (edge : Edge) (label : Label) (r : Branch) (end : List ℕ) (room : Room limit b out) (fits : b.merged < limit) (en : Entered b out edge label r end) where
  pub entered_length : length end ≡ length out
  entered_length =
      let w = length_row_of edge.parent edge.kind edge.role 0 (set_of label.wanted) (set_of label.excluded) in
      ap length en.row_put ∙ length_put out (place b.table.rows 0) _ (omega (arith, room.space, room.fewer))

  pub entered_room : Room limit r end
  entered_room = record {
    limit_most = room.limit_most;
    space = omega (arith, room.space, entered_length);
    fewer = omega (arith, en.one_more, en.counted, room.fewer);
    counted = omega (arith, en.counted);
  }
