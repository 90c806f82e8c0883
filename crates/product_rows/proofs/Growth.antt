-- Laws of what a function that adds rows to a table under construction has done, over any forest.
--   grown_nil       nothing
--   grown_append    one forest after another
--   grown_same      the same forest
--   grown_full      a count beyond the limit stays beyond it
--   grown_over      one row more than the limit
--   grown_room      there is room for what follows, within the limit
--   Onward          a loop that makes a forest part by part: once what is left is made, all of it is
--   onward_start, onward_next, onward_full, onward_end   before the first part; one part more, within the limit and
--                                                        beyond it; nothing is left
--   built_root      what is grown of a root alone is built
use Prim.Native.Nat.{◌+◌, ◌<◌, ◌≤◌, ℕ}
use lib.ListN.{length}
use mathlib.Core.List.{List, ◌++◌, append_assoc, append-nil}
use mathlib.Core.Path.{◌∙◌, ◌≡◌, ap, refl, subst, sym}
use native.Mathlib.Omega.{arith}
use Rattle.ale.proofs.Appends.{sizes_append}
use Rattle.ale.specs.Encoding.{encode, encode_forest}
use Rattle.ale.specs.Forest.{append}
use Rattle.ale.specs.PictureSignature.{picture_signature}
use Rattle.ale.specs.Tree.{Forest, Tree, cons, exists, nil, sizes}
use Rattle.meaning.specs.File.{rows_from}
use Rattle.normal_writer.proofs.Growth.{rows_append}
use Rattle.table_rows.specs.Rows.{prefix}
use Rattle.table_rows.specs.declared.builder.Builder.{Builder}
use Rattle.product_rows.specs.Grown.{Built, Grown, Room}
use Rattle.table.specs.declared.layout.Limits.{Limits}

module _ (limit parent : ℕ) where
  pub grown_nil : (b : Builder) (out : List ℕ) → Room limit b out → Grown limit parent b out nil b out
  grown_nil b out room = record {
    count = omega (arith, room.within);
    same = refl;
    written = λ _. sym (append-nil (prefix b.rows out));
  }

  pub grown_append : (b m r : Builder) (out mid end : List ℕ) (f g : Forest picture_signature) →
      Grown limit parent b out f m mid → Grown limit parent m mid g r end →
      Grown limit parent b out (append picture_signature f g) r end
  grown_append b m r out mid end f g p q =
      let e = sizes_append picture_signature f g in
      record {
        count = omega (arith, p.count, q.count);
        same = q.same ∙ p.same;
        written = λ h.
            let at : m.rows ≡ b.rows + sizes picture_signature f = omega (arith, p.count) in
            q.written (omega arith)
            ∙ ap (λ (l : List ℕ). l ++ rows_from m.rows (encode_forest picture_signature g parent m.rows))
            (p.written (omega arith))
            ∙ append_assoc (prefix b.rows out) _ _
            ∙ ap (λ (n : ℕ). prefix b.rows out ++ (rows_from b.rows (encode_forest picture_signature f parent b.rows)
            ++ rows_from n (encode_forest picture_signature g parent n))) at
            ∙ ap (λ (l : List ℕ). prefix b.rows out ++ l) (sym (rows_append f g parent b.rows));
      }

  pub grown_same : (b r : Builder) (out end : List ℕ) (f g : Forest picture_signature) → f ≡ g →
      Grown limit parent b out f r end → Grown limit parent b out g r end
  grown_same b r out end f g e p = subst (λ h. Grown limit parent b out h r end) e p

  pub grown_full : (b r : Builder) (out end : List ℕ) (f g : Forest picture_signature) →
      Grown limit parent b out f r end → limit < r.rows →
      sizes picture_signature f ≤ sizes picture_signature g → Grown limit parent b out g r end
  grown_full b r out end f g p over more = record {
    count = omega (arith, p.count);
    same = p.same;
    written = λ h. absurd (omega (arith, p.count));
  }

  pub grown_over : (b r : Builder) (out : List ℕ) (f : Forest picture_signature) → limit ≤ b.rows →
      0 < sizes picture_signature f → r.rows ≡ limit + 1 →
      Grown limit parent b out f r out
  grown_over b r out f full some e = record {
    count = omega arith;
    same = refl;
    written = λ h. absurd (omega arith);
  }

  pub grown_room : (b r : Builder) (out end : List ℕ) (f : Forest picture_signature) → Room limit b out →
      Grown limit parent b out f r end → r.rows ≤ limit →
      Room limit r end
  grown_room b r out end f room p l = record {
    limit_most = room.limit_most;
    space = omega
        (arith, room.space, p.same);
    within = l;
  }

  -- ---- part by part

  pub record Onward (start : Builder) (first : List ℕ) (whole left : Forest picture_signature) (grown : Builder)
      (out : List ℕ) : Type 0 where
    pub room : Room limit grown out
    pub some : 0 < grown.rows
    pub same : length out ≡ length first
    pub rest : (r : Builder) (end : List ℕ) → Grown limit parent grown out left r end →
        Grown limit parent start first whole r end

module _ {limit parent : ℕ} {start : Builder} {first : List ℕ} {whole : Forest picture_signature} where
  pub onward_start : {left : Forest picture_signature} → Room limit start first → 0 < start.rows → whole ≡ left →
      Onward limit parent start first whole left start first
  onward_start {left} room some e =
      record {
        room = room;
        some = some;
        same = refl;
        rest = λ r end g. grown_same limit parent start r first end left
            whole (sym e) g;
      }

  module _ {left one : Forest picture_signature} (later : Forest picture_signature)
      (parts : left ≡ append picture_signature one later) {grown r : Builder} {out end : List ℕ}
      (at : Onward limit parent start first whole left grown out) (more : Grown limit parent grown out one r end) where
    pub onward_next : r.rows ≤ limit → Onward limit parent start first whole later r end
    onward_next l =
        record {
          room = grown_room limit parent grown r out end one at.room more l;
          some = omega (arith, more.count, at.some);
          same = more.same ∙ at.same;
          rest = λ s last g.
              at.rest s last
              (grown_same limit parent grown s out last (append picture_signature one later) left (sym parts)
              (grown_append limit parent grown r s out end last one later more g));
        }

    pub onward_full : limit < r.rows → Grown limit parent start first whole r end
    onward_full l =
        at.rest r end
        (grown_same limit parent grown r out end (append picture_signature one later) left (sym parts)
        (grown_full limit parent grown r out end one (append picture_signature one later) more l
        (omega (arith, sizes_append picture_signature one later))))

  pub onward_end : {left : Forest picture_signature} {grown : Builder} {out : List ℕ} → left ≡ nil →
      Onward limit parent start first whole left grown out →
      Grown limit parent start first whole grown out
  onward_end {left} {grown} {out} none at =
      at.rest grown out (grown_same limit parent grown grown out out nil left (sym none)
      (grown_nil limit parent grown out at.room))

-- the pair of the two roots is all of it
pub built_root : (limits : Limits) (t : Tree picture_signature) (b r : Builder) (out end : List ℕ) → b.rows ≡ 0 →
    Grown limits.rows 0 b out (cons exists 0 t nil) r end → Built limits t out r end
built_root limits t b r out end z g = record {
  count = omega (arith, g.count);
  same = g.same;
  bytes_are = λ h.
      g.written (omega arith)
      ∙ ap (λ (n : ℕ). prefix n out ++ rows_from n (encode_forest picture_signature (cons exists 0 t nil) 0 n)) z
      ∙ ap (rows_from 0) (append-nil (encode picture_signature t));
}
