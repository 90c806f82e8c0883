-- The three ways in which a row is left, by the two tests.
--   left_inconsistent, left_dropped, left_whole
use Prim.Native.Nat.{◌+◌, ℕ}
use lib.Dec.{eqb}
use mathlib.Core.Bool.{◌||◌, false, not, true}
use mathlib.Core.List.{List}
use mathlib.Core.Path.{◌≡◌, ap, sym, ◌∙◌}
use Rattle.table.specs.Fields.{row_of}
use Rattle.table.specs.Layout.{kind_for_all, «place»}
use Rattle.table.specs.NameSet.{none}
use Rattle.table.specs.Put.{put}
use Rattle.table.proofs.Bools.{or_none}
use Rattle.normal_writer.specs.Grown.{Left, is_inconsistent, is_dropped}
use Rattle.normal_writer.specs.declared.node.Branch.{Branch}
use Rattle.normal_writer.specs.declared.node.Edge.{Edge}
use Rattle.row_sets.specs.declared.label.Label.{Label}

module _ (b : Branch) (edge : Edge) (label : Label) (below r : Branch) (out end : List ℕ) where
  pub left_inconsistent : (w e : ℕ) → is_inconsistent label below ≡ true → r.merged ≡ below.merged → r.table.rows ≡ b.table.rows + 1 → r.bottom ≡ (b.bottom || not (eqb edge.kind kind_for_all)) → w ≡ none → e ≡ none → end ≡ put out (place b.table.rows 0) (row_of edge.parent edge.kind edge.role 1 w e) → Left b edge label below out r end
  left_inconsistent w e β m n z ew ee p = record {
    counted = m;
    rows_are = rw β n;
    bottom_is = rw β z;
    bytes_are =
        rw β
        (p ∙ ap (λ (x : ℕ). put out (place b.table.rows 0) (row_of edge.parent edge.kind edge.role 1 x e)) ew
        ∙ ap (λ (x : ℕ). put out (place b.table.rows 0) (row_of edge.parent edge.kind edge.role 1 none x)) ee);
  }

  pub left_dropped : is_inconsistent label below ≡ false → is_dropped b edge label below ≡ true → r.merged ≡ below.merged → r.table.rows ≡ b.table.rows → r.bottom ≡ b.bottom → end ≡ out → Left b edge label below out r end
  left_dropped β δ m n z p = record { counted = m; rows_are = rw (β, δ) n; bottom_is = rw β (z ∙ sym (or_none b.bottom)); bytes_are = rw β p }

  pub left_whole : is_inconsistent label below ≡ false → is_dropped b edge label below ≡ false → r.merged ≡ below.merged → r.table.rows ≡ below.table.rows → r.bottom ≡ b.bottom → end ≡ out → Left b edge label below out r end
  left_whole β δ m n z p = record { counted = m; rows_are = rw (β, δ) n; bottom_is = rw β (z ∙ sym (or_none b.bottom)); bytes_are = rw β p }
