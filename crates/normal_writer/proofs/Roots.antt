-- The root: the merged tree that the code begins with is never dropped, and so what was grown from nothing is the normal
-- table.
--   grown_built     what was grown from nothing with it is the normal table
use Prim.Native.Nat.{◌<◌, ℕ}
use mathlib.Core.Bool.{false}
use mathlib.Core.List.{List, append-nil}
use mathlib.Core.Path.{◌∙◌, ◌≡◌, ap, subst}
use native.Mathlib.Omega.{arith}
use Rattle.ale.specs.Encoding.{encode}
use Rattle.ale.specs.PictureSignature.{picture_signature}
use Rattle.ale.specs.Tree.{cons, exists, nil}
use Rattle.meaning.specs.File.{rows_from}
use Rattle.meaning.specs.NormalTable.{merged_count, merged_tree, normal_tree_of}
use Rattle.table.specs.declared.layout.Limits.{Limits}
use Rattle.row_sets.proofs.Roots.{merged_root}
use Rattle.row_sets.specs.Parts.{merged_at}
use Rattle.row_sets.specs.Rows.{also}
use Rattle.normal_writer.specs.Built.{Built}
use Rattle.normal_writer.specs.Grown.{Grown}
use Rattle.normal_writer.specs.declared.node.Branch.{Branch}

-- what was grown from nothing with the merged tree
module _ (limits : Limits) (s : List ℕ) (b r : Branch) (out end : List ℕ) (first : b.table.rows ≡ 0) (none : b.merged ≡ 0)
    (grown : Grown limits.rows 0 b out (cons exists 0 (merged_tree limits s) nil) r end) where
  tree_built : Built limits s out r end
  unfolding merged_count normal_tree_of merged_tree
  tree_built = record {
    count = omega (arith, grown.count);
    same = grown.same;
    fewer = grown.fewer;
    rows_are = λ few. omega (arith, (grown.written (omega arith)).rows_are);
    bytes_are = λ few.
        (rw first at (grown.written (omega arith)).bytes_are)
        ∙ ap (λ w. rows_from 0 w) (append-nil (encode picture_signature (normal_tree_of limits s)));
  }

pub grown_built : (limits : Limits) (s : List ℕ) (rows : ℕ) (b r : Branch) (out end : List ℕ) → 0 < rows → b.table.rows ≡ 0 → b.merged ≡ 0 →
    Grown limits.rows 0 b out (cons exists 0 (merged_at s rows limits.depth (also 0 (λ j. false))) nil) r end →
    Built limits s out r end
grown_built limits s rows b r out end rooted first none grown =
    tree_built limits s b r out end first none
    (subst (λ t. Grown limits.rows 0 b out (cons exists 0 t nil) r end) (merged_root limits s rows rooted) grown)
