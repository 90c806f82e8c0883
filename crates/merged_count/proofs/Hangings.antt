-- Laws of what hangs from a set of rows.
--   hung_none                         nothing, from no rows
--   hung_with_is                         from a set with row c
--   walk_start, walk_next, walk_end   the walk over the rows of a set: those before the next have been met
--   tree_size_is, beside_size_is            the merged rows of a set, by what hangs from it; those of the set with row c
--   beside_leaf, beside_more          the latter: nothing hangs from row c; by what hangs from row c as well
use Prim.Native.Nat.{◌<◌, suc, ℕ}
use borrow.Author.Tests.{le-ltb, lt-ltb}
use lib.Dec.{eqb, ltb}
use lib.ListN.{get_or}
use mathlib.Core.Bool.{Bool, ◌&&◌, ◌||◌, false, false≢true}
use mathlib.Core.List.{List}
use mathlib.Core.Path.{◌∙◌, ◌≡◌, ap, sym}
use native.Mathlib.Omega.{arith}
use Rattle.table.proofs.Tests.{refuted}
use Rattle.table.specs.Bounds.{max_rows}
use Rattle.table.specs.Fields.{parent_of}
use Rattle.table_rows.specs.Links.{Linked}
use Rattle.ale.specs.PictureSignature.{picture_signature}
use Rattle.ale.specs.Tree.{size, sizes}
use Rattle.row_sets.specs.Parts.{merged_at}
use Rattle.row_sets.specs.Rows.{Checked, Hung, also, hangs, holds}
use Rattle.row_sets.specs.declared.rows.RowSet.{RowSet}
use Rattle.row_sets.specs.declared.rows.Successors.{Successors}
use Rattle.std.proofs.Common.{None, Some}
use Rattle.row_sets.specs.Walks.{MemberStep}
use Rattle.row_sets.specs.declared.members.Members.{Members}
use Rattle.row_sets.proofs.Gathers.{more, skip}
use Rattle.row_sets.proofs.MemberWalks.{Over, last_row, next_row}
use Rattle.row_sets.proofs.LabelLaws.{known_with, none_hangs, same_hangs, with_hangs}
use Rattle.row_sets.proofs.Links.{hangs_successor}
use Rattle.row_sets.proofs.PartLaws.{merged_node, successors_same}
use Rattle.merged_count.specs.Count.{HungFrom, beside_size, hung_with, tree_size}

module _ (s : List ℕ) (rows : ℕ) where
  pub hung_none : (r : Successors) → ((j : ℕ) → holds r.set j ≡ false) → HungFrom s rows (λ j. false) r
  hung_none r empty =
      record {
        set_is = λ j l. empty j ∙ sym (none_hangs s j);
        known = record { rootless = empty 0; known = λ j l h. absurd (false≢true (sym (empty j) ∙ h)) };
      }

  with_is : (q : ℕ → Bool) (c : ℕ) (below : Successors) → HungFrom s rows q below →
      (k : ℕ) → k < rows → hung_with s c below k ≡ hangs s (also c q) k
  with_is q c below from k b =
      ap (λ (t : Bool). hangs s (λ i. eqb i c) k || t) (from.set_is k b) ∙ with_hangs s q c k

  pub hung_with_is : (q : ℕ → Bool) (c : ℕ) (below r : Successors) → c < rows → HungFrom s rows q below →
      Hung s rows c below r → HungFrom s rows (also c q) r
  hung_with_is q c below r l from hung =
      record {
        set_is = λ k b. hung.set_is k b ∙ with_is q c below from k b;
        known = known_with s rows c below r l from.known hung;
      }

  tree_same : (p p' : ℕ → Bool) → ((j : ℕ) → j < rows → p j ≡ p' j) → (depth : ℕ) →
      tree_size s rows depth p ≡ tree_size s rows depth p'
  tree_same p p' same depth = ap (λ f. suc (sizes picture_signature f)) (successors_same s rows p p' same depth)

  pub beside_leaf : (links : List ℕ) (below : Successors) (c : ℕ) → Linked (parent_of s) rows max_rows links →
      c < rows → get_or links c 0 ≡ 0 → (depth : ℕ) →
      beside_size s rows depth c below ≡ tree_size s rows depth (holds below.set)
  beside_leaf links below c linked l leaf =
      tree_same (hung_with s c below) (holds below.set)
      (λ k b. ap (λ (t : Bool). t || holds below.set k) (none k b))
    where
      none : (k : ℕ) → k < rows → hangs s (λ i. eqb i c) k ≡ false
      none k b =
          refuted (hangs s (λ i. eqb i c) k) (λ h.
          let (later, under) = hangs_successor s c k h in
          ((linked.lowest c l).first k later (omega (arith, later)) b under).0 leaf)

  pub beside_more : (c : ℕ) (below r : Successors) → Hung s rows c below r → (depth : ℕ) →
      beside_size s rows depth c below ≡ tree_size s rows depth (holds r.set)
  beside_more c below r hung depth =
      sym (tree_same (holds r.set) (hung_with s c below) hung.set_is depth)

  module _ (checked : Checked s rows) where
    size_node : (q : ℕ → Bool) (depth : ℕ) →
        size picture_signature (merged_at s rows depth q) ≡ tree_size s rows depth (hangs s q)
    size_node q depth = ap (size picture_signature) (merged_node s rows checked q depth)

    module _ (q : ℕ → Bool) (below : Successors) (from : HungFrom s rows q below) (depth : ℕ) where
      pub tree_size_is : size picture_signature (merged_at s rows depth q) ≡ tree_size s rows depth (holds below.set)
      tree_size_is = size_node q depth ∙ sym (tree_same (holds below.set) (hangs s q) from.set_is depth)

      pub beside_size_is : (c : ℕ) →
          size picture_signature (merged_at s rows depth (also c q)) ≡ beside_size s rows depth c below
      beside_size_is c =
          size_node (also c q) depth
          ∙ sym (tree_same (hung_with s c below) (hangs s (also c q)) (with_is q c below from) depth)

    hung_same : (q q' : ℕ → Bool) (r : Successors) → ((j : ℕ) → j < rows → q j ≡ q' j) →
        HungFrom s rows q r → HungFrom s rows q' r
    hung_same q q' r same from =
        record {
          set_is = λ j l. from.set_is j l ∙ same_hangs s rows q q' checked same j l;
          known = from.known;
        }

    module _ (set : RowSet) where
      abbrev before : ℕ → ℕ → Bool
      before n k = ltb k n && holds set k

      pub walk_start : (from : ℕ) (r : Successors) → from ≡ 0 → ((j : ℕ) → holds r.set j ≡ false) →
          HungFrom s rows (before from) r
      walk_start from r first empty =
          hung_same (λ j. false) (before from) r (λ k l. rw (first, le-ltb k 0 (omega arith))) (hung_none r empty)

      module _ (m n : Members) (over : Over set rows m) where
        pub walk_next : (j : ℕ) (below r : Successors) → MemberStep m (Some j) n → HungFrom s rows (before m.from) below →
            Hung s rows j below r → HungFrom s rows (before n.from) r
        walk_next j below r step from hung =
            let (l, next, on) = next_row set rows m n over j step in
            hung_same (also j (before m.from)) (before n.from) r
            (λ k b.
            rw on
            (ap (λ (t : Bool). eqb k j || t) (skip (holds set) m.from j k next.onward (λ x y. next.between k x y b))
            ∙ more (holds set) j k (next.held l)))
            (hung_with_is (before m.from) j below r l from hung)

        pub walk_end : (r : Successors) → MemberStep m None n → HungFrom s rows (before m.from) r →
            HungFrom s rows (holds set) r
        walk_end r step from =
            let last = last_row set rows m n over step in
            hung_same (before m.from) (holds set) r
            (λ k b.
            skip (holds set) m.from rows k last.onward (λ x y. last.between k x y b) ∙ rw (lt-ltb k rows b))
            from
