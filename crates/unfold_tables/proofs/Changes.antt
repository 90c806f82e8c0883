-- Laws of pictures that unfolding changes, and of those that it does not.
--   wants_no_name   without names nothing is wanted
--   rows_most       a picture has no more rows than the code can hold
--   part_file       a part that is the unfolded picture can be read
--   changing        a picture that wants a defined name, as the code asks it
--   own_file        one that wants none is its own unfolded picture
--   made_file       the file that is written is the unfolded picture
use Prim.Native.Nat.{◌≤◌, ℕ}
use lib.Bits.{and_zero_r}
use lib.Dec.{eqb}
use lib.ListN.{length}
use mathlib.Core.Bool.{false, not, true}
use mathlib.Core.List.{List}
use mathlib.Core.Path.{◌∙◌, ◌≡◌, ap, subst, sym}
use native.Mathlib.Omega.{arith}
use borrow.Author.Tests.{leb-true}
use Rattle.table.specs.Bounds.{max_rows, picture_size}
use Rattle.table.specs.NameSet.{none}
use Rattle.table.specs.declared.layout.Limits.{Limits}
use Rattle.picture.proofs.Readables.{readable_most}
use Rattle.picture.specs.Readable.{Readable, row_count}
use Rattle.meaning.specs.Meaning.{picture_table}
use Rattle.definitions.proofs.Idle.{file_own}
use Rattle.definitions.proofs.Unfolds.{unfolded_readable}
use Rattle.definitions.specs.Unfolded.{unfolded_count, unfolded_few, unfolded_file}
use Rattle.unfold_rows.proofs.UnfoldedFiles.{unfolded_count_is, unfolded_file_is, wants_same}
use Rattle.unfold_rows.proofs.Wanting.{wants_none}
use Rattle.unfold_rows.specs.Growing.{Filed}
use Rattle.unfold_rows.specs.Takings.{wants_names}
use Rattle.unfold_tables.specs.Ready.{Changing, Made, Unfolding}

pub wants_no_name : (s : List ℕ) → false ≡ wants_names s none
wants_no_name s =
    wants_none s none (λ k l. ap (λ z. not (eqb z none)) (and_zero_r ((picture_table s).label k).wanted.set))

module _ (limits : Limits) (tbox starts : List ℕ) (defined : ℕ) (picture : List ℕ) where
  pub rows_most : Unfolding limits tbox starts defined picture → row_count picture ≤ max_rows
  rows_most u = omega (arith, readable_most limits picture u.readable, u.ready.bounded.0)

  pub part_file : Unfolding limits tbox starts defined picture → (part : List ℕ) →
      part ≡ unfolded_file limits tbox picture → Readable limits part
  part_file u part is =
      subst (Readable limits) (sym is)
      (unfolded_readable limits u.ready.bounded tbox u.ready.definable picture u.readable u.unfolds)

  pub changing : Unfolding limits tbox starts defined picture → wants_names picture defined ≡ true →
      Changing limits tbox starts defined picture
  changing u wants = record {
    ready = u;
    wants = sym (wants_same tbox picture starts defined u.ready.agrees) ∙ wants;
  }

  pub own_file : Unfolding limits tbox starts defined picture → wants_names picture defined ≡ false →
      unfolded_file limits tbox picture ≡ picture
  own_file u idle =
      file_own limits tbox picture (sym (wants_same tbox picture starts defined u.ready.agrees) ∙ idle)

  pub made_file : Changing limits tbox starts defined picture → (r : ℕ) (d e : List ℕ) →
      picture_size limits ≤ length d → Filed picture tbox starts defined limits.rows r d e →
      Made limits tbox picture r d e
  unfolding unfolded_few
  made_file c r d e room filed =
      let u = c.ready in
      let count = unfolded_count_is tbox picture starts defined u.ready.agrees limits r d e filed u.unfolds.few in
      let few = leb-true (unfolded_count limits tbox picture) limits.rows u.unfolds.few in
      record {
        same = filed.same_length;
        few = omega (arith, count, few, u.ready.bounded.0);
        there = omega (arith, count, few, filed.same_length, room);
        file = unfolded_file_is tbox picture starts defined u.ready.agrees limits r d e filed u.unfolds.few
            c.wants;
      }
