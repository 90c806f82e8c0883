-- Laws of the questions of two pictures, and of their tables in the halves of the work space.
--   many_first, many_second, both_few   14 of both, by the tests
--   short_asked, long_asked             all questions, by whether the buffers are long enough
--   refused_first, refused_second,
--   both_read                           those after 1, by the answers of reading both
--   empty_opened                        an empty book changes nothing
--   opened_no, opened_yes               those after the readings, by the answer of the definitions book,
--   opened_unfolds                      and what unfolding needs where that is yes
--   half_long                           a half is as long as the longest picture
--   halves_built                        both normal files in the halves
use Prim.Native.Nat.{◌+◌, ◌-◌, ◌≤◌, ℕ}
use borrow.Author.Tests.{le-leb}
use borrow.Rule.Slice.PartMut.{put_mid}
use lib.Dec.{leb}
use lib.ListN.{drop, length}
use mathlib.Core.Bool.{Bool, false, true}
use mathlib.Core.List.{List, ◌++◌}
use mathlib.Core.Path.{◌∙◌, ◌≡◌, ap, sym}
use native.Mathlib.Omega.{arith}
use Rattle.std.proofs.Common.{Err, Ok, Result}
use Rattle.table.specs.Bounds.{picture_size}
use Rattle.table.specs.Fields.{ends_at}
use Rattle.table.specs.Range.{each}
use Rattle.table.specs.declared.layout.Limits.{Limits}
use Rattle.picture.proofs.Orders.{refused_no, rows_yes}
use Rattle.picture.specs.Asked.{kept, on_asked, yes}
use Rattle.picture.specs.Read.{answer_of}
use Rattle.picture.specs.Readable.{Readable}
use Rattle.picture.specs.Refusal.{short_buffer, too_many}
use Rattle.picture.specs.declared.answer.Input.TheVariants.{First, Second}
use Rattle.picture.specs.declared.answer.Refusal.{Refusal}
use Rattle.meaning.proofs.Normals.{normal_size}
use Rattle.meaning.specs.NormalTable.{merged_count, normal_file}
use Rattle.normal.specs.Call.{merged_asked}
use Rattle.normal.specs.Half.{half_of}
use Rattle.normal.proofs.Halves.{length_half}
use Rattle.workspace.proofs.Halves.{put_halves}
use Rattle.workspace.specs.Prepare.{halves_put}
use Rattle.fields.proofs.Forms.{field_first, form_count}
use Rattle.fields.specs.Form.{fields_form}
use Rattle.definitions.proofs.Empty.{empty_asked, empty_unfolded}
use Rattle.definitions.proofs.Questions.{definitions_decides}
use Rattle.definitions.specs.Asked.{Picture, asked_of, definitions_asked}
use Rattle.definitions.specs.Unfolded.{Unfolds}
use Rattle.definitions.specs.Form.{definition_count, definition_tag, definitions_form}
use Rattle.under.specs.Asked.{pair_asked_under}
use Rattle.under.specs.Given.{lent_under, pair, under_asked}
use Rattle.prepare_pair.specs.Tables.{both_merged, halves_under, merged_under, opened_asked}
use Rattle.prepare_pair.specs.declared.prepare.Pair.{Pair}
use Rattle.prepare_pair.specs.Tables.{read_under, tables_of, tables_under}

module _ (limits : Limits) (first second : List ℕ) where
  pub many_first : leb (merged_count limits first) limits.rows ≡ false → both_merged limits first second
      ≡ Err (too_many First)
  unfolding merged_asked
  many_first e = rw e

  module _ (few : merged_count limits first ≤ limits.rows) where
    pub many_second : leb (merged_count limits second) limits.rows ≡ false → both_merged limits first second
        ≡ Err (too_many Second)
    unfolding merged_asked
    many_second e = rw (le-leb (merged_count limits first) limits.rows few, e)

    pub both_few : merged_count limits second ≤ limits.rows → both_merged limits first second ≡ yes
    unfolding merged_asked
    both_few few-second = rw (
      le-leb (merged_count limits first) limits.rows few,
      le-leb (merged_count limits second)
          limits.rows few-second,
    )

-- ---- under a definitions book

module _ (limits : Limits) (tbox first second : List ℕ) where
  abbrev given : List Picture
  given = pair first second

  pub short_asked : (enough : Bool) → enough ≡ false →
      pair_asked_under limits tbox enough first second ≡ Err short_buffer
  unfolding lent_under
  short_asked enough e = rw e

  pub long_asked : (enough : Bool) → enough ≡ true →
      pair_asked_under limits tbox enough first second ≡ read_under limits tbox first second
  unfolding lent_under
  long_asked enough e = rw e

  -- after the readings
  pub refused_first : (r : Refusal) → answer_of limits First first ≡ Err r →
      read_under limits tbox first second ≡ Err r
  unfolding under_asked asked_of
  refused_first r read = rw (refused_no limits First first r read)

  module _ (n : ℕ) (read : answer_of limits First first ≡ Ok n) where
    pub refused_second : (r : Refusal) → answer_of limits Second second ≡ Err r →
        read_under limits tbox first second ≡ Err r
    unfolding under_asked asked_of
    refused_second r read-second =
        rw (rows_yes limits First first n read, refused_no limits Second second r read-second)

    pub both_read : (m : ℕ) → answer_of limits Second second ≡ Ok m →
        read_under limits tbox first second ≡ opened_asked limits tbox first second
    unfolding under_asked asked_of
    both_read m read-second = rw (rows_yes limits First first n read, rows_yes limits Second second m read-second)

  -- the end field is all of the book
  module _ (ends : ends_at tbox 0 ≡ true) where
    no_fields : (fields_form definition_tag tbox ≡ true) × (definition_count tbox ≡ 0)
    no_fields =
        form_count definition_tag tbox (λ e. let z : ◌≡◌ {A = ℕ} 0x61 0x2F = e in omega arith) 0
        (record { most = omega arith; fields = λ k l. absurd (omega arith); ends = rw (field_first tbox) ends })

    empty_form : definitions_form tbox ≡ true
    unfolding definitions_form each
    empty_form = rw (no_fields.0, no_fields.1)

    pub empty_opened : Readable limits first → Readable limits second → (r : Result Pair Refusal) (old new : List ℕ) →
        (r ≡ on_asked (both_merged limits first second) (Ok (tables_of limits first second)))
        × (new ≡ kept (both_merged limits first second) (halves_put limits first second old) old) →
        (r ≡ on_asked (opened_asked limits tbox first second) (Ok (tables_under limits tbox first second)))
        × (new ≡ kept (opened_asked limits tbox first second) (halves_under limits tbox first second old) old)
    empty_opened readable readable-second r old new done =
        let (_, empty) = no_fields in
        rw (
          empty_asked tbox empty empty_form limits given (readable, (readable-second, tt)),
          empty_unfolded tbox empty limits first,
          empty_unfolded tbox empty limits second,
        )
        done

  -- after the questions of the book
  pub opened_no : (r : Refusal) → definitions_asked limits tbox given ≡ Err r →
      opened_asked limits tbox first second ≡ Err r
  opened_no r e = rw e

  module _ (all : definitions_asked limits tbox given ≡ yes) where
    pub opened_yes : opened_asked limits tbox first second ≡ merged_under limits tbox first second
    opened_yes = rw all

    pub opened_unfolds : Unfolds limits tbox first × Unfolds limits tbox second
    opened_unfolds =
        let (_, (unfolds, (unfolds-second, _))) = (definitions_decides limits tbox given).yes.0 all in
        (unfolds, unfolds-second)

-- what the writer leaves in a half is as long as the half
pub half_long : (limits : Limits) (s l : List ℕ) → merged_count limits s ≤ limits.rows →
    l ≡ half_of limits (normal_file limits s) → length l ≡ picture_size limits
half_long limits s l few is = ap length is ∙ length_half limits (normal_file limits s) (normal_size limits s few)

-- the lower half as it comes back, and then the upper one, which ends at a place
pub halves_built : (limits : Limits) (first second work l₁ l₂ : List ℕ) (a end : ℕ) →
    merged_count limits first ≤ limits.rows → merged_count limits second ≤ limits.rows → a ≡ picture_size limits →
    end ≡ a + a → l₁ ≡ half_of limits (normal_file limits first) →
    l₂ ≡ half_of limits (normal_file limits second) →
    put_mid a (end - a) (l₁ ++ drop a work) l₂ ≡ halves_put limits first second work
unfolding halves_put
halves_built limits first second work l₁ l₂ a end few few-second half last lower upper =
    put_halves a l₁ l₂ (half_long limits first l₁ few lower ∙ sym half)
    (half_long limits second l₂ few-second upper ∙ sym half) work end last
    ∙ rw (lower, upper)
