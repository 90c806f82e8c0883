-- Laws of what the call has answered and written.
--   table_fits      a table that was made, or no row, fits where it was made and a result buffer
--   table_written_is   14 by its rows, and the table in the result buffer
--   written_as      the same under a book, where all is answered yes
--   written_empty   the same under a book of the end field alone
--   written_no      a question before 14 is answered no
--   one_short       what is asked in all: 1 is answered no;
--   one_unread      or 2 to 13;
--   one_read        else the questions of the book, and 14
--   under_by        the answer and the result buffer, by what is asked in all
--   under_no        and where a question is answered no
use Prim.Native.Nat.{◌<◌, ◌≤◌, ℕ}
use borrow.Author.Tests.{eqb-false, eqb-true, le-leb, lt-leb}
use lib.Dec.{eqb}
use lib.ListN.{length, take}
use mathlib.Core.Bool.{Bool, true}
use mathlib.Core.List.{List}
use mathlib.Core.Path.{◌∙◌, ◌≡◌, ap, refl, sym}
use native.Mathlib.Omega.{arith}
use Rattle.std.proofs.Common.{Err, Ok, Result}
use Rattle.table.proofs.Bools.{by_test}
use Rattle.table.specs.Bounds.{Bounded, max_rows, picture_size}
use Rattle.table.specs.Fields.{ends_at}
use Rattle.table.specs.Layout.{end_size, «place»}
use Rattle.table.specs.Pick.{pick}
use Rattle.table.specs.Put.{put}
use Rattle.table.specs.declared.layout.Limits.{Limits}
use Rattle.picture.proofs.Keeping.{kept_no, kept_yes}
use Rattle.picture.proofs.Orders.{on_no, on_yes}
use Rattle.picture.specs.Asked.{and_then, kept, on_asked, read_asked, Asked, yes}
use Rattle.picture.specs.Readable.{Readable}
use Rattle.picture.specs.Refusal.{short_buffer, too_many}
use Rattle.picture.specs.declared.answer.Input.TheVariants.{First}
use Rattle.picture.specs.declared.answer.Refusal.{Refusal}
use Rattle.meaning.specs.NormalTable.{normal_file}
use Rattle.normal.proofs.Answers.{merged_decides, merged_many}
use Rattle.normal.specs.Call.{merged_asked}
use Rattle.normal_writer.proofs.Tablings.{none_many, some_few, tabled_fits, tabled_there}
use Rattle.normal_writer.specs.Tables.{Tabled}
use Rattle.definitions.proofs.Empty.{empty_asked, empty_unfolded}
use Rattle.definitions.specs.Asked.{asked_of, definitions_asked}
use Rattle.definitions.specs.Unfolded.{unfolded_file}
use Rattle.under.proofs.Asked.{normalize_asked, normalize_result_asked}
use Rattle.under.specs.Asked.{one_asked_under}
use Rattle.under.specs.Calls.{normalize_result_under, normalize_under}
use Rattle.under.specs.Given.{lent_under, one, under_asked}
use Rattle.normalize_call.specs.Written.{Written}
use Rattle.normalize_call.proofs.EndAlone.{ends_count, ends_form}

-- ---- a table that was made

module _ (limits : Limits) (bounded : Bounded limits) (s out : List ℕ) (r : ℕ) (end : List ℕ)
    (tabled : Tabled limits s out r end) where
  pub table_fits : picture_size limits ≤ length out →
      (r ≤ max_rows) × (place r end_size ≤ length end) × (place r end_size ≤ picture_size limits)
  table_fits room =
      by_test (eqb r 0)
      (λ e.
      let none = eqb-true r 0 e in
      (omega (arith, none), omega (arith, none, tabled.same, room), omega (arith, none)))
      (λ e.
      let few = some_few limits s out r end bounded tabled (eqb-false r 0 e) in
      let there = tabled_there limits s out r end bounded tabled few room in
      (there.0, there.1, tabled_fits limits s out r end bounded tabled few))

  pub table_written_is : (table result : List ℕ) (a : Result ℕ Refusal) (l : List ℕ) → table ≡ take (place r end_size) end →
      a ≡ pick (eqb r 0) (Err (too_many First)) (Ok (length table)) →
      l ≡ pick (eqb r 0) result (put result 0 table) → Written limits (merged_asked limits First s) s result a l
  table_written_is table result a l is answer bytes =
      by_test (eqb r 0)
      (λ e.
      let many = merged_many limits First s (none_many limits s out r end bounded tabled (eqb-true r 0 e)) in
      record {
        answer = answer ∙ ap (λ (b : Bool). pick b (Err (too_many First)) (Ok (length table))) e
            ∙ sym (on_no _ _ _ many);
        bytes = bytes ∙ ap (λ (b : Bool). pick b result (put result 0 table)) e ∙ sym (kept_no _ _ _ _ many);
      })
      (λ e.
      let few = some_few limits s out r end bounded tabled (eqb-false r 0 e) in
      let all = (merged_decides limits First s).yes.1 few in
      let file = is ∙ tabled.file few in
      record {
        answer = answer ∙ ap (λ (b : Bool). pick b (Err (too_many First)) (Ok (length table))) e
            ∙ ap (λ (t : List ℕ). Ok (length t)) file ∙ sym (on_yes _ _ all);
        bytes = bytes ∙ ap (λ (b : Bool). pick b result (put result 0 table)) e
            ∙ ap (put result 0) file ∙ sym (kept_yes _ _ _ all);
      })

-- ---- under a book

module _ (limits : Limits) (tbox picture result : List ℕ) where
  abbrev unfolded : List ℕ
  unfolded = unfolded_file limits tbox picture

  abbrev before : Asked
  before = definitions_asked limits tbox (one picture)

  abbrev all : Asked
  all = and_then before (merged_asked limits First unfolded)

  pub written_as : (a : Result ℕ Refusal) (l : List ℕ) → before ≡ yes →
      Written limits (merged_asked limits First unfolded) unfolded result a l → Written limits all unfolded result a l
  written_as a l e w = rw e w

  pub written_empty : (a : Result ℕ Refusal) (l : List ℕ) → Readable limits picture → ends_at tbox 0 ≡ true →
      Written limits (merged_asked limits First picture) picture result a l → Written limits all unfolded result a l
  written_empty a l readable ends w =
      let empty = ends_count tbox ends in
      rw (
        empty_asked tbox empty (ends_form tbox ends) limits (one picture) (readable, tt),
        empty_unfolded tbox empty limits picture,
      )
      w

  pub written_no : (r : Refusal) → before ≡ Err r → Written limits all unfolded result (Err r) result
  written_no r e = rw e (record { answer = refl; bytes = refl })

-- ---- with 1 and the reading

module _ (limits : Limits) (tbox picture : List ℕ) (room : ℕ) where
  pub one_short : room < picture_size limits → one_asked_under limits tbox picture room ≡ Err short_buffer
  unfolding lent_under
  one_short short = rw (lt-leb (picture_size limits) room short)

  module _ (long : picture_size limits ≤ room) where
    pub one_unread : (r : Refusal) → read_asked limits First picture ≡ Err r →
        one_asked_under limits tbox picture room ≡ Err r
    unfolding lent_under under_asked asked_of
    one_unread r e = rw (le-leb (picture_size limits) room long, e)

    pub one_read : read_asked limits First picture ≡ yes →
        one_asked_under limits tbox picture room
        ≡ and_then (definitions_asked limits tbox (one picture))
        (merged_asked limits First (unfolded_file limits tbox picture))
    unfolding lent_under under_asked asked_of
    one_read e = rw (le-leb (picture_size limits) room long, e)

-- ---- the call

module _ (limits : Limits) (bounded : Bounded limits) (tbox picture result : List ℕ) where
  pub under_by : (asked : Asked) (a : Result ℕ Refusal) (l : List ℕ) →
      one_asked_under limits tbox picture (length result) ≡ asked →
      Written limits asked (unfolded_file limits tbox picture) result a l →
      (a ≡ normalize_under limits tbox picture (length result)) × (l ≡ normalize_result_under limits tbox picture result)
  under_by asked a l e w =
      let file = normal_file limits (unfolded_file limits tbox picture) in (
        w.answer ∙ ap (λ (x : Asked). on_asked x (Ok (length file))) (sym e)
            ∙ sym (normalize_asked limits bounded tbox picture (length result)),
        w.bytes ∙ ap (λ (x : Asked). kept x (put result 0 file) result) (sym e)
            ∙ sym (normalize_result_asked limits bounded tbox picture result),
      )

  pub under_no : (r : Refusal) → one_asked_under limits tbox picture (length result) ≡ Err r →
      (Err r ≡ normalize_under limits tbox picture (length result))
      × (result ≡ normalize_result_under limits tbox picture result)
  under_no r e = under_by (Err r) (Err r) result e (record { answer = refl; bytes = refl })
