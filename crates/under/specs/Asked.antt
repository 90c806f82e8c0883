-- "Checks, after all reading and before the first 14" (02, U3): what each call asks in all, in its order. 14 and what
-- comes after it are asked of the unfolded pictures. The answers are `onAsked`, and what the buffers hold is `kept`, of
-- these (proofs/Asked); but what the work space of the common picture and of the check holds is `kept` of
-- `pairAskedUnder`, since 15 and 16 to 23 are asked once both tables stand in it.
--   one_asked_under           of one picture, with the length of the result buffer
--   pair_asked_under          of two, with whether the buffers are long enough
--   subsumes_asked_under      .. for the verdict with evidence
--   lcs_asked_under           .. and 15, for the common picture
--   verify_asked_under        .. and 16 to 23, for the check of evidence
--   card_few                 14 of card k
--   most_specific_asked_under  of a case and a book
use Rattle.std.specs.Prelude.{ℕ, leb, Bool, List}
use Rattle.table.specs.Bounds.{picture_size}
use Rattle.table.specs.declared.layout.Limits.{Limits}
use Rattle.picture.specs.Asked.{and_then, asked_from, Asked}
use Rattle.picture.specs.declared.answer.Input.TheVariants.{Card, First, Second}
use Rattle.normal.specs.Call.{merged_asked}
use Rattle.workspace.specs.Lent.{roomy}
use Rattle.workspace.specs.Prepare.{work_size}
use Rattle.evidence.specs.Call.{evidence_asked}
use Rattle.subsumption.specs.Verdict.{evidence_size}
use Rattle.lcs.specs.Call.{large_asked}
use Rattle.book.specs.Form.{card, card_count}
use Rattle.definitions.specs.Unfolded.{unfolded_file}
use Rattle.under.specs.Book.{book_before}
use Rattle.under.specs.Given.{lent_under, one, pair}

module _ (limits : Limits) (tbox : List ℕ) where
  abbrev unfolded : List ℕ → List ℕ
  unfolded picture = unfolded_file limits tbox picture

  abbrev pub one_asked_under : List ℕ → ℕ → Asked
  one_asked_under picture room =
      and_then (lent_under limits (leb (picture_size limits) room) tbox (one picture))
      (merged_asked limits First (unfolded picture))

  abbrev pub pair_asked_under : Bool → List ℕ → List ℕ → Asked
  pair_asked_under enough first second =
      and_then (lent_under limits enough tbox (pair first second))
      (and_then (merged_asked limits First (unfolded first))
      (merged_asked limits Second (unfolded second)))

  abbrev pub subsumes_asked_under : List ℕ → List ℕ → ℕ → ℕ → Asked
  subsumes_asked_under first second work result =
      pair_asked_under (roomy limits (evidence_size limits) work result) first second

  abbrev pub lcs_asked_under : List ℕ → List ℕ → ℕ → ℕ → Asked
  lcs_asked_under first second work result =
      and_then (pair_asked_under (roomy limits (picture_size limits) work result) first second)
      (large_asked limits (unfolded first) (unfolded second))

  abbrev pub verify_asked_under : List ℕ → List ℕ → List ℕ → ℕ → Asked
  verify_asked_under first second evidence room =
      and_then (pair_asked_under (leb (work_size limits) room) first second)
      (evidence_asked limits (unfolded first) (unfolded second) evidence)

  abbrev pub card_few : List ℕ → ℕ → Asked
  card_few book k = merged_asked limits (Card k) (unfolded (card book k))

  abbrev pub most_specific_asked_under : List ℕ → List ℕ → ℕ → Asked
  most_specific_asked_under case book room =
      and_then (book_before limits tbox case book room)
      (and_then (merged_asked limits First (unfolded case))
      (asked_from (card_few book) (card_count book) 0))
