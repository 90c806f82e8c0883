-- The customer's conditions, of the C words and buffers: what is promised, to be read alone. Each sentence stands above
-- the field that says it. proofs/Conditions shows that all of it holds, at any limits that are `Bounded` and at paper
-- 01's. By its contract a C call gives the word and leaves the buffers that Calls says (`..Gives`).
--
-- A word is taken apart by `outcome`, `question`, `input`, `card`, `row`, `byte` and `value` (Word). What a refusal
-- carries, also its row and byte (02, U1), is said by `Refuses` (Answers). The lengths laid down are `workSize`,
-- `evidenceSize` and `pictureSize`: at 256 rows, 12,294, 46,595 and 6,147 bytes.
--
-- All is said of every definitions book `tbox` (02, U3), whatever its bytes. `unfoldedFile limits tbox picture` is a
-- picture unfolded, as a picture file again (definitions, specs/Unfolded). `AcceptableUnder` says what conditions 2 and
-- 3 suppose: 25 to 30 answered yes, and 2 to 13 for the definitions' pictures; both pictures readable, each at most 256
-- rows when unfolded and merged (under, specs/Given); `AcceptableBookUnder`, the same of a case and of the cards of a
-- book (under, specs/Book). `CoversUnder limits tbox second first` says that in every finite interpretation in which a
-- defined name holds of exactly the individuals that fit its picture, each individual fitting the first picture fits
-- the second, by the published meaning (definitions, specs/Covering). `Covers` and the answers of the calls without a
-- definitions book are what these are of one that holds the end field alone (`EmptyWords`).
--
--   Condition1Words                       condition 1, by what is laid down for each call (Answers)
--   Lengths                               buffers of the lengths laid down
--   verdict_given, common_given, check_given,
--   most_specific_given, normal_given        the words of the calls, with given buffers
--   evidence_written, table_written,
--   picture_written                        what is written: the result buffer's bytes up to the length reported
--   MentionsNone                          no row of a picture mentions a defined name
--   Condition2Words                       condition 2
--   Taken, WritesTaken, Condition3Words   condition 3 (its first sentence in `Conditions`)
--   RefutationWords                       the names in a refutation: in one that is written; defined ones in any
--   NormalWords, MostSpecificWords        the normal table; the nearest cards
--   DefinitionsAt, PairAt, PlaceWords     where a refused picture went bad (02, U1), and what a definitions book is
--                                         refused for (02, U3)
--   EmptyWords                            a definitions book without definitions
--   Conditions, PaperNumbers              all of them; the numbers of the papers
use Rattle.std.specs.Prelude.{◌<◌, ◌≤◌, ℕ, length, take, false, true, List, [], ◌↔◌, ◌⊎◌, ◌≡◌}
use Rattle.table.specs.Bounds.{picture_size}
use Rattle.table.specs.Fields.{end_bytes}
use Rattle.table.specs.Layout.{name_count}
use Rattle.table.specs.NameSet.{has}
use Rattle.table.specs.Number.{Bytes}
use Rattle.table.specs.declared.layout.Limits.{Limits}
use Rattle.picture.specs.declared.answer.Input.TheVariants.{Card, First, Second}
use Rattle.picture.specs.declared.answer.Refusal.{Refusal}
use Rattle.meaning.specs.Covering.{Covers}
use Rattle.ale.specs.Interpretation.{Equivalent, Interpretation}
use Rattle.ale.specs.PictureSignature.{picture_signature}
use Rattle.picture.specs.Readable.{FailsAt, Readable}
use Rattle.meaning.specs.Meaning.{picture_table, picture_tree}
use Rattle.meaning.specs.NormalTable.{normal_file}
use Rattle.normal.specs.Call.{normalize_answer, normalize_result}
use Rattle.workspace.specs.Prepare.{work_size}
use Rattle.countermodel.specs.Individual.{individual_names, refutation_form}
use Rattle.countermodel.specs.Layout.{individual_count}
use Rattle.evidence.specs.Call.{verify_answer, verify_work}
use Rattle.evidence.specs.Form.{map_form}
use Rattle.subsumption.specs.Call.{subsumes_answer, subsumes_result, subsumes_work}
use Rattle.subsumption.specs.Mentions.{Excludes, Wants}
use Rattle.subsumption.specs.Verdict.{evidence_size}
use Rattle.lcs.specs.Call.{lcs_answer, lcs_result, lcs_work}
use Rattle.lcs.specs.Product.{lcs_count}
use Rattle.book.specs.Call.{most_specific_answer, most_specific_work}
use Rattle.book.specs.Form.{book_form, card, card_count, card_tag, most_cards}
use Rattle.fields.specs.Form.{most_fields}
use Rattle.definitions.specs.Asked.{Picture}
use Rattle.definitions.specs.Covering.{Belongs, CoversUnder, RespectsBook}
use Rattle.definitions.specs.Form.{definition_tag}
use Rattle.definitions.specs.Refusals.{DefinitionsNo}
use Rattle.definitions.specs.Tbox.{defined_word}
use Rattle.definitions.specs.Unfolded.{unfolded_file}
use Rattle.under.specs.Book.{AcceptableBookUnder, MostSpecificUnder, case_and_cards, most_specific_work_under}
use Rattle.under.specs.Calls.{lcs_result_under, lcs_work_under, normalize_result_under, subsumes_result_under}
use Rattle.under.specs.Calls.{subsumes_work_under, verify_work_under}
use Rattle.under.specs.Description.{LeastCommonUnder}
use Rattle.under.specs.Given.{AcceptableUnder, one, pair}
use Rattle.under.specs.Ignored.{OtherDefined}
use Rattle.interface.specs.Answers.{Answers, buffers, lcs_call, most_specific_call, normalize_call, subsumes_call}
use Rattle.interface.specs.Answers.{validate_call, verify_call}
use Rattle.interface.specs.Calls.{LcsGives, MostSpecificGives, NormalizeGives, SubsumesGives, VerifyGives}
use Rattle.interface.specs.Calls.{lcs_word, most_specific_word, normalize_word, subsumes_word, validate_word}
use Rattle.interface.specs.Calls.{verify_word}
use Rattle.interface.specs.Word.{common_word, normalized_word, outcome, outcome_no, outcome_yes, question}
use Rattle.interface.specs.Word.{refusal_word, refused, refused_at, selected_word, value, value_word, verdict_word}
use Rattle.interface.specs.Word.{verified_word}

-- "1. Whoever calls the library, with whatever bytes and buffers, gets a result or a numbered refusal, each laid down
-- beforehand along with the contents of the buffers."
pub record Condition1Words (limits : Limits) : Type 0 where
  pub validate : (picture : List ℕ) →
      Answers (validate_call limits picture) (buffers [] []) (buffers [] []) (validate_word limits picture)
  pub normalize : (tbox picture result : List ℕ) (word : ℕ) (left : List ℕ) →
      NormalizeGives limits tbox picture result word left →
      Answers (normalize_call limits tbox picture) (buffers [] result) (buffers [] left) word
  pub subsumes : (tbox first second work result : List ℕ) (word : ℕ) (workLeft left : List ℕ) →
      SubsumesGives limits tbox first second work result word workLeft left →
      Answers (subsumes_call limits tbox first second) (buffers work result) (buffers workLeft left) word
  pub lcs : (tbox first second work result : List ℕ) (word : ℕ) (workLeft left : List ℕ) →
      LcsGives limits tbox first second work result word workLeft left →
      Answers (lcs_call limits tbox first second) (buffers work result) (buffers workLeft left) word
  pub verify : (tbox first second evidence work : List ℕ) (word : ℕ) (workLeft : List ℕ) →
      VerifyGives limits tbox first second evidence work word workLeft →
      Answers (verify_call limits tbox first second evidence) (buffers work []) (buffers workLeft []) word
  pub most_specific_is : (tbox case book work : List ℕ) (word : ℕ) (workLeft : List ℕ) →
      MostSpecificGives limits tbox case book work word workLeft →
      Answers (most_specific_call limits tbox case book) (buffers work []) (buffers workLeft []) word

-- buffers of the lengths laid down: a work space, and a result buffer of so many bytes
abbrev pub Lengths : Limits → ℕ → List ℕ → List ℕ → Type 0
Lengths limits size work result = (work_size limits ≤ length work) × (size ≤ length result)

module _ (limits : Limits) (tbox : List ℕ) where
  -- the words of the normal table, the verdict, the common picture, the check and the nearest cards, with given buffers
  abbrev pub normal_given : List ℕ → List ℕ → ℕ
  normal_given picture result = normalize_word limits tbox picture (length result)

  abbrev pub verdict_given : List ℕ → List ℕ → List ℕ → List ℕ → ℕ
  verdict_given first second work result = subsumes_word limits tbox first second (length work) (length result)

  abbrev pub common_given : List ℕ → List ℕ → List ℕ → List ℕ → ℕ
  common_given first second work result = lcs_word limits tbox first second (length work) (length result)

  abbrev pub check_given : List ℕ → List ℕ → List ℕ → List ℕ → ℕ
  check_given first second evidence work = verify_word limits tbox first second evidence (length work)

  abbrev pub most_specific_given : List ℕ → List ℕ → List ℕ → ℕ
  most_specific_given case book work = most_specific_word limits tbox case book (length work)

  -- the result buffer's bytes up to the length that a word reports
  abbrev pub evidence_written : List ℕ → List ℕ → List ℕ → List ℕ → List ℕ
  evidence_written first second work result =
      take (value (verdict_given first second work result))
      (subsumes_result_under limits tbox first second (length work) result)

  abbrev pub table_written : List ℕ → List ℕ → List ℕ
  table_written picture result =
      take (value (normal_given picture result)) (normalize_result_under limits tbox picture result)

  abbrev pub picture_written : List ℕ → List ℕ → List ℕ → List ℕ → List ℕ
  picture_written first second work result =
      take (value (common_given first second work result)) (lcs_result_under limits tbox first second (length work) result)

abbrev pub MentionsNone : List ℕ → List ℕ → Type 0
MentionsNone tbox picture = (n : ℕ) → Wants picture n ⊎ Excludes picture n → has (defined_word tbox) n ≡ false

-- "2. For two readable pictures, each at most 256 rows when merged, and with buffers of the lengths laid down," and
-- "Conditions 2 and 3 suppose 25 to 30, and 2 to 13 for the definitions' pictures, answered yes"
pub record Condition2Words (limits : Limits) (tbox first second : List ℕ) : Type 0 where
  -- "the verdict is yes if and only if, in every finite interpretation, each individual fitting the first picture fits
  -- the second, by the published meaning of the language ALE." "Covering now ranges over interpretations in which a
  -- defined name holds of exactly the individuals that fit its picture"
  pub verdict_yes : (work result : List ℕ) → Lengths limits (evidence_size limits) work result →
      (outcome (verdict_given limits tbox first second work result) ≡ outcome_yes) ↔ CoversUnder limits tbox second first
  -- else it is no: there is no refusal
  pub verdict_no : (work result : List ℕ) → Lengths limits (evidence_size limits) work result →
      (outcome (verdict_given limits tbox first second work result) ≡ outcome_no)
      ↔ (CoversUnder limits tbox second first → ⊥)
  pub verdict_one : (work result : List ℕ) → Lengths limits (evidence_size limits) work result →
      (outcome (verdict_given limits tbox first second work result) ≡ outcome_yes)
      ⊎ (outcome (verdict_given limits tbox first second work result) ≡ outcome_no)
  -- "The common picture covers both inputs, and every picture that covers both covers it;" whatever the buffers.
  -- "'every picture', there and in later requests, means one that excludes no defined name"
  pub common_least : (work result : List ℕ) →
      outcome (common_given limits tbox first second work result) ≡ outcome_yes →
      LeastCommonUnder limits tbox first second (value (common_given limits tbox first second work result))
      (picture_written limits tbox first second work result)
  -- not of the papers: it mentions no defined name
  pub common_undefined : (work result : List ℕ) →
      outcome (common_given limits tbox first second work result) ≡ outcome_yes →
      MentionsNone tbox (picture_written limits tbox first second work result)
  -- "it is refused only when the product laid down in the papers exceeds 256 rows."
  pub common_refused : (work result : List ℕ) → Lengths limits (picture_size limits) work result →
      (outcome (common_given limits tbox first second work result) ≡ outcome_yes)
      ⊎ ((common_given limits tbox first second work result ≡ refused 15 Second)
      × (limits.rows < lcs_count limits (unfolded_file limits tbox first) (unfolded_file limits tbox second)))

-- some bytes are taken: as a map with outcome 1, as a refutation with outcome 2
abbrev pub Taken : Limits → List ℕ → List ℕ → List ℕ → List ℕ → ℕ → Type 0
Taken limits tbox first second work kind =
    (e : List ℕ) × Bytes e × (outcome (check_given limits tbox first second e work) ≡ kind)

pub record WritesTaken (limits : Limits) (tbox first second : List ℕ) (word : ℕ) (evidence : List ℕ) : Type 0 where
  -- "Our writer produces one in at most 46,595 bytes,"
  pub bytes : Bytes evidence
  pub sized : length evidence ≡ value word
  pub at_most : value word ≤ evidence_size limits
  -- "a map exactly when its verdict is yes,"
  pub map_exactly :
      (outcome word ≡ outcome_yes)
      ↔ (map_form (picture_table (normal_file limits (unfolded_file limits tbox second))).rows evidence ≡ true)
  pub refutation_exactly : (outcome word ≡ outcome_no) ↔ (refutation_form limits evidence ≡ true)
  -- "and the check takes it."
  pub taken : (work : List ℕ) → work_size limits ≤ length work →
      check_given limits tbox first second evidence work ≡ value_word (outcome word) 0

pub record Condition3Words (limits : Limits) (tbox first second : List ℕ) : Type 0 where
  -- "For every such pair, in that order, the check takes some map exactly when the second covers the first, and some
  -- refutation exactly when it does not;"
  pub some_map : (work : List ℕ) → work_size limits ≤ length work →
      Taken limits tbox first second work outcome_yes ↔ CoversUnder limits tbox second first
  pub some_refutation : (work : List ℕ) → work_size limits ≤ length work →
      Taken limits tbox first second work outcome_no ↔ (CoversUnder limits tbox second first → ⊥)
  -- "so exactly one of the two kinds can be taken."
  pub one : (work : List ℕ) → work_size limits ≤ length work →
      Taken limits tbox first second work outcome_yes ⊎ Taken limits tbox first second work outcome_no
  pub not_both : (work : List ℕ) →
      Taken limits tbox first second work outcome_yes → Taken limits tbox first second work outcome_no → ⊥
  -- the evidence that our writer leaves in its result buffer
  pub writer : (work result : List ℕ) → Lengths limits (evidence_size limits) work result →
      WritesTaken limits tbox first second (verdict_given limits tbox first second work result)
      (evidence_written limits tbox first second work result)

pub record RefutationWords (limits : Limits) (tbox first second : List ℕ) : Type 0 where
  -- not of the papers, which leave to the program which refutation is written: an individual has no names but such as
  -- the first picture, unfolded, wants or the second excludes,
  pub names : (work result : List ℕ) → outcome (verdict_given limits tbox first second work result) ≡ outcome_no →
      (k n : ℕ) → k < individual_count (evidence_written limits tbox first second work result) →
      has (individual_names (evidence_written limits tbox first second work result) k) n ≡ true →
      Wants (unfolded_file limits tbox first) n ⊎ Excludes (unfolded_file limits tbox second) n
  -- so none that is defined
  pub undefined : (work result : List ℕ) → outcome (verdict_given limits tbox first second work result) ≡ outcome_no →
      (k n : ℕ) → k < individual_count (evidence_written limits tbox first second work result) →
      has (individual_names (evidence_written limits tbox first second work result) k) n ≡ true →
      has (defined_word tbox) n ≡ false
  -- "refutations are checked on unfolded pictures and their defined names ignored": if one is taken, so is every other
  -- that differs from it at defined names alone, whatever bytes stand for the pictures
  pub ignored : (evidence other work : List ℕ) → OtherDefined limits tbox evidence other →
      outcome (check_given limits tbox first second evidence work) ≡ outcome_no →
      outcome (check_given limits tbox first second other work) ≡ outcome_no

-- 01, "Write its normal table": the bytes written are a picture,
pub record NormalWords (limits : Limits) (tbox picture : List ℕ) : Type 0 where
  pub readable : (result : List ℕ) → outcome (normal_given limits tbox picture result) ≡ outcome_yes →
      Readable limits (table_written limits tbox picture result)
  -- which means the same as the unfolded picture,
  pub equivalent : (result : List ℕ) → outcome (normal_given limits tbox picture result) ≡ outcome_yes →
      Equivalent picture_signature (picture_tree limits (unfolded_file limits tbox picture))
      (picture_tree limits (table_written limits tbox picture result))
  -- so it is fitted by what fits the picture, where a defined name holds of what fits its picture
  pub same : (result : List ℕ) → outcome (normal_given limits tbox picture result) ≡ outcome_yes →
      (I : Interpretation picture_signature) → RespectsBook limits tbox I → (x : ℕ) → x < I.count →
      Belongs limits I (table_written limits tbox picture result) x ↔ Belongs limits I picture x
  -- not of the papers: it mentions no defined name
  pub undefined : (result : List ℕ) → outcome (normal_given limits tbox picture result) ≡ outcome_yes →
      MentionsNone tbox (table_written limits tbox picture result)

-- 01, "Nearest cards for a case", with the rule of 02, U2
pub record MostSpecificWords (limits : Limits) (tbox case book : List ℕ) : Type 0 where
  -- a word is given exactly with a work space of the length laid down, for a readable case, a book of the book form,
  -- readable cards, and a definitions book and pictures that pass 25 to 30, each at most 256 rows when unfolded and
  -- merged
  pub given_exactly : (work : List ℕ) →
      (outcome (most_specific_given limits tbox case book work) ≡ outcome_yes)
      ↔ ((work_size limits ≤ length work) × AcceptableBookUnder limits tbox case book)
  -- "The answer is a 32-bit word, bit n for card n." A card is nearest if it covers the case and is not passed over: "A
  -- covering card is passed over exactly when it covers another covering card that does not cover it in return."
  pub nearest : (work : List ℕ) → outcome (most_specific_given limits tbox case book work) ≡ outcome_yes →
      (n : ℕ) →
      (has (value (most_specific_given limits tbox case book work)) n ≡ true) ↔ MostSpecificUnder limits tbox case book n
  -- "the word is not zero whenever some card covers the case"; and only then
  pub some_card : (work : List ℕ) → outcome (most_specific_given limits tbox case book work) ≡ outcome_yes →
      (value (most_specific_given limits tbox case book work) ≡ 0 → ⊥)
      ↔ ((k : ℕ) × (k < card_count book) × CoversUnder limits tbox (card book k) case)
  -- each covering card covers a nearest one
  pub below_each : (work : List ℕ) → outcome (most_specific_given limits tbox case book work) ≡ outcome_yes →
      (k : ℕ) → k < card_count book → CoversUnder limits tbox (card book k) case →
      (n : ℕ) × (has (value (most_specific_given limits tbox case book work)) n ≡ true)
      × CoversUnder limits tbox (card book k) (card book n)
  -- cards of one meaning are nearest together or not at all
  pub together : (work : List ℕ) → outcome (most_specific_given limits tbox case book work) ≡ outcome_yes →
      (m n : ℕ) → m < card_count book → n < card_count book →
      CoversUnder limits tbox (card book m) (card book n) → CoversUnder limits tbox (card book n) (card book m) →
      (has (value (most_specific_given limits tbox case book work)) m ≡ true)
      ↔ (has (value (most_specific_given limits tbox case book work)) n ≡ true)

-- 02, U1, "Refusals 2 to 13 shall also carry the row being read (rows completed so far) and the byte where its field
-- begins, from the picture's first. Every call above the row reader hands them on." So a picture that fails at the
-- field after n rows is refused there, if nothing before it is; and whenever a picture is refused so, it fails there
-- (Answers: `Placed`). 02, U3, "Checks, after all reading and before the first 14, each over all pictures, given ones
-- first, before the next: 25 .. (its pictures then meet 2 to 13); 26, .. 30": once all that is given is read, a refusal
-- of which `DefinitionsNo` holds (definitions, specs/Refusals) is what the call gives: 25, 2 to 13 of a definition's
-- picture with its row and byte, or one of 26 to 30. Both ways, of the questions: `definitions-decides` (definitions,
-- proofs/Questions).

-- of a call whose given pictures are read, by its word
pub record DefinitionsAt (limits : Limits) (tbox : List ℕ) (given : List Picture) (word : ℕ) : Type 0 where
  pub asked_at : (r : Refusal) → DefinitionsNo limits tbox given r → word ≡ refusal_word r

-- of a call on two pictures
pub record PairAt (limits : Limits) (tbox first second : List ℕ) (word : ℕ) : Type 0 where
  pub first_at : (q n : ℕ) → FailsAt limits first q n → word ≡ refused_at q First n
  pub second_at : Readable limits first → (q n : ℕ) → FailsAt limits second q n → word ≡ refused_at q Second n
  pub definitions_at : Readable limits first → Readable limits second →
      DefinitionsAt limits tbox (pair first second) word

pub record PlaceWords (limits : Limits) : Type 0 where
  pub validate : (picture : List ℕ) (q n : ℕ) → FailsAt limits picture q n →
      validate_word limits picture ≡ refused_at q First n
  pub normalize : (tbox picture result : List ℕ) → picture_size limits ≤ length result →
      (q n : ℕ) → FailsAt limits picture q n → normal_given limits tbox picture result ≡ refused_at q First n
  pub normalize_definitions : (tbox picture result : List ℕ) → picture_size limits ≤ length result →
      Readable limits picture → DefinitionsAt limits tbox (one picture) (normal_given limits tbox picture result)
  pub subsumes : (tbox first second work result : List ℕ) → Lengths limits (evidence_size limits) work result →
      PairAt limits tbox first second (verdict_given limits tbox first second work result)
  pub lcs : (tbox first second work result : List ℕ) → Lengths limits (picture_size limits) work result →
      PairAt limits tbox first second (common_given limits tbox first second work result)
  pub verify : (tbox first second evidence work : List ℕ) → work_size limits ≤ length work →
      PairAt limits tbox first second (check_given limits tbox first second evidence work)
  pub case_at : (tbox case book work : List ℕ) → work_size limits ≤ length work →
      (q n : ℕ) → FailsAt limits case q n → most_specific_given limits tbox case book work ≡ refused_at q First n
  pub card_at : (tbox case book work : List ℕ) → work_size limits ≤ length work → Readable limits case →
      book_form book ≡ true → (k : ℕ) → k < card_count book → ((j : ℕ) → j < k → Readable limits (card book j)) →
      (q n : ℕ) → FailsAt limits (card book k) q n →
      most_specific_given limits tbox case book work ≡ refused_at q (Card k) n
  pub cards_definitions : (tbox case book work : List ℕ) → work_size limits ≤ length work → Readable limits case →
      book_form book ≡ true → ((k : ℕ) → k < card_count book → Readable limits (card book k)) →
      DefinitionsAt limits tbox (case_and_cards case book) (most_specific_given limits tbox case book work)

-- 02, U3, "the verdict program passes an empty one": with the end field alone as the definitions book every word and
-- every buffer is that of the calls without a definitions book (normal, subsumption, lcs, evidence and book,
-- specs/Call), covering is covering, and none of 25 to 30 is answered no
pub record EmptyWords (limits : Limits) : Type 0 where
  pub normalize : (picture : List ℕ) (room : ℕ) →
      normalize_word limits end_bytes picture room ≡ normalized_word (normalize_answer limits picture room)
  pub normalize_result_is : (picture result : List ℕ) →
      normalize_result_under limits end_bytes picture result ≡ normalize_result limits picture result
  pub subsumes : (first second : List ℕ) (work result : ℕ) →
      subsumes_word limits end_bytes first second work result
      ≡ verdict_word (subsumes_answer limits first second work result)
  pub subsumes_work_is : (first second work : List ℕ) (result : ℕ) →
      subsumes_work_under limits end_bytes first second work result ≡ subsumes_work limits first second work result
  pub subsumes_result_is : (first second : List ℕ) (work : ℕ) (result : List ℕ) →
      subsumes_result_under limits end_bytes first second work result ≡ subsumes_result limits first second work result
  pub lcs : (first second : List ℕ) (work result : ℕ) →
      lcs_word limits end_bytes first second work result ≡ common_word (lcs_answer limits first second work result)
  pub lcs_work_is : (first second work : List ℕ) (result : ℕ) →
      lcs_work_under limits end_bytes first second work result ≡ lcs_work limits first second work result
  pub lcs_result_is : (first second : List ℕ) (work : ℕ) (result : List ℕ) →
      lcs_result_under limits end_bytes first second work result ≡ lcs_result limits first second work result
  pub verify : (first second evidence : List ℕ) (room : ℕ) →
      verify_word limits end_bytes first second evidence room
      ≡ verified_word (verify_answer limits first second evidence room)
  pub verify_work_is : (first second work : List ℕ) →
      verify_work_under limits end_bytes first second work ≡ verify_work limits first second work
  pub most_specific_is : (case book : List ℕ) (room : ℕ) →
      most_specific_word limits end_bytes case book room ≡ selected_word (most_specific_answer limits case book room)
  pub most_specific_work_is : (case book work : List ℕ) →
      most_specific_work_under limits end_bytes case book work ≡ most_specific_work limits case book work
  pub covers : (first second : List ℕ) → CoversUnder limits end_bytes second first ↔ Covers limits second first
  -- the question of a word, which is 0 of an answer
  pub none_normalize : (picture result : List ℕ) → question (normal_given limits end_bytes picture result) < 25
  pub none_subsumes : (first second work result : List ℕ) →
      question (verdict_given limits end_bytes first second work result) < 25
  pub none_lcs : (first second work result : List ℕ) →
      question (common_given limits end_bytes first second work result) < 25
  pub none_verify : (first second evidence work : List ℕ) →
      question (check_given limits end_bytes first second evidence work) < 25
  pub none_most_specific : (case book work : List ℕ) →
      question (most_specific_given limits end_bytes case book work) < 25

pub record Conditions (limits : Limits) : Type 0 where
  pub one : Condition1Words limits
  pub two : (tbox first second : List ℕ) → AcceptableUnder limits tbox first second →
      Condition2Words limits tbox first second
  -- "3. Whatever bytes reach the check as evidence for two such pictures, from whatever writer, again with such
  -- buffers, a map is taken only if the second covers the first, and a refutation only if it does not." So it is of any
  -- bytes in the place of the pictures and of the definitions book, and with any work space
  pub three_map : (tbox first second evidence work : List ℕ) →
      outcome (check_given limits tbox first second evidence work) ≡ outcome_yes → CoversUnder limits tbox second first
  pub three_refutation : (tbox first second evidence work : List ℕ) →
      outcome (check_given limits tbox first second evidence work) ≡ outcome_no →
      CoversUnder limits tbox second first → ⊥
  pub three : (tbox first second : List ℕ) → AcceptableUnder limits tbox first second →
      Condition3Words limits tbox first second
  pub refutations : (tbox first second : List ℕ) → RefutationWords limits tbox first second
  pub normal : (tbox picture : List ℕ) → NormalWords limits tbox picture
  pub cards : (tbox case book : List ℕ) → MostSpecificWords limits tbox case book
  pub places : PlaceWords limits
  pub empty : EmptyWords limits

pub record PaperNumbers (limits : Limits) : Type 0 where
  pub rows : limits.rows ≡ 256
  pub depth : limits.depth ≡ 12
  pub names : name_count ≡ 64
  pub work_bytes : work_size limits ≡ 12294
  pub evidence_bytes : evidence_size limits ≡ 46595
  pub picture_bytes : picture_size limits ≡ 6147
  pub book_cards : most_cards ≡ 32
  pub book_tag : card_tag ≡ 0x51
  -- 02, U3, "up to 32 fields tag 61"
  pub book_definitions : most_fields ≡ 32
  pub definition_tag_is : definition_tag ≡ 0x61
