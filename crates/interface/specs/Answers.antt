-- Condition 1, "a result or a numbered refusal, each laid down beforehand along with the contents of the buffers": what
-- every call answers, said once, and what the papers lay down for each of the six. Five take a definitions book, `tbox`
-- (02, U3).
--   Whom, Names, Line, questions, Listed    questions that a call asks, by number, and whom they name
--   of_given, of_definitions                  those of a picture that is given; those of the definitions book
--   Buffers, buffers, Filled, Leaves        what is lent for writing; what a buffer, and what both, hold then
--   refusal_bytes                            what a refusal writes
--   pictures, AtField                       the picture that an input is; where in a picture a refusal is
--   Call                                    what is laid down for a call on given inputs
--   Placed                                  what a refusal carries beside its number and input: where it is, or 0 and 0
--   Passes, GivesResult, Refuses, Answers   all questions are answered yes; a result; a numbered refusal; one of these
--   AcceptableOne                           one picture under a definitions book, of which all is answered yes
--   tables, OutcomeYes, EitherOutcome       both normal tables, each in its half; which outcome a result has
--   validate_call .. most_specific_call        what is laid down for each call
use Rattle.std.specs.Prelude.{◌<◌, ◌≤◌, ℕ, leb, get_or, length, take, ◌&&◌, List, [], ◌++◌, ◌∷◌, ◌⊎◌, ◌≡◌, Err}
use Rattle.table.specs.Bounds.{picture_size}
use Rattle.table.specs.Layout.{«place»}
use Rattle.table.specs.Pick.{pick}
use Rattle.table.specs.Put.{zeros}
use Rattle.table.specs.declared.layout.Limits.{Limits}
use Rattle.picture.specs.Readable.{FailsAt, Readable, row_count}
use Rattle.picture.specs.Asked.{read_asked, Asked, yes}
use Rattle.picture.specs.declared.answer.Input.{Input}
use Rattle.picture.specs.declared.answer.Input.TheVariants.{Book, Buffer, Card, Definition, Definitions, Evidence, First, Second}
use Rattle.picture.specs.declared.answer.Refusal.{Refusal}
use Rattle.meaning.specs.NormalTable.{merged_count, normal_file}
use Rattle.normal.specs.Half.{half_of}
use Rattle.workspace.specs.Prepare.{work_size}
use Rattle.evidence.specs.Taken.{MapOf, RefutationOf}
use Rattle.subsumption.specs.Verdict.{evidence_of, evidence_size}
use Rattle.lcs.specs.Product.{lcs_count, lcs_file}
use Rattle.book.specs.Form.{card_count}
use Rattle.book.specs.Form as form
use Rattle.book.specs.Selection.{most_specific_cards}
use Rattle.definitions.specs.Covering.{CoversUnder}
use Rattle.definitions.specs.Form.{definition_count, definition_file}
use Rattle.definitions.specs.Unfolded.{Definable, Unfolds, unfolded_file}
use Rattle.under.specs.Asked.{lcs_asked_under, most_specific_asked_under, one_asked_under}
use Rattle.under.specs.Asked.{subsumes_asked_under, verify_asked_under}
use Rattle.under.specs.Book.{AcceptableBookUnder, unfolded_book}
use Rattle.under.specs.Given.{AcceptableUnder}
use Rattle.interface.specs.Word.{byte, card, card_of, input, input_code, outcome, outcome_no, outcome_yes, question, refusal_word, row, value, value_word}

-- ---- a call, whichever it is

-- an input; or a card of the book, or a definition, by its number, which is below the number of cards, or definitions
pub data Whom : Type 0 where
  the : Input → Whom
  cards : ℕ → Whom
  definitions : ℕ → Whom

abbrev pub Names : Whom → Input → Type 0
Names (the named) input = input ≡ named
Names (cards count) input = (k : ℕ) × (k < count) × (input ≡ Card k)
Names (definitions count) input = (k : ℕ) × (k < count) × (input ≡ Definition k)

pub record Line : Type 0 where
  pub least : ℕ
  pub most : ℕ
  pub whom : Whom

abbrev pub questions : ℕ → ℕ → Whom → Line
questions least most whom = record { least = least; most = most; whom = whom }

abbrev pub Listed : List Line → ℕ → Input → Type 0
Listed [] number input = ⊥
Listed (l ∷ more) number input =
    ((l.least ≤ number) × (number ≤ l.most) × Names l.whom input) ⊎ Listed more number input

-- 2 to 14 of a given picture; and "27, is no defined name excluded;" "29, has each unfolded picture at most 256 rows;
-- 30, is its depth at most 12"
abbrev pub of_given : Whom → List Line → List Line
of_given whom more = questions 2 14 whom ∷ questions 27 27 whom ∷ questions 29 30 whom ∷ more

-- 02, U3, "25, 26 and 28 name the definitions book, the others the picture, or the definition by its place", "its
-- pictures then meet 2 to 13"
abbrev pub of_definitions : List ℕ → List Line → List Line
of_definitions tbox more =
    questions 25 26 (the Definitions) ∷ questions 28 28 (the Definitions)
    ∷ questions 2 13 (definitions (definition_count tbox)) ∷ questions 27 27 (definitions (definition_count tbox))
    ∷ questions 29 30 (definitions (definition_count tbox)) ∷ more

-- a buffer that a call is not lent is one without bytes here
pub record Buffers : Type 0 where
  pub work : List ℕ
  pub result : List ℕ

abbrev pub buffers : List ℕ → List ℕ → Buffers
buffers work result = record { work = work; result = result }

-- bytes are written from the buffer's first byte on; bytes past them keep their contents, and so does its length
pub record Filled (lent bytes left : List ℕ) : Type 0 where
  pub holds : take (length bytes) left ≡ bytes
  pub past : (i : ℕ) → length bytes ≤ i → get_or left i 0 ≡ get_or lent i 0
  pub length_kept : length left ≡ length lent

pub record Leaves (lent bytes left : Buffers) : Type 0 where
  pub work : Filled lent.work bytes.work left.work
  pub result : Filled lent.result bytes.result left.result

-- 01, "Refusals 1 to 14 and 24 write nothing. 15 to 23 leave the work space as a success does and result buffers
-- untouched"; 02, U3, of 25 to 30, "all write nothing": by the number, and what a success writes
abbrev pub refusal_bytes : ℕ → Buffers → Buffers
refusal_bytes number success = buffers (pick (leb 15 number && leb number 23) success.work []) []

-- the picture that an input is: the first or the case, the second, a card, or a definition's; the others are none
abbrev pub pictures : List ℕ → List ℕ → (ℕ → List ℕ) → (ℕ → List ℕ) → Input → List ℕ
pictures first second cardAt definitionAt Buffer = []
pictures first second cardAt definitionAt First = first
pictures first second cardAt definitionAt Second = second
pictures first second cardAt definitionAt Evidence = []
pictures first second cardAt definitionAt Book = []
pictures first second cardAt definitionAt (Card k) = cardAt k
pictures first second cardAt definitionAt Definitions = []
pictures first second cardAt definitionAt (Definition k) = definitionAt k

-- 02, U1, "the row being read (rows completed so far) and the byte where its field begins, from the picture's first",
-- of a refusal of the picture s
pub record AtField (limits : Limits) (s : List ℕ) (r : Refusal) : Type 0 where
  -- so many rows pass all their questions, and the field after them meets this one
  pub fails : FailsAt limits s r.number r.row
  -- there is no other question and no other field of which that is so
  pub only : (q n : ℕ) → FailsAt limits s q n → (q ≡ r.number) × (n ≡ r.row)
  pub few : r.row ≤ limits.rows
  -- it begins there, in the file or at its end
  pub begins : r.byte ≡ place r.row 0
  pub inside : r.byte ≤ length s

pub record Call : Type 1 where
  -- 1: the lengths named of the work space and of the result buffer
  pub size_of_work : ℕ
  pub size_of_result : ℕ
  -- its questions, by number and whom they name; the pictures among its inputs, and their limits
  pub refusals : List Line
  pub limits : Limits
  pub picture : Input → List ℕ
  -- and in their order, with the buffers as lent: all answered yes, or the first no
  pub asks : Buffers → Asked
  -- those after 1 are answered yes, by meaning
  pub Passed : Type 0
  -- a result: its outcome, its value, how much that is at most, and the bytes that it writes into each buffer
  pub Outcome : ℕ → Type 0
  pub given : ℕ
  pub most : ℕ
  pub bytes : Buffers

-- every question is answered yes
abbrev pub Passes : Call → Buffers → Type 0
Passes c lent = (c.size_of_work ≤ length lent.work) × (c.size_of_result ≤ length lent.result) × c.Passed

-- 02, U1, "Refusals 2 to 13 shall also carry the row being read .. and the byte where its field begins", "other refusals
-- carry .. 0 for both"
pub record Placed (c : Call) (r : Refusal) : Type 0 where
  pub read_at : 2 ≤ r.number → r.number ≤ 13 → AtField c.limits (c.picture r.input) r
  pub else_zero : (r.number < 2) ⊎ (13 < r.number) → (r.row ≡ 0) × (r.byte ≡ 0)

module _ (c : Call) (lent left : Buffers) (word : ℕ) where
  pub record GivesResult : Type 0 where
    pub passes : Passes c lent
    pub all_yes : c.asks lent ≡ yes
    pub outcome_is : c.Outcome (outcome word)
    pub value_is : value word ≡ c.given
    pub in_range : c.given ≤ c.most
    pub word_is : word ≡ value_word (outcome word) (value word)
    pub leaves : Leaves lent c.bytes left

  pub record Refuses : Type 0 where
    pub by : Refusal
    pub listed : Listed c.refusals by.number by.input
    pub fails : Passes c lent → ⊥
    pub first_no : c.asks lent ≡ Err by
    pub placed : Placed c by
    pub outcome_is : outcome word ≡ 0
    pub question_is : question word ≡ by.number
    pub input_is : input word ≡ input_code by.input
    pub card_is : card word ≡ card_of by.input
    pub row_is : row word ≡ by.row
    pub byte_is : byte word ≡ by.byte
    pub word_is : word ≡ refusal_word by
    pub leaves : Leaves lent (refusal_bytes by.number c.bytes) left

  abbrev pub Answers : Type 0
  Answers = GivesResult ⊎ Refuses

-- ---- the six calls

abbrev pub tables : Limits → List ℕ → List ℕ → List ℕ
tables limits first second = half_of limits (normal_file limits first) ++ half_of limits (normal_file limits second)

abbrev pub OutcomeYes : ℕ → Type 0
OutcomeYes outcome = outcome ≡ outcome_yes

-- yes in one case, no in the other
abbrev pub EitherOutcome : Type 0 → Type 0 → ℕ → Type 0
EitherOutcome Y N outcome = ((outcome ≡ outcome_yes) × Y) ⊎ ((outcome ≡ outcome_no) × N)

-- Test one picture; give its row count.
abbrev pub validate_call : Limits → List ℕ → Call
validate_call limits picture = record {
  size_of_work = 0;
  size_of_result = 0;
  refusals = questions 2 13 (the First) ∷ [];
  limits = limits;
  picture = pictures picture [] (λ k. []) (λ k. []);
  asks = λ lent. read_asked limits First picture;
  Passed = Readable limits picture;
  Outcome = OutcomeYes;
  given = row_count picture;
  most = limits.rows;
  bytes = buffers [] [];
}

-- 25 to 30, and 2 to 13 of the definitions' pictures, are answered yes, 2 to 13 of the picture, and 14 of it unfolded
pub record AcceptableOne (limits : Limits) (tbox picture : List ℕ) : Type 0 where
  pub definable : Definable limits tbox
  pub readable : Readable limits picture
  pub unfolds : Unfolds limits tbox picture
  pub few : merged_count limits (unfolded_file limits tbox picture) ≤ limits.rows

-- the calls under a definitions book: what they write is that of the unfolded pictures
module _ (limits : Limits) (tbox : List ℕ) where
  abbrev unfolded : List ℕ → List ℕ
  unfolded picture = unfolded_file limits tbox picture

  -- Write its normal table and give its length in bytes.
  abbrev pub normalize_call : List ℕ → Call
  normalize_call picture = record {
    size_of_work = 0;
    size_of_result = picture_size limits;
    refusals = questions 1 1 (the Buffer) ∷ of_definitions tbox (of_given (the First) []);
    limits = limits;
    picture = pictures picture [] (λ k. []) (definition_file tbox);
    asks = λ lent. one_asked_under limits tbox picture (length lent.result);
    Passed = AcceptableOne limits tbox picture;
    Outcome = OutcomeYes;
    given = length (normal_file limits (unfolded picture));
    most = picture_size limits;
    bytes = buffers [] (normal_file limits (unfolded picture));
  }

  -- Verdict with evidence, and its length.
  abbrev pub subsumes_call : List ℕ → List ℕ → Call
  subsumes_call first second = record {
    size_of_work = work_size limits;
    size_of_result = evidence_size limits;
    refusals = questions 1 1 (the Buffer) ∷ of_definitions tbox (of_given (the First) (of_given (the Second) []));
    limits = limits;
    picture = pictures first second (λ k. []) (definition_file tbox);
    asks = λ lent. subsumes_asked_under limits tbox first second (length lent.work) (length lent.result);
    Passed = AcceptableUnder limits tbox first second;
    Outcome = EitherOutcome (CoversUnder limits tbox second first) (CoversUnder limits tbox second first → ⊥);
    given = length (evidence_of limits (unfolded first) (unfolded second));
    most = evidence_size limits;
    bytes = buffers (tables limits (unfolded first) (unfolded second))
        (evidence_of limits (unfolded first) (unfolded second));
  }

  -- Common picture and its length.
  abbrev pub lcs_call : List ℕ → List ℕ → Call
  lcs_call first second = record {
    size_of_work = work_size limits;
    size_of_result = picture_size limits;
    refusals =
        questions 1 1 (the Buffer)
        ∷ of_definitions tbox (of_given (the First) (of_given (the Second) (questions 15 15 (the Second) ∷ [])));
    limits = limits;
    picture = pictures first second (λ k. []) (definition_file tbox);
    asks = λ lent. lcs_asked_under limits tbox first second (length lent.work) (length lent.result);
    Passed =
        AcceptableUnder limits tbox first second
        × (lcs_count limits (unfolded first) (unfolded second) ≤ limits.rows);
    Outcome = OutcomeYes;
    given = length (lcs_file limits (unfolded first) (unfolded second));
    most = picture_size limits;
    bytes = buffers (tables limits (unfolded first) (unfolded second))
        (lcs_file limits (unfolded first) (unfolded second));
  }

  -- Check evidence: map taken or refutation taken. "refutations are checked on unfolded pictures"
  abbrev pub verify_call : List ℕ → List ℕ → List ℕ → Call
  verify_call first second evidence = record {
    size_of_work = work_size limits;
    size_of_result = 0;
    refusals =
        questions 1 1 (the Buffer)
        ∷ of_definitions tbox (of_given (the First) (of_given (the Second) (questions 16 23 (the Evidence) ∷ [])));
    limits = limits;
    picture = pictures first second (λ k. []) (definition_file tbox);
    asks = λ lent. verify_asked_under limits tbox first second evidence (length lent.work);
    Passed =
        AcceptableUnder limits tbox first second
        × (MapOf limits (unfolded first) (unfolded second) evidence
        ⊎ RefutationOf limits (unfolded first) (unfolded second) evidence);
    Outcome = EitherOutcome (MapOf limits (unfolded first) (unfolded second) evidence)
        (RefutationOf limits (unfolded first) (unfolded second) evidence);
    given = 0;
    most = 0;
    bytes = buffers (tables limits (unfolded first) (unfolded second)) [];
  }

  -- Nearest cards for a case.
  abbrev pub most_specific_call : List ℕ → List ℕ → Call
  most_specific_call case book = record {
    size_of_work = work_size limits;
    size_of_result = 0;
    refusals =
        questions 1 1 (the Buffer)
        ∷ of_definitions tbox (of_given (the First) (of_given (cards (card_count book)) (questions 24 24 (the Book) ∷ [])));
    limits = limits;
    picture = pictures case [] (form.card book) (definition_file tbox);
    asks = λ lent. most_specific_asked_under limits tbox case book (length lent.work);
    Passed = AcceptableBookUnder limits tbox case book;
    Outcome = OutcomeYes;
    given = most_specific_cards limits (unfolded case) (unfolded_book limits tbox book);
    most = 0xFFFFFFFF;
    bytes = buffers (zeros (work_size limits)) [];
  }
