-- 01, "The calls": the word that each call gives, from the bytes it is lent, and what each buffer lent for writing
-- holds then, at any limits. 02, U3, "Every call but the plain test takes" a definitions book, `tbox`, in front of its
-- other buffers. The exported contracts have paper 01's limits, `benchLimits`; the comments, its numbers.
--   OneBuffer, TwoBuffers                    the word and what is left in the buffers are those of given definitions
--   validate_word                             the plain test
--   normalize_word, NormalizeGives            the normal table
--   subsumes_word, SubsumesGives              the verdict with evidence
--   lcs_word, LcsGives                        the common picture
--   verify_word, VerifyGives                  the check of evidence
--   most_specific_word, MostSpecificGives      the nearest cards
-- `..Gives` is what a call promises: of the inputs, the buffers as lent, the word, and the buffers as left. What it
-- leaves in them, `..WorkUnder` and `..ResultUnder`, stands beside its answer (under, specs/Calls and specs/Book). 25
-- to 30 are asked after all reading and before the first 14, and with them 2 to 13 of the definitions' pictures; normal
-- tables, evidence and common pictures are those of the unfolded pictures.
use Rattle.std.specs.Prelude.{length, List, ◌≡◌, ℕ}
use Rattle.table.specs.declared.layout.Limits.{Limits}
use Rattle.picture.specs.declared.answer.Input.TheVariants.{First}
use Rattle.picture.specs.Read.{answer_of}
use Rattle.under.specs.Book.{most_specific_under, most_specific_work_under}
use Rattle.under.specs.Calls.{lcs_result_under, lcs_under, lcs_work_under, normalize_result_under, normalize_under}
use Rattle.under.specs.Calls.{subsumes_result_under, subsumes_under, subsumes_work_under, verify_under, verify_work_under}
use Rattle.interface.specs.Word.{common_word, normalized_word, read_word, selected_word, verdict_word, verified_word}

-- a call with one buffer lent for writing
pub record OneBuffer (word_of : ℕ → ℕ) (left_of : List ℕ → List ℕ) (buffer : List ℕ) (word : ℕ) (left : List ℕ) : Type 0 where
  pub word_is : word ≡ word_of (length buffer)
  pub buffer_is : left ≡ left_of buffer

-- a call with a work space and a result buffer
pub record TwoBuffers (word_of : ℕ → ℕ → ℕ) (workOf : List ℕ → ℕ → List ℕ) (result_of : ℕ → List ℕ → List ℕ)
    (work result : List ℕ) (word : ℕ) (workLeft resultLeft : List ℕ) : Type 0 where
  pub word_is : word ≡ word_of (length work) (length result)
  pub work_is : workLeft ≡ workOf work (length result)
  pub result_is : resultLeft ≡ result_of (length work) result

-- Test one picture; give its row count. A single picture is the first input.
unfoldable pub validate_word : Limits → List ℕ → ℕ
validate_word limits picture = read_word (answer_of limits First picture)

-- Write its normal table and give its length in bytes (buffer 6,147): 1 of the result buffer, so many bytes long;
-- 2 to 13; 25 to 30; 14.
unfoldable pub normalize_word : Limits → List ℕ → List ℕ → ℕ → ℕ
normalize_word limits tbox picture room = normalized_word (normalize_under limits tbox picture room)

-- the result buffer: the normal table from its first byte on, or nothing written
abbrev pub NormalizeGives : Limits → List ℕ → List ℕ → List ℕ → ℕ → List ℕ → Type 0
NormalizeGives limits tbox picture =
    OneBuffer (normalize_word limits tbox picture) (normalize_result_under limits tbox picture)

-- Verdict with evidence, and its length (buffer 46,595): 1 of the work space and of the result buffer, so many bytes
-- long; first; second; 25 to 30; 14 of each; yes or no.
unfoldable pub subsumes_word : Limits → List ℕ → List ℕ → List ℕ → ℕ → ℕ → ℕ
subsumes_word limits tbox first second work result = verdict_word (subsumes_under limits tbox first second work result)

-- the work space: once 1 to 14 are answered yes, both normal tables, each in its half, the rest of each half zero;
-- else nothing written
-- the result buffer: the evidence from its first byte on, or nothing written
abbrev pub SubsumesGives : Limits → List ℕ → List ℕ → List ℕ → List ℕ → List ℕ → ℕ → List ℕ → List ℕ → Type 0
SubsumesGives limits tbox first second =
    TwoBuffers (subsumes_word limits tbox first second) (subsumes_work_under limits tbox first second)
    (subsumes_result_under limits tbox first second)

-- Common picture and its length (buffer 6,147): 1 of the work space and of the result buffer, so many bytes long;
-- first; second; 25 to 30; 14 of each; 15.
unfoldable pub lcs_word : Limits → List ℕ → List ℕ → List ℕ → ℕ → ℕ → ℕ
lcs_word limits tbox first second work result = common_word (lcs_under limits tbox first second work result)

-- the work space: once 1 to 14 are answered yes, whatever 15 answers, both normal tables, each in its half, the rest
-- of each half zero; else nothing written
-- the result buffer: the common picture from its first byte on, or nothing written
abbrev pub LcsGives : Limits → List ℕ → List ℕ → List ℕ → List ℕ → List ℕ → ℕ → List ℕ → List ℕ → Type 0
LcsGives limits tbox first second =
    TwoBuffers (lcs_word limits tbox first second) (lcs_work_under limits tbox first second)
    (lcs_result_under limits tbox first second)

-- Check evidence: map taken or refutation taken: 1 of the work space, so many bytes long; first; second; 25 to 30; 14
-- of each; 16 to 23.
unfoldable pub verify_word : Limits → List ℕ → List ℕ → List ℕ → List ℕ → ℕ → ℕ
verify_word limits tbox first second evidence room = verified_word (verify_under limits tbox first second evidence room)

-- the work space: the first normal table from byte 0, the second from byte 6,147, the rest of each half zero;
-- nothing written by 1 to 14 and 25 to 30
abbrev pub VerifyGives : Limits → List ℕ → List ℕ → List ℕ → List ℕ → List ℕ → ℕ → List ℕ → Type 0
VerifyGives limits tbox first second evidence =
    OneBuffer (verify_word limits tbox first second evidence) (verify_work_under limits tbox first second)

-- Nearest cards for a case, as a 32-bit word, bit n for card n: 1 of the work space, so many bytes long; case; 24 and
-- the cards in turn; 25 to 30; 14 of each.
unfoldable pub most_specific_word : Limits → List ℕ → List ℕ → List ℕ → ℕ → ℕ
most_specific_word limits tbox case book room = selected_word (most_specific_under limits tbox case book room)

-- the work space: 12,294 bytes zero where a word is answered, else nothing written
abbrev pub MostSpecificGives : Limits → List ℕ → List ℕ → List ℕ → List ℕ → ℕ → List ℕ → Type 0
MostSpecificGives limits tbox case book =
    OneBuffer (most_specific_word limits tbox case book) (most_specific_work_under limits tbox case book)
