-- 003, Definition 2, under a definitions book: "every picture", there and in later requests, "means one that excludes
-- no defined name"; so do the descriptions here.
--   DescriptionCoversUnder    a concept covers a picture, in every interpretation that respects the book
--   LeastCommonUnder          a picture file is the least common subsumer of two pictures under a book
use Rattle.std.specs.Prelude.{ℕ, ◌<◌, true, List, ◌≡◌}
use Rattle.table.specs.declared.layout.Limits.{Limits}
use Rattle.ale.specs.Concept.{Concept, InExtension, Over}
use Rattle.ale.specs.Interpretation.{Interpretation, structure_of}
use Rattle.ale.specs.PictureSignature.{picture_signature}
use Rattle.picture.specs.Readable.{Readable}
use Rattle.definitions.specs.Covering.{Belongs, CoversUnder, RespectsBook}
use Rattle.definitions.specs.Tbox.{tbox_of}
use Rattle.definitions.specs.Unfolded.{excludes_none, unfolded_file}
use Rattle.lcs.specs.Description.{LeastCommon}
use Rattle.tbox.specs.Definitions.{NegatesNone}

abbrev pub DescriptionCoversUnder : Limits → List ℕ → Concept → List ℕ → Type 0
DescriptionCoversUnder limits tbox c picture =
    (I : Interpretation picture_signature) → RespectsBook limits tbox I → (x : ℕ) → x < I.count →
    Belongs limits I picture x → InExtension picture_signature (structure_of picture_signature I) c x

pub record LeastCommonUnder (limits : Limits) (tbox first second : List ℕ) (n : ℕ) (picture : List ℕ) : Type 0 where
  -- it is the common picture of the unfolded pictures: a picture, of so many bytes, with the rows of their product
  pub of_unfolded : LeastCommon limits (unfolded_file limits tbox first) (unfolded_file limits tbox second) n picture
  -- "the common picture covers both inputs,"
  pub covers_first : CoversUnder limits tbox picture first
  pub covers_second : CoversUnder limits tbox picture second
  -- "and every picture that covers both covers it;" every picture that excludes no defined name, also one that would
  -- not pass 29 or 30
  pub least : (other : List ℕ) → Readable limits other → excludes_none tbox other ≡ true →
      CoversUnder limits tbox other first → CoversUnder limits tbox other second → CoversUnder limits tbox other picture
  -- 003, Definition 2: so does every concept description over the 64 names and 32 roles that excludes none, of any size
  -- and depth
  pub least_any : (c : Concept) → Over picture_signature c → NegatesNone picture_signature (tbox_of tbox) c →
      DescriptionCoversUnder limits tbox c first → DescriptionCoversUnder limits tbox c second →
      DescriptionCoversUnder limits tbox c picture
