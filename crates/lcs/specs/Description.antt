-- 003, Definition 2: what the common picture of two pictures has to be. It speaks of all concept descriptions, of which
-- pictures, by rows and depth, are only some.
--   DescriptionCovers   a concept covers a picture: `Covers` (meaning, specs/Covering) with any concept for the second
--   LeastCommon         a picture file of n bytes is the least common subsumer of two pictures, with a row for each
--                       node of the product
use Rattle.std.specs.Prelude.{◌≤◌, ℕ, length, List, ◌≡◌, Ok}
use Rattle.table.specs.Bounds.{picture_size}
use Rattle.table.specs.Number.{Bytes}
use Rattle.table.specs.declared.layout.Limits.{Limits}
use Rattle.ale.specs.Concept.{Concept, ConceptSubsumed, Over, concept_of}
use Rattle.ale.specs.PictureSignature.{picture_signature}
use Rattle.picture.specs.Read.{reading_of}
use Rattle.picture.specs.Readable.{Readable}
use Rattle.meaning.specs.Covering.{Covers}
use Rattle.meaning.specs.Meaning.{picture_tree}
use Rattle.lcs.specs.Product.{lcs_count}

abbrev pub DescriptionCovers : Limits → Concept → List ℕ → Type 0
DescriptionCovers limits c picture =
    ConceptSubsumed picture_signature (concept_of picture_signature (picture_tree limits picture)) c

pub record LeastCommon (limits : Limits) (first second : List ℕ) (n : ℕ) (picture : List ℕ) : Type 0 where
  -- it is a picture, of so many bytes, with the rows of the product
  pub readable : Readable limits picture
  pub rows : reading_of limits picture ≡ Ok (lcs_count limits first second)
  pub sized : length picture ≡ n
  pub fits : n ≤ picture_size limits
  pub bytes : Bytes picture
  -- "the common picture covers both inputs,"
  pub covers_first : Covers limits picture first
  pub covers_second : Covers limits picture second
  -- "and every picture that covers both covers it;" however many rows it has when merged
  pub least : (other : List ℕ) → Readable limits other →
      Covers limits other first → Covers limits other second → Covers limits other picture
  -- 003, Definition 2: so does every concept description over the 64 names and 32 roles, of any size and depth
  pub least_any : (c : Concept) → Over picture_signature c →
      DescriptionCovers limits c first → DescriptionCovers limits c second → DescriptionCovers limits c picture
