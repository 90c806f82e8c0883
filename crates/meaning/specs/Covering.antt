-- 01, "The second picture covers the first": 003, Definition 1, with Table 1's extensions, over finite interpretations. The trees are read down to the
-- depth limit, below which a readable picture has no row (proofs/Pictures: `picture-whole`).
--   Covers   the second picture covers the first
--   covers   the test that decides it: the normal tree of the second maps to that of the first (003, Theorem 41; proofs/Coverings: `covers-exactly`)
use Rattle.std.specs.Prelude.{ℕ, Bool, List}
use Rattle.table.specs.declared.layout.Limits.{Limits}
use Rattle.ale.specs.Concept.{ConceptSubsumed, concept_of}
use Rattle.ale.specs.Homomorphism.{maps_to}
use Rattle.ale.specs.PictureSignature.{picture_signature}
use Rattle.meaning.specs.Meaning.{picture_tree}
use Rattle.meaning.specs.NormalTable.{normal_tree_of}

abbrev pub Covers : Limits → List ℕ → List ℕ → Type 0
Covers limits second first =
    ConceptSubsumed picture_signature (concept_of picture_signature (picture_tree limits first)) (concept_of picture_signature (picture_tree limits second))

unfoldable pub covers : Limits → List ℕ → List ℕ → Bool
covers limits second first = maps_to picture_signature (normal_tree_of limits second) (normal_tree_of limits first)
