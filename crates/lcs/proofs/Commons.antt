-- The common picture as a picture file: within the limit it is readable, means the product of the two normal trees, and so is the least common subsumer
-- (003, Definition 2 and Theorem 43). That its roles are known and its nodes not too deep is true of any product; how many rows it has is what 15 asks.
--   lcs_height, lcs_roles              it is no deeper than the limit, and has known roles
--   lcs_reduced                        no all-successor of it is empty
--   lcs_length, lcs_size               the length of the file, and that a picture within the limits may be so long
--   lcs_bytes                          it is bytes
--   lcs_reads, lcs_readable            the file is readable, with a row for each node
--   lcs_meaning                        its tree is the product
--   lcs_covers_first, lcs_covers_second   it covers both pictures,
--   lcs_least_any                      and every concept over the names and roles that covers both covers it,
--   lcs_least                          so every readable picture that does
--   common_least                       all of these: it is the least common subsumer
use Prim.Native.Nat.{◌^◌, ◌≤◌, ℕ}
use lib.ListN.{length}
use mathlib.Core.List.{List}
use mathlib.Core.Path.{◌≡◌, subst, sym}
use native.Mathlib.Omega.{arith}
use Rattle.std.proofs.Common.{Ok}
use Rattle.ale.proofs.CommonSubsumers as trees
use Rattle.ale.proofs.ConceptTrees.{concept_of_over, concept_tree, concept_tree_means, concept_tree_roles_known, picture_singletons}
use Rattle.ale.proofs.Concepts.{subsumed_concepts, subsumed_means}
use Rattle.ale.proofs.Confined.{Confined, confined_height, confined_roles_known, lcs_confined}
use Rattle.ale.proofs.Encodings.{encode_tree_length}
use Rattle.ale.proofs.ProductReductions as reductions
use Rattle.ale.proofs.RoleLaws.{tree_of_roles_known}
use Rattle.ale.specs.Concept.{Concept, Over, concept_of}
use Rattle.ale.specs.Encoding.{encode}
use Rattle.ale.specs.Interpretation.{Subsumed}
use Rattle.ale.specs.Theory.{Reduced}
use Rattle.ale.specs.PictureSignature.{picture_signature}
use Rattle.ale.specs.Tree.{RolesKnown, Tree, exists, height}
use Rattle.meaning.proofs.EncodedFiles.{encoded_bytes, encoded_meaning, encoded_reads}
use Rattle.meaning.proofs.Files.{length_file_of}
use Rattle.meaning.proofs.Pictures.{picture_known}
use Rattle.meaning.specs.Covering.{Covers}
use Rattle.meaning.specs.Meaning.{picture_table, picture_tree}
use Rattle.meaning.specs.NormalTable.{normal_tree_of}
use Rattle.picture.specs.Read.{reading_of}
use Rattle.picture.specs.Readable.{Readable}
use Rattle.table.specs.Bounds.{Bounded, picture_size}
use Rattle.table.specs.Layout.{end_size, number_size, place}
use Rattle.table.specs.Number.{Bytes}
use Rattle.table.specs.declared.layout.Limits.{Limits}
use Rattle.lcs.specs.Description.{DescriptionCovers, LeastCommon}
use Rattle.workspace.specs.Prepare.{Acceptable}
use Rattle.lcs.specs.Product.{lcs_count, lcs_file, lcs_tree}

module _ (limits : Limits) (first second : List ℕ) where
  -- ---- the tree

  lcs_within : Confined picture_signature (lcs_tree limits first second) limits.depth
  unfolding lcs_tree normal_tree_of
  lcs_within = lcs_confined picture_signature (picture_table first) (picture_table second) limits.depth

  pub lcs_height : height picture_signature (lcs_tree limits first second) ≤ limits.depth
  lcs_height = confined_height picture_signature (lcs_tree limits first second) limits.depth lcs_within

  pub lcs_roles : RolesKnown picture_signature (lcs_tree limits first second)
  lcs_roles = confined_roles_known picture_signature (lcs_tree limits first second) limits.depth lcs_within

  pub lcs_reduced : Reduced picture_signature (lcs_tree limits first second)
  unfolding lcs_tree normal_tree_of
  lcs_reduced = reductions.lcs_reduced picture_signature (picture_table first) (picture_table second) limits.depth limits.depth

  -- the product subsumes both, and is subsumed by each tree of known roles that does
  first_lcs : Subsumed picture_signature (picture_tree limits first) (lcs_tree limits first second)
  unfolding lcs_tree normal_tree_of
  first_lcs = trees.lcs_left picture_signature (picture_table first) (picture_table second) limits.depth limits.depth

  second_lcs : Subsumed picture_signature (picture_tree limits second) (lcs_tree limits first second)
  unfolding lcs_tree normal_tree_of
  second_lcs = trees.lcs_right picture_signature (picture_table first) (picture_table second) limits.depth limits.depth

  lcs_below : Readable limits first → Readable limits second → (u : Tree picture_signature) → RolesKnown picture_signature u →
      Subsumed picture_signature (picture_tree limits first) u → Subsumed picture_signature (picture_tree limits second) u →
      Subsumed picture_signature (lcs_tree limits first second) u
  unfolding lcs_tree normal_tree_of
  lcs_below r t u known =
      trees.lcs_least picture_signature (picture_table first) (picture_table second) (picture_known limits first r) (picture_known limits second t)
      limits.depth limits.depth u known

  -- ---- the file

  pub lcs_length : length (lcs_file limits first second) ≡ place (lcs_count limits first second) end_size
  unfolding lcs_file lcs_count
  lcs_length =
      let t = lcs_tree limits first second in
      omega (arith, length_file_of (encode picture_signature t), encode_tree_length picture_signature t 0 exists 0 0)

  pub lcs_bytes : Bytes (lcs_file limits first second)
  unfolding lcs_file
  lcs_bytes = encoded_bytes (lcs_tree limits first second) lcs_roles

  module _ (few : lcs_count limits first second ≤ limits.rows) where
    pub lcs_size : length (lcs_file limits first second) ≤ picture_size limits
    lcs_size = omega (arith, lcs_length)

    module _ (bounded : Bounded limits) where
      pub lcs_reads : reading_of limits (lcs_file limits first second) ≡ Ok (lcs_count limits first second)
      unfolding lcs_file lcs_count
      lcs_reads = encoded_reads (lcs_tree limits first second) limits bounded few lcs_height lcs_roles

      pub lcs_readable : Readable limits (lcs_file limits first second)
      lcs_readable = record { rows = lcs_count limits first second; reads = lcs_reads }

      fits_number : lcs_count limits first second ≤ 256 ^ number_size
      fits_number = omega (arith, bounded.0)

      pub lcs_meaning : picture_tree limits (lcs_file limits first second) ≡ lcs_tree limits first second
      unfolding lcs_file lcs_count
      lcs_meaning = encoded_meaning (lcs_tree limits first second) limits fits_number lcs_height

      -- what is true of the product is true of the picture's tree
      of_picture : (P : Tree picture_signature → Type 0) → P (lcs_tree limits first second) → P (picture_tree limits (lcs_file limits first second))
      of_picture P h = subst P (sym lcs_meaning) h

      covers_by : (s : List ℕ) → Subsumed picture_signature (picture_tree limits s) (lcs_tree limits first second) → Covers limits (lcs_file limits first second) s
      covers_by s h =
          (subsumed_concepts picture_signature (picture_tree limits s) (picture_tree limits (lcs_file limits first second))).0
          (of_picture (λ t. Subsumed picture_signature (picture_tree limits s) t) h)

      pub lcs_covers_first : Covers limits (lcs_file limits first second) first
      lcs_covers_first = covers_by first first_lcs

      pub lcs_covers_second : Covers limits (lcs_file limits first second) second
      lcs_covers_second = covers_by second second_lcs

      module _ (r : Readable limits first) (t : Readable limits second) where
        -- a concept may have any number of nodes and edges: it means what its tree means
        pub lcs_least_any : (c : Concept) → Over picture_signature c →
            DescriptionCovers limits c first → DescriptionCovers limits c second →
            DescriptionCovers limits c (lcs_file limits first second)
        lcs_least_any c over a b =
            let u = concept_tree picture_signature picture_singletons c in
            let known = concept_tree_roles_known picture_signature picture_singletons c over in
            let means = concept_tree_means picture_signature picture_singletons c over in
            (subsumed_means picture_signature (picture_tree limits (lcs_file limits first second)) u c means).0
            (of_picture (λ v. Subsumed picture_signature v u)
            (lcs_below r t u known ((subsumed_means picture_signature (picture_tree limits first) u c means).1 a)
            ((subsumed_means picture_signature (picture_tree limits second) u c means).1 b)))

        -- p may have any number of merged rows
        pub lcs_least : (p : List ℕ) → Readable limits p →
            Covers limits p first → Covers limits p second → Covers limits p (lcs_file limits first second)
        lcs_least p q =
            let u = picture_tree limits p in
            let roles = picture_known limits p q in
            let known = tree_of_roles_known picture_signature (picture_table p) roles limits.depth 0 in
            lcs_least_any (concept_of picture_signature u) (concept_of_over picture_signature u known)

-- all of these
pub common_least : (limits : Limits) → Bounded limits → (first second : List ℕ) → Acceptable limits first second →
    lcs_count limits first second ≤ limits.rows → (n : ℕ) → n ≡ length (lcs_file limits first second) →
    LeastCommon limits first second n (lcs_file limits first second)
common_least limits bounded first second pair few n is = record {
  readable = lcs_readable limits first second few bounded;
  rows = lcs_reads limits first second few bounded;
  sized = sym is;
  fits = omega (arith, is, lcs_size limits first second few);
  bytes = lcs_bytes limits first second;
  covers_first = lcs_covers_first limits first second few bounded;
  covers_second = lcs_covers_second limits first second few bounded;
  least = lcs_least limits first second few bounded pair.first_readable pair.second_readable;
  least_any = lcs_least_any limits first second few bounded pair.first_readable pair.second_readable;
}
