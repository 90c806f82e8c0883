-- The normal table of a picture, as a picture file: within the limits it is readable, means the normal tree, and so what the picture means.
-- That its roles are known and its nodes not too deep is true of any merged table; how many rows it has is what question 14 asks.
--   normal_count, normal_height, normal_roles   the normal tree has no more rows than the merged table, is no deeper than the limit, and has known roles
--   normal_length, normal_size                  the length of the file, and that a picture within the limits may be so long
--   normal_reads, normal_readable               the file is readable, with a row for each node
--   normal_table                                its table is the table of the normal tree
--   normal_meaning_at, normal_meaning           so its tree is the normal tree, at any depth that reaches its nodes, as the limit does
--   picture_normal, normal_picture              whatever fits a picture fits its normal file, and the reverse if the picture is readable, in every structure
--   normal_file_equivalent                       so they are equivalent
--   normal_normal                               the normal tree of a readable picture is normal
use Prim.Native.Nat.{◌^◌, ◌≤◌, ℕ}
use lib.ListN.{length}
use mathlib.Core.List.{List, [], ◌∷◌}
use mathlib.Core.Path.{◌≡◌, subst, sym}
use native.Mathlib.Omega.{arith}
use Rattle.std.proofs.Common.{Ok}
use Rattle.ale.proofs.Confined.{Confined, confined_height, confined_roles_known, normal_confined}
use Rattle.ale.proofs.Encodings.{encode_tree_length}
use Rattle.ale.proofs.SameTables.{SameTable}
use Rattle.ale.proofs.Sizes.{tidy_size}
use Rattle.ale.proofs.Structures.{in_all_subsumed}
use Rattle.ale.proofs.Subsumption.{normal_tree_is, normal_tree_normal, tree_normal}
use Rattle.ale.specs.Encoding.{encode, encoded}
use Rattle.ale.specs.Interpretation.{Equivalent}
use Rattle.ale.specs.Merged.{merged}
use Rattle.ale.specs.Theory.{Normal, SubsumedInAll}
use Rattle.ale.specs.PictureSignature.{picture_signature}
use Rattle.ale.specs.Table.{tree}
use Rattle.ale.specs.Tree.{RolesKnown, exists, height, size}
use Rattle.picture.specs.Read.{reading_of}
use Rattle.picture.specs.Readable.{Readable}
use Rattle.table.specs.Bounds.{Bounded, picture_size}
use Rattle.table.specs.Layout.{end_size, number_size, place}
use Rattle.table.specs.declared.layout.Limits.{Limits}
use Rattle.meaning.specs.Meaning.{picture_table, picture_tree}
use Rattle.meaning.specs.NormalTable.{merged_count, merged_tree, normal_file, normal_tree_of}
use Rattle.meaning.proofs.EncodedFiles.{encoded_meaning_at, encoded_reads, encoded_table}
use Rattle.meaning.proofs.Files.{length_file_of}
use Rattle.meaning.proofs.Pictures.{picture_known}

module _ (limits : Limits) (s : List ℕ) where
  pub normal_count : size picture_signature (normal_tree_of limits s) ≤ merged_count limits s
  unfolding normal_tree_of merged_count merged_tree
  normal_count = tidy_size picture_signature (merged picture_signature (picture_table s) limits.depth (0 ∷ []))

  normal_within : Confined picture_signature (normal_tree_of limits s) limits.depth
  unfolding normal_tree_of
  normal_within = normal_confined picture_signature (picture_table s) limits.depth

  pub normal_height : height picture_signature (normal_tree_of limits s) ≤ limits.depth
  normal_height = confined_height picture_signature (normal_tree_of limits s) limits.depth normal_within

  pub normal_roles : RolesKnown picture_signature (normal_tree_of limits s)
  normal_roles = confined_roles_known picture_signature (normal_tree_of limits s) limits.depth normal_within

  pub normal_length : length (normal_file limits s) ≡ place (size picture_signature (normal_tree_of limits s)) end_size
  unfolding normal_file
  normal_length =
      omega (arith, length_file_of (encode picture_signature (normal_tree_of limits s)), encode_tree_length picture_signature (normal_tree_of limits s) 0 exists 0 0)

  module _ (few : merged_count limits s ≤ limits.rows) where
    pub normal_size : length (normal_file limits s) ≤ picture_size limits
    normal_size = omega (arith, normal_length, normal_count)

    module _ (bounded : Bounded limits) where
      pub normal_reads : reading_of limits (normal_file limits s) ≡ Ok (size picture_signature (normal_tree_of limits s))
      unfolding normal_file
      normal_reads = encoded_reads (normal_tree_of limits s) limits bounded (omega (arith, normal_count)) normal_height normal_roles

      pub normal_readable : Readable limits (normal_file limits s)
      normal_readable = record { rows = size picture_signature (normal_tree_of limits s); reads = normal_reads }

      normal_fits : size picture_signature (normal_tree_of limits s) ≤ 256 ^ number_size
      normal_fits = omega (arith, normal_count, bounded.0)

      pub normal_table : SameTable picture_signature (picture_table (normal_file limits s)) (encoded picture_signature (normal_tree_of limits s))
      unfolding normal_file
      normal_table = encoded_table (normal_tree_of limits s) normal_fits

      pub normal_meaning_at : (n : ℕ) → height picture_signature (normal_tree_of limits s) ≤ n →
          tree picture_signature (picture_table (normal_file limits s)) n ≡ normal_tree_of limits s
      unfolding normal_file
      normal_meaning_at n low = encoded_meaning_at (normal_tree_of limits s) normal_fits n low

      pub normal_meaning : picture_tree limits (normal_file limits s) ≡ normal_tree_of limits s
      normal_meaning = normal_meaning_at limits.depth normal_height

      pub picture_normal : SubsumedInAll picture_signature (picture_tree limits s) (picture_tree limits (normal_file limits s))
      unfolding normal_tree_of
      picture_normal =
          subst (λ t. SubsumedInAll picture_signature (picture_tree limits s) t) (sym normal_meaning)
          (tree_normal picture_signature (picture_table s) limits.depth)

      module _ (readable : Readable limits s) where
        pub normal_picture : SubsumedInAll picture_signature (picture_tree limits (normal_file limits s)) (picture_tree limits s)
        unfolding normal_tree_of
        normal_picture =
            subst (λ t. SubsumedInAll picture_signature t (picture_tree limits s)) (sym normal_meaning)
            (normal_tree_is picture_signature (picture_table s) (picture_known limits s readable) limits.depth)

        pub normal_file_equivalent : Equivalent picture_signature (picture_tree limits s) (picture_tree limits (normal_file limits s))
        normal_file_equivalent =
            let t = picture_tree limits s in
            let v = picture_tree limits (normal_file limits s) in
            (in_all_subsumed picture_signature t v picture_normal, in_all_subsumed picture_signature v t normal_picture)

  pub normal_normal : Readable limits s → Normal picture_signature (normal_tree_of limits s)
  unfolding normal_tree_of
  normal_normal readable = normal_tree_normal picture_signature (picture_table s) (picture_known limits s readable) limits.depth
