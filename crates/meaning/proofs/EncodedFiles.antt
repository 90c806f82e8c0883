-- A tree as a picture file: within the limits it is readable, and it means that tree.
--   encoded_writable     the rows of a tree within the limits may be written
--   encoded_reads        so the file of a tree reads as a row for each node
--   encoded_table        the table of the file is the table of the tree, if no row number is too wide for its field
--   encoded_meaning_at   so the tree of the file is the tree, at any depth that reaches its nodes
--   encoded_meaning      and at the limit of the depth
--   bytes_file           rows as a picture file are bytes, if their roles are
--   encoded_bytes        so a tree of known roles as a picture file is
use Prim.Native.Nat.{◌<◌, ◌^◌, ◌≤◌, suc, ℕ}
use lib.ListN.{get_or, length}
use mathlib.Core.Path.{◌∙◌, ◌≡◌, ap, refl}
use native.Mathlib.Omega.{arith}
use Rattle.std.proofs.Common.{Ok}
use Rattle.ale.proofs.EncodedDepths.{encoded_depth}
use Rattle.ale.proofs.Encodings.{encode_tree_length, encoded_parents_first, encoded_tree, height_size}
use Rattle.ale.proofs.RoleLaws.{encoded_known}
use Rattle.ale.proofs.SameTables.{SameTable}
use Rattle.ale.specs.Encoding.{Row, encode, encoded, no_row}
use Rattle.ale.specs.PictureSignature.{picture_signature}
use Rattle.ale.specs.Table.{tree}
use Rattle.ale.specs.Tree.{RolesKnown, Tree, exists, height, node, size}
use Rattle.picture.proofs.Depths.{depth_root, depth_under}
use Rattle.picture.specs.Depth.{depth}
use Rattle.picture.specs.Read.{reading_of}
use Rattle.table.specs.Bounds.{Bounded}
use Rattle.table.specs.Layout.{number_size}
use Rattle.table.specs.declared.layout.Limits.{Limits}
use Rattle.meaning.specs.File.{file_of, rows_from}
use Rattle.meaning.specs.Meaning.{picture_table, picture_tree}
use Rattle.meaning.proofs.FileReadings.{Writable, file_readable}
use Rattle.meaning.proofs.FileTables.{ParentsFit, file_table, file_tree, parents_fit}
use Rattle.meaning.proofs.Files.{row_in}
use mathlib.Core.List.{List}
use Rattle.table.specs.Fields.{end_bytes}
use Rattle.table.specs.Number.{Bytes}
use Rattle.meaning.proofs.ByteLists.{bytes_append, bytes_end, bytes_rows}

-- row 0 hangs from none: its parent and its role are written as 0
encoded_root : (t : Tree picture_signature) → ((row_in (encode picture_signature t) 0).parent ≡ 0) × ((row_in (encode picture_signature t) 0).role ≡ 0)
encoded_root (node l f) = (refl, refl)

module _ (t : Tree picture_signature) where
  rows_of : length (encode picture_signature t) ≡ size picture_signature t
  rows_of = encode_tree_length picture_signature t 0 exists 0 0

  encoded_under : (j : ℕ) → j < length (encode picture_signature t) → ¬ (j ≡ 0) →
      depth (encoded picture_signature t).parent j ≡ suc (depth (encoded picture_signature t).parent ((encoded picture_signature t).parent j))
  encoded_under j l z =
      omega (
        arith,
        depth_under (encoded picture_signature t).parent j (omega (arith, z)) (λ k a b.
            encoded_parents_first picture_signature t k (omega arith) (λ e. omega arith)),
      )

  pub encoded_writable : (limits : Limits) → size picture_signature t ≤ limits.rows → height picture_signature t ≤ limits.depth →
      RolesKnown picture_signature t → Writable limits (encode picture_signature t)
  encoded_writable limits few low known = record {
    some = omega (arith, rows_of, height_size picture_signature t);
    most = omega (arith, rows_of);
    root_parent = (encoded_root t).0;
    root_role = (encoded_root t).1;
    parents_first = encoded_parents_first picture_signature t;
    roles_known = encoded_known picture_signature (omega arith) t known;
    shallow = λ j l.
        let up = (encoded picture_signature t).parent in
        omega (arith, encoded_depth picture_signature t (depth up) (depth_root up) encoded_under j l);
  }

  pub encoded_reads : (limits : Limits) → Bounded limits → size picture_signature t ≤ limits.rows → height picture_signature t ≤ limits.depth →
      RolesKnown picture_signature t → reading_of limits (file_of (encode picture_signature t)) ≡ Ok (size picture_signature t)
  encoded_reads limits bounded few low known =
      file_readable limits (encode picture_signature t) bounded (encoded_writable limits few low known) ∙ ap Ok rows_of

  module _ (few : size picture_signature t ≤ 256 ^ number_size) where
    encoded_fit : ParentsFit (encode picture_signature t)
    encoded_fit = parents_fit (encode picture_signature t) (encoded_parents_first picture_signature t) (omega (arith, rows_of))

    pub encoded_table : SameTable picture_signature (picture_table (file_of (encode picture_signature t))) (encoded picture_signature t)
    encoded_table = file_table (encode picture_signature t) encoded_fit

    pub encoded_meaning_at : (n : ℕ) → height picture_signature t ≤ n → tree picture_signature (picture_table (file_of (encode picture_signature t))) n ≡ t
    encoded_meaning_at n low =
        file_tree (encode picture_signature t) encoded_fit n 0 (omega (arith, rows_of, height_size picture_signature t))
        ∙ encoded_tree picture_signature t n low

  pub encoded_meaning : (limits : Limits) → size picture_signature t ≤ 256 ^ number_size → height picture_signature t ≤ limits.depth →
      picture_tree limits (file_of (encode picture_signature t)) ≡ t
  encoded_meaning limits few low = encoded_meaning_at few limits.depth low

-- ---- what is written is bytes

pub bytes_file : (ws : List (Row picture_signature)) →
    ((j : ℕ) → j < length ws → (get_or ws j (no_row picture_signature)).role < 256) → Bytes (file_of ws)
bytes_file ws h = bytes_append (rows_from 0 ws) end_bytes (bytes_rows ws 0 h) bytes_end

pub encoded_bytes : (t : Tree picture_signature) → RolesKnown picture_signature t → Bytes (file_of (encode picture_signature t))
encoded_bytes t known = bytes_file (encode picture_signature t) (λ j l. omega (arith, encoded_known picture_signature (omega arith) t known j l))
