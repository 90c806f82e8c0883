-- 01, "Evidence": individuals as a refutation file.
--   individual_bytes   tag 42, length 11: parent (2), role (1), names that hold (8)
--   individuals_of     rows as individuals: each has its row's parent and role, and the row's wanted names hold of it
--   refutation_file    a tree of individuals, numbered depth first; then the end field
use Rattle.std.specs.Prelude.{ℕ, List, [], ◌++◌, ◌∷◌}
use Rattle.table.specs.Fields.{end_bytes}
use Rattle.table.specs.Layout.{name_bytes, number_size}
use Rattle.table.specs.Number.{be_bytes}
use Rattle.ale.specs.Encoding.{Row, encode}
use Rattle.ale.specs.PictureSignature.{picture_signature}
use Rattle.ale.specs.Tree.{Tree}
use Rattle.countermodel.specs.Layout.{individual_length, individual_tag}

unfoldable pub individual_bytes : ℕ → ℕ → ℕ → List ℕ
individual_bytes parent role names =
    (individual_tag ∷ [])
    ++ (be_bytes number_size individual_length
    ++ (be_bytes number_size parent
    ++ ((role ∷ [])
    ++ be_bytes name_bytes names)))

abbrev pub individuals_of : List (Row picture_signature) → List ℕ
individuals_of [] = []
individuals_of (w ∷ ws) = individual_bytes w.parent w.role w.label.wanted.set ++ individuals_of ws

unfoldable pub refutation_file : Tree picture_signature → List ℕ
refutation_file t = individuals_of (encode picture_signature t) ++ end_bytes
