-- What the code makes of two tables as bytes, s (the first) and t (the second), down to a depth. Nobody has to believe
-- these.
--   Hung         row c hangs from a row
--   product_at    the product of the trees of rows u and w
--   pairs_below   its successors, if neither is marked
--   pairs_from    row c of s, with row e of t and its later siblings, by the same kind and role
--   Paired       what is asked of them: those of t stand no earlier than c in the order of edges
--   Trims        what is asked of both tables
--   common_file_in   the common picture of two normal tables as a file
use Rattle.std.specs.Prelude.{◌<◌, ℕ, List, ◌≡◌}
use Rattle.table.specs.Fields.{kind_of, role_of}
use Rattle.table.specs.declared.layout.Limits.{Limits}
use Rattle.ale.proofs.PairWalks.{KeysFrom}
use Rattle.ale.proofs.Pairs.{pair_forest}
use Rattle.ale.specs.Encoding.{encode}
use Rattle.ale.specs.PictureSignature.{picture_signature}
use Rattle.ale.specs.Product.{pair_each, product}
use Rattle.ale.specs.Tree.{Forest, Tree, successors_of}
use Rattle.meaning.specs.File.{file_of}
use Rattle.meaning.specs.Meaning.{kind_at}
use Rattle.homomorphism_search.specs.Search.{tree_at}
use Rattle.product_rows.specs.Siblings.{Kept, Trim, TrimAll, forest_from, key_at}

abbrev pub Hung : ℕ → ℕ → Type 0
Hung rows c = (c ≡ 0 → ⊥) × (c < rows)

unfoldable pub product_at : List ℕ → List ℕ → ℕ → ℕ → ℕ → Tree picture_signature
product_at s t depth u w = product picture_signature (tree_at s depth u) (tree_at t depth w)

unfoldable pub pairs_below : List ℕ → List ℕ → ℕ → ℕ → ℕ → Forest picture_signature
pairs_below s t depth u w =
    pair_forest picture_signature (successors_of picture_signature (tree_at s depth u))
    (successors_of picture_signature (tree_at t depth w))

unfoldable pub pairs_from : List ℕ → List ℕ → ℕ → ℕ → ℕ → ℕ → Forest picture_signature
pairs_from s t rows depth c e =
    pair_each picture_signature (kind_at (kind_of s c)) (role_of s c)
    (λ x. product picture_signature (tree_at s depth c) x) (forest_from t rows depth e)

pub record Paired (s t : List ℕ) (rows depth c e : ℕ) : Type 0 where
  pub first_kept : Kept (kind_at (kind_of s c)) (tree_at s depth c)
  pub second_trim : TrimAll (forest_from t rows depth e)
  pub onward : KeysFrom picture_signature (key_at s c) (forest_from t rows depth e)

pub record Trims (s t : List ℕ) (depth : ℕ) : Type 0 where
  pub first_trim : Trim (tree_at s depth 0)
  pub second_trim : Trim (tree_at t depth 0)

module _ (limits : Limits) (s t : List ℕ) where
  unfoldable pub common_file_in : List ℕ
  common_file_in = file_of (encode picture_signature (product_at s t limits.depth 0 0))
