-- What the count has of a set, and what it needs of its arguments. Nobody has to believe these.
--   Counts          a forest was counted after so many merged rows, up to the limit and one more
--   role_at          the successors of one role, where p are those of all roles
--   HungFrom        the rows that hang from those of a set, and their roles
--   tree_size        the merged rows of a set from which these hang, down to a depth
--   hung_with        what hangs from row c, and these
--   beside_size      the merged rows of a set with row c, where these hang from the set
--   Beside          the successors of one role: up to the limit, `each` is what A and what hangs from it count
--   ExistsCounted   its some-successors below row n were counted, whatever set q is A, and whatever role it is
use Rattle.std.specs.Prelude.{◌+◌, ◌<◌, ◌≤◌, suc, ℕ, eqb, Bool, ◌||◌, List, ◌≡◌}
use Rattle.ale.specs.PictureSignature.{picture_signature}
use Rattle.ale.specs.Tree.{Forest, sizes}
use Rattle.row_sets.specs.Parts.{capped, exists_part_at, parts_at, successors_at}
use Rattle.row_sets.specs.Rows.{Known, hangs, holds, of_role}
use Rattle.row_sets.specs.declared.rows.Successors.{Successors}
use Rattle.merged_count.specs.declared.count.RoleParts.{RoleParts}

abbrev pub Counts : ℕ → ℕ → Forest picture_signature → ℕ → Type 0
Counts limit merged f r = r ≡ capped limit (merged + sizes picture_signature f)

abbrev pub role_at : List ℕ → ℕ → ℕ → ℕ → (ℕ → Bool) → Forest picture_signature
role_at s rows depth role p = parts_at s rows depth role (of_role s role p)

pub record HungFrom (s : List ℕ) (rows : ℕ) (q : ℕ → Bool) (successors : Successors) : Type 0 where
  pub set_is : (j : ℕ) → j < rows → holds successors.set j ≡ hangs s q j
  pub known : Known s rows successors

abbrev pub tree_size : List ℕ → ℕ → ℕ → (ℕ → Bool) → ℕ
tree_size s rows depth p = suc (sizes picture_signature (successors_at s rows depth p))

abbrev pub hung_with : List ℕ → ℕ → Successors → ℕ → Bool
hung_with s c successors k = hangs s (λ i. eqb i c) k || holds successors.set k

abbrev pub beside_size : List ℕ → ℕ → ℕ → ℕ → Successors → ℕ
beside_size s rows depth c successors = tree_size s rows depth (hung_with s c successors)

pub record Beside (s : List ℕ) (rows depth limit merged : ℕ) (parts : RoleParts) : Type 0 where
  pub known : Known s rows parts.below
  pub each_most : parts.each ≤ suc limit
  pub each_is :
      capped limit (merged + parts.each) ≡ capped limit (merged + tree_size s rows depth (holds parts.below.set))

abbrev pub ExistsCounted : List ℕ → ℕ → ℕ → RoleParts → ℕ → ℕ → ℕ → ℕ → Type 0
ExistsCounted s rows depth parts limit merged n r =
    (q : ℕ → Bool) (role : ℕ) → HungFrom s rows q parts.below →
    Counts limit merged (exists_part_at s rows depth role (holds parts.some) q n) r
