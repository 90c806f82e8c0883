-- The merged rows of sets of file rows, as the code makes or counts them. Nobody has to believe these.
--   capped         a count up to a limit and one more
--   merged_at       the merged tree of a set
--   value_part_at    the all-successor for A = q, if A is not empty
--   exists_part_at   the some-successors p below row n, each standing for its row with A = q
--   parts_at        those of one role, where p are those that hang by it
--   roles_at        those of the roles below n
--   successors_at   those of all roles, down to a depth
use Rattle.std.specs.Prelude.{min, suc, zero, ℕ, ltb, Bool, List}
use Rattle.table.specs.Layout.{kind_exists, kind_for_all, roles}
use Rattle.table.specs.Pick.{pick}
use Rattle.ale.specs.Forest.{append, by_role}
use Rattle.ale.specs.Merged.{exists_parts, merged, value_part}
use Rattle.ale.specs.PictureSignature.{picture_signature}
use Rattle.ale.specs.Rows.{filter_below}
use Rattle.ale.specs.Tree.{Forest, Tree, cons, forAll, nil}
use Rattle.meaning.specs.Meaning.{picture_table}
use Rattle.row_sets.specs.Rows.{also, of_kind, of_role}

abbrev pub capped : ℕ → ℕ → ℕ
capped limit n = min n (suc limit)

module _ (s : List ℕ) (rows depth : ℕ) where
  unfoldable pub merged_at : (ℕ → Bool) → Tree picture_signature
  merged_at q = merged picture_signature (picture_table s) depth (filter_below q rows)

  unfoldable pub value_part_at : ℕ → (ℕ → Bool) → ℕ → Forest picture_signature
  value_part_at role q first = pick (ltb first rows) (cons forAll role (merged_at q) nil) nil

  unfoldable pub exists_part_at : ℕ → (ℕ → Bool) → (ℕ → Bool) → ℕ → Forest picture_signature
  exists_part_at role p q n = exists_parts picture_signature role (λ j. merged_at (also j q)) (filter_below p n)

  unfoldable pub parts_at : ℕ → (ℕ → Bool) → Forest picture_signature
  parts_at role p =
      append picture_signature
      (value_part picture_signature role (λ t. merged picture_signature (picture_table s) depth t) (filter_below (of_kind s kind_for_all p) rows))
      (exists_part_at role (of_kind s kind_exists p) (of_kind s kind_for_all p) rows)

  unfoldable pub roles_at : (ℕ → Bool) → ℕ → Forest picture_signature
  roles_at p n = by_role picture_signature (λ r. parts_at r (of_role s r p)) n

unfoldable pub successors_at : List ℕ → ℕ → ℕ → (ℕ → Bool) → Forest picture_signature
successors_at s rows zero p = nil
successors_at s rows (suc depth) p = roles_at s rows depth p roles
