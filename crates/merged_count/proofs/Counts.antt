-- Laws of a count up to a limit and one more.
--   leaf_size                        the merged row of a set from which nothing hangs
--   beside_on                        later in a count
--   counts_none, counts_same         no forest; the same
--   counts_append, counts_full       one after another; beyond the limit
-- One role: A, if it has a row, and then its some-successors.
--   Turning, turn_start, turn_on     row j is the next of the some-successors
--   turn_full, turn_end              the last that the limit lets in; none is left
--   value_turn                       A
--   role_beside                      what it counts is added for each row from which nothing hangs
--   role_parts_counted               all of them
-- The picture.
--   count_root                       its merged rows, by what hangs from the root
use Prim.Native.Nat.{◌+◌, ◌-◌, ◌<◌, ◌≤◌, suc, ℕ}
use mathlib.Core.Bool.{Bool, false}
use mathlib.Core.List.{List}
use mathlib.Core.Logic.{◌⊎◌, inl, inr}
use mathlib.Core.Path.{◌∙◌, ◌≡◌, ap, sym}
use native.Mathlib.Omega.{arith}
use Rattle.table.specs.Layout.{kind_exists, kind_for_all}
use Rattle.table.specs.declared.layout.Limits.{Limits}
use Rattle.ale.specs.Forest.{append}
use Rattle.ale.specs.PictureSignature.{picture_signature}
use Rattle.ale.specs.Tree.{Forest, cons, exists, nil, size, sizes}
use Rattle.ale.proofs.Appends.{sizes_append}
use Rattle.meaning.specs.NormalTable.{merged_count}
use Rattle.row_sets.specs.Parts.{capped, exists_part_at, merged_at, parts_at, value_part_at}
use Rattle.row_sets.specs.Rows.{Checked, Found, Known, also, holds, of_kind}
use Rattle.row_sets.specs.declared.rows.RowSet.{RowSet}
use Rattle.row_sets.specs.declared.rows.Successors.{Successors}
use Rattle.row_sets.proofs.PartLaws.{exists_more, role_parts_is, successors_none, value_none, value_one}
use Rattle.row_sets.proofs.PartWalks.{exists_first, exists_last, exists_step}
use Rattle.row_sets.proofs.MemberWalks.{Over, next_row}
use Rattle.row_sets.specs.Walks.{MemberStep}
use Rattle.row_sets.specs.declared.members.Members.{Members}
use Rattle.std.proofs.Common.{None, Some}
use Rattle.row_sets.proofs.Roots.{merged_root}
use Rattle.merged_count.specs.Count.{Beside, Counts, ExistsCounted, HungFrom}
use Rattle.merged_count.specs.Count.{beside_size, tree_size}
use Rattle.merged_count.specs.declared.count.RoleParts.{RoleParts}
use Rattle.merged_count.proofs.Hangings.{beside_size_is, tree_size_is}

pub leaf_size : (s : List ℕ) (rows : ℕ) (successors : Successors) → Known s rows successors →
    successors.roles ≡ 0 → (depth : ℕ) → tree_size s rows depth (holds successors.set) ≡ 1
leaf_size s rows successors known e depth =
    ap (λ f. suc (sizes picture_signature f)) (successors_none s rows successors known e depth)

pub beside_on : (s : List ℕ) (rows depth limit merged counted : ℕ) (parts : RoleParts) →
    Beside s rows depth limit merged parts → merged ≤ counted → Beside s rows depth limit counted parts
beside_on s rows depth limit merged counted parts beside rises =
    record { known = beside.known; each_most = beside.each_most; each_is = omega (arith, beside.each_is) }

-- nothing, one forest after another, and one that is no smaller than what passed the limit
pub counts_none : (limit merged : ℕ) (f : Forest picture_signature) → merged ≤ suc limit → f ≡ nil → Counts limit merged f merged
counts_none limit merged f fits e = omega (arith, ap (sizes picture_signature) e)

pub counts_same : (limit merged r : ℕ) (f g : Forest picture_signature) → f ≡ g → Counts limit merged f r → Counts limit merged g r
counts_same limit merged r f g e p = omega (arith, p, ap (sizes picture_signature) e)

pub counts_append : (limit merged counted r : ℕ) (f g h : Forest picture_signature) → append picture_signature f g ≡ h →
    Counts limit merged f counted → Counts limit counted g r → Counts limit merged h r
counts_append limit merged counted r f g h e p q =
    let parts = ap (sizes picture_signature) e in
    omega (arith, p, q, sizes_append picture_signature f g, parts)

pub counts_full : (limit merged r : ℕ) (f g : Forest picture_signature) → Counts limit merged f r → limit < r →
    sizes picture_signature f ≤ sizes picture_signature g → Counts limit merged g r
counts_full limit merged r f g p over more = omega (arith, p)

-- ---- the some-successors of one role

-- those before a row were counted
pub record Turning (s : List ℕ) (rows depth : ℕ) (parts : RoleParts) (limit merged counted from : ℕ) : Type 0 where
  pub counts : ExistsCounted s rows depth parts limit merged from counted
  pub rises : merged ≤ counted
  pub fits : counted ≤ suc limit

module _ (s : List ℕ) (rows depth : ℕ) (parts : RoleParts) (limit merged : ℕ) where
  abbrev upto : (ℕ → Bool) → ℕ → ℕ → Forest picture_signature
  upto q role n = exists_part_at s rows depth role (holds parts.some) q n

  pub turn_start : (from : ℕ) → from ≡ 0 → merged ≤ suc limit → Turning s rows depth parts limit merged merged from
  turn_start from first fits =
      record {
        counts = λ q role _. counts_none limit merged (upto q role from) fits (exists_first s rows depth role parts.some q from first);
        rises = omega arith;
        fits = fits;
      }

  module _ (m n : Members) (over : Over parts.some rows m) (counted : ℕ) (sooner : Turning s rows depth parts limit merged counted m.from) where
    pub turn_end : MemberStep m None n → ExistsCounted s rows depth parts limit merged rows counted
    turn_end step q role from =
        counts_same limit merged counted (upto q role m.from) (upto q role rows)
        (exists_last s rows depth role parts.some q m n over step) (sooner.counts q role from)

    module _ (checked : Checked s rows) (j r : ℕ) (step : MemberStep m (Some j) n)
        (turn : r ≡ capped limit (counted + beside_size s rows depth j parts.below)) where
      pub turn_on : Turning s rows depth parts limit merged r n.from
      turn_on =
          record {
            counts = λ q role from.
                let one : Forest picture_signature = cons exists role (merged_at s rows depth (also j q)) nil in
                counts_append limit merged counted r (upto q role m.from) one (upto q role n.from)
                (exists_step s rows depth role parts.some q m n over j step) (sooner.counts q role from)
                (omega (arith, turn, beside_size_is s rows checked q parts.below from depth j));
            rises = omega (arith, turn, sooner.rises, sooner.fits);
            fits = omega (arith, turn);
          }

      pub turn_full : limit < r → ExistsCounted s rows depth parts limit merged rows r
      turn_full past q role from =
          let (l, next, on) = next_row parts.some rows m n over j step in
          counts_full limit merged r (upto q role n.from) (upto q role rows) (turn_on.counts q role from) past
          (exists_more s rows depth role (holds parts.some) q n.from rows (omega (arith, on)))

-- ---- one role

module _ (s : List ℕ) (rows depth : ℕ) (all : RowSet) (hung : Successors) (limit merged with_all : ℕ)
    (from : HungFrom s rows (holds all) hung) (fits : merged ≤ suc limit)
    (is_all : with_all ≡ capped limit (merged + tree_size s rows depth (holds hung.set))) where
  pub value_turn : (first counted role : ℕ) → Checked s rows →
      ((first < rows) × (counted ≡ with_all)) ⊎ ((rows ≤ first) × (counted ≡ merged)) →
      Counts limit merged (value_part_at s rows depth role (holds all) first) counted
  value_turn first counted role checked (inl (some, e)) =
      let one = ap (sizes picture_signature) (value_one s rows depth role (holds all) first some) in
      omega (arith, is_all, e, tree_size_is s rows checked (holds all) hung from depth, one)
  value_turn first counted role checked (inr (none, e)) =
      let nothing = ap (sizes picture_signature) (value_none s rows depth role (holds all) first none) in
      omega (arith, e, nothing)

  pub role_beside : (counted : ℕ) (some : RowSet) → merged ≤ counted →
      Beside s rows depth limit counted (record { some = some; below = hung; each = with_all - merged })
  role_beside counted some l =
      record {
        known = from.known;
        each_most = omega arith;
        each_is = omega (arith, is_all);
      }

pub role_parts_counted : (s : List ℕ) (rows depth role : ℕ) (all some : RowSet) (first limit merged counted r : ℕ)
    (p : ℕ → Bool) → Found (holds all) rows first → ((j : ℕ) → j < rows → holds all j ≡ of_kind s kind_for_all p j) →
    ((j : ℕ) → j < rows → holds some j ≡ of_kind s kind_exists p j) →
    Counts limit merged (value_part_at s rows depth role (holds all) first) counted →
    Counts limit counted (exists_part_at s rows depth role (holds some) (holds all) rows) r →
    Counts limit merged (parts_at s rows depth role p) r
role_parts_counted s rows depth role all some first limit merged counted r p found alls somes value rest =
    counts_append limit merged counted r (value_part_at s rows depth role (holds all) first)
    (exists_part_at s rows depth role (holds some) (holds all) rows) (parts_at s rows depth role p)
    (role_parts_is s rows depth role (holds all) (holds some) first found p alls somes) value rest

-- ---- the picture

pub count_root : (limits : Limits) (s : List ℕ) (rows : ℕ) (below : Successors) → Checked s rows →
    HungFrom s rows (also 0 (λ j. false)) below →
    merged_count limits s ≡ tree_size s rows limits.depth (holds below.set)
unfolding merged_count
count_root limits s rows below checked from =
    ap (size picture_signature) (sym (merged_root limits s rows checked.some))
    ∙ tree_size_is s rows checked (also 0 (λ j. false)) below from limits.depth
