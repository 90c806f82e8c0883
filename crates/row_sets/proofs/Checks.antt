-- What the code needs of a picture is true of one that reads as rows.
--   edge_kind          the kind of a row that hangs is one of two
--   readable_checked   of so many rows
--   readable_rows      of as many as its length says
use Prim.Native.Nat.{ℕ, ◌/◌}
use lib.ListN.{length}
use mathlib.Core.List.{List}
use mathlib.Core.Path.{◌≡◌, subst, sym}
use native.Mathlib.Omega.{arith}
use Rattle.std.proofs.Common.{Ok}
use Rattle.picture.proofs.Readables.{readable_count, readable_kind, readable_length, readable_most, readable_parent, readable_role, readable_some}
use Rattle.picture.specs.Read.{reading_of}
use Rattle.picture.specs.Readable.{Readable, row_count}
use Rattle.table.specs.Bounds.{Bounded}
use Rattle.table.specs.Layout.{row_size}
use Rattle.table.specs.declared.layout.Limits.{Limits}
use Rattle.row_sets.specs.Rows.{Checked}
use mathlib.Core.Logic.{◌⊎◌, inl, inr, ⊎_elim}
use Prim.Native.Nat.{◌<◌}
use borrow.Author.Tests.{eqb-false, eqb-true}
use lib.Dec.{eqb}
use Rattle.table.proofs.Bools.{by_test}
use Rattle.table.specs.Fields.{kind_of}
use Rattle.table.specs.Layout.{kind_exists, kind_for_all}

pub edge_kind : {s : List ℕ} {rows : ℕ} → Checked s rows → (j : ℕ) → (j ≡ 0 → ⊥) → j < rows →
    (kind_of s j ≡ kind_exists) ⊎ (kind_of s j ≡ kind_for_all)
edge_kind {s} checked j z l =
    by_test (eqb (kind_of s j) kind_exists)
    (λ e. inl (eqb-true (kind_of s j) kind_exists e))
    (λ e. inr (checked.kinds j z l (eqb-false (kind_of s j) kind_exists e)))

pub readable_checked : (limits : Limits) (s : List ℕ) (n : ℕ) → reading_of limits s ≡ Ok n → Bounded limits → Checked s n
readable_checked limits s n reads bounded =
    let readable : Readable limits s = record { rows = n; reads = reads } in
    let count = readable_count limits s readable in
    let most = readable_most limits s readable in
    record {
      some = omega (arith, count, readable_some limits s readable);
      most = omega (arith, count, most, bounded.0);
      whole = omega (arith, count, readable_length limits s readable);
      counted = sym count;
      parents = λ j later l. readable_parent limits s readable j later (omega (arith, count));
      kinds = λ j later l other. ⊎_elim (λ e. absurd (other e)) (λ e. e) (readable_kind limits s readable j later (omega (arith, count)));
      roles_below = λ j l. readable_role limits s readable j (omega (arith, count));
    }

pub readable_rows : (limits : Limits) (s : List ℕ) → Bounded limits → Readable limits s → Checked s (length s / row_size)
unfolding row_count
readable_rows limits s bounded readable =
    let checked = readable_checked limits s readable.rows readable.reads bounded in
    subst (λ n. Checked s n) checked.counted checked
