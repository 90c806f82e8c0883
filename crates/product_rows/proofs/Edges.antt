-- A row's kind as it is written.
--   code_kept   the kind of a row that hangs is written as it stands, after the first row
use Prim.Native.Nat.{◌<◌, ℕ}
use borrow.Author.Tests.{ne_eqb}
use mathlib.Core.List.{List}
use mathlib.Core.Logic.{◌⊎◌, inl, inr}
use mathlib.Core.Path.{◌≡◌}
use native.Mathlib.Omega.{arith}
use Rattle.table.specs.Fields.{kind_of}
use Rattle.table.specs.Layout.{kind_exists, kind_for_all}
use Rattle.meaning.specs.File.{code_at, kind_code}
use Rattle.meaning.specs.Meaning.{kind_at}
use Rattle.row_sets.proofs.Checks.{edge_kind}
use Rattle.row_sets.specs.Rows.{Checked}

kind_coded : (kind : ℕ) → (kind ≡ kind_exists) ⊎ (kind ≡ kind_for_all) → kind_code (kind_at kind) ≡ kind
kind_coded kind (inl e) = rw e
kind_coded kind (inr e) = rw e

pub code_kept : {t : List ℕ} {rows : ℕ} → Checked t rows → (e : ℕ) → (e ≡ 0 → ⊥) → e < rows → {at : ℕ} → 0 < at →
    code_at at (kind_at (kind_of t e)) ≡ kind_of t e
code_kept checked e z l {at} some = rw (ne_eqb at 0 (λ y. omega arith)) (kind_coded _ (edge_kind checked e z l))
