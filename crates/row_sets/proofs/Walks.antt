-- A turn of a loop along `Below`, as facts of the table that it goes through.
--   Turn      the row that comes, on the chain, and where the walk then is
--   turned    from a step of the walk
use mathlib.Core.Path.{◌∙◌, ◌≡◌, ap, subst, sym}
use Prim.Native.Nat.{◌+◌, ℕ}
use lib.ListN.{get_or}
use Rattle.std.specs.Prelude.{Some}
use Rattle.table.specs.Bounds.{max_rows}
use Rattle.table.specs.Fields.{parent_of}
use Rattle.row_sets.specs.Chains.{OnChain}
use Rattle.row_sets.specs.Walks.{Step}
use Rattle.row_sets.specs.declared.below.Below.{Below}
use Rattle.row_sets.specs.declared.linked.Table.{Table}

pub record Turn (t : Table) (b : Below) (j : ℕ) (n : Below) : Type 0 where
  pub there : j ≡ 0 → ⊥
  pub is : b.next ≡ j
  pub on : OnChain (parent_of t.bytes.now) t.rows b.above j
  pub next : n.next ≡ get_or t.links.now (max_rows + j) 0
  pub table : n.table.now ≡ t
  pub above : n.above ≡ b.above

pub turned : {t : Table} {j : ℕ} (b n : Below) → b.table.now ≡ t → Step b (Some j) n → Turn t b j n
turned {j = j} b n same step =
    record {
      there = step.1;
      is = sym step.0;
      on =
          subst (λ (u : Table). OnChain (parent_of u.bytes.now) u.rows b.above j) same
          (subst (OnChain (parent_of b.table.now.bytes.now) b.table.now.rows b.above) (sym step.0) b.on);
      next = step.2 ∙ ap (λ (u : Table). get_or u.links.now (max_rows + j) 0) same;
      table = ap (λ u. u.now) step.3 ∙ same;
      above = step.4;
    }
