-- 29 and 30 of a picture, by the rows that are written.
--   rows_many, rows_few        29
--   rows_hung, rows_shallow    30, where 29 is answered yes
use Prim.Native.Nat.{◌<◌, ◌≤◌, ℕ}
use borrow.Author.Tests.{le-leb, lt-leb}
use mathlib.Core.Bool.{false, true}
use mathlib.Core.List.{List}
use mathlib.Core.Path.{◌∙◌, ◌≡◌, ap, subst, sym}
use native.Mathlib.Omega.{arith}
use Rattle.table.specs.declared.layout.Limits.{Limits}
use Rattle.table.specs.NameValues.{set_of}
use Rattle.definition_parts.specs.declared.opened.Tbox.{Tbox}
use Rattle.definitions.specs.Unfolded.{unfolded_count, unfolded_few, unfolded_shallow}
use Rattle.unfold_rows.proofs.UnfoldedFiles.{unfolded_count_is, unfolded_few_is, unfolded_rows}
use Rattle.unfold_rows.specs.Growing.{Filed}
use Rattle.unfold_depth.proofs.UnfoldedDepths.{unfolded_hung, unfolded_shallow_is}
use Rattle.unfold_depth.specs.Depths.{Hung, shallow}
use Rattle.definitions_asked.specs.Measures.{Measurable}

module _ (limits : Limits) (t : Tbox) (s : List ℕ) (m : Measurable limits t s) (count : ℕ) (d e : List ℕ)
    (filed : Filed s t.bytes.now t.starts.now (set_of t.defined) limits.rows count d e) where
  abbrev tbox : List ℕ
  tbox = t.bytes.now

  pub rows_many : limits.rows < count → unfolded_few limits tbox s ≡ false
  rows_many l =
      sym (unfolded_few_is tbox s t.starts.now (set_of t.defined) m.known.agrees limits count d e filed)
      ∙ lt-leb count limits.rows l

  module _ (l : count ≤ limits.rows) where
    pub rows_few : unfolded_few limits tbox s ≡ true
    rows_few =
        sym (unfolded_few_is tbox s t.starts.now (set_of t.defined) m.known.agrees limits count d e filed)
        ∙ le-leb count limits.rows l

    counted : count ≡ unfolded_count limits tbox s
    counted = unfolded_count_is tbox s t.starts.now (set_of t.defined) m.known.agrees limits count d e filed rows_few

    pub rows_hung : Hung e count limits.depth
    rows_hung =
        subst (λ n. Hung e n limits.depth) (sym counted)
        (unfolded_hung limits m.known.bounded tbox m.known.sound s m.readable (omega (arith, counted)) e
        (unfolded_rows tbox s t.starts.now (set_of t.defined) m.known.agrees limits count d e filed rows_few))

    pub rows_shallow : shallow e count limits.depth ≡ unfolded_shallow limits tbox s
    rows_shallow =
        ap (λ n. shallow e n limits.depth) counted
        ∙ unfolded_shallow_is limits m.known.bounded tbox m.known.sound s m.readable (omega (arith, counted)) e
        (unfolded_rows tbox s t.starts.now (set_of t.defined) m.known.agrees limits count d e filed rows_few)
