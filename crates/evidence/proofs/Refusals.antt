-- Which refusals the questions about evidence give: 16 to 23, of the evidence; there is no other.
--   row_refuses, map_refuses,
--   refutation_refuses, evidence_refuses   every refusal has a property that those numbers have
use Prim.Native.Nat.{ℕ, ◌≤◌}
use native.Mathlib.Omega.{arith}
use lib.Dec.{eqb, ltb}
use mathlib.Core.Bool.{Bool, ◌||◌, false, not, true}
use mathlib.Core.List.{List}
use Rattle.table.specs.Pick.{pick}
use Rattle.table.specs.Range.{each}
use Rattle.table.specs.declared.layout.Limits.{Limits}
use Rattle.ale.specs.ModelCheck.{fits_test}
use Rattle.ale.specs.PictureSignature.{picture_signature}
use Rattle.ale.specs.RowMap.{edge_agrees, label_agrees}
use Rattle.ale.specs.Table.{Table}
use Rattle.ale.specs.Tree.{Tree}
use Rattle.picture.proofs.Orders.{EveryRefusal, and_refuses, asked_refuses, from_refuses}
use Rattle.picture.specs.Asked.{and_then, asked, Asked}
use Rattle.picture.specs.declared.answer.Refusal.{Refusal}
use Rattle.meaning.specs.Meaning.{picture_table, picture_tree}
use Rattle.meaning.specs.NormalTable.{normal_file}
use Rattle.countermodel.specs.Individual.{individual_ok, refutation_form}
use Rattle.countermodel.specs.Layout.{individual_count}
use Rattle.countermodel.specs.Model.{model_tree}
use Rattle.homomorphism.specs.Layout.{image_of}
use Rattle.evidence.specs.Call.{evidence_asked}
use Rattle.evidence.specs.Check.{check_asked, refutation_asked}
use Rattle.evidence.specs.Form.{map_form}
use Rattle.evidence.specs.Map.{map_asked, refusal_by, row_asked}

module _ (P : Refusal → Type 0) (by : (n : ℕ) → 16 ≤ n → n ≤ 23 → P (refusal_by n)) where
  row_refuses : (p q : Table picture_signature) (im : ℕ → ℕ) (i : ℕ) → EveryRefusal P (row_asked p q im i)
  unfolding row_asked
  row_refuses p q im i =
      let within = ltb (im i) p.rows in
      let rooted = pick (eqb i 0) (eqb (im i) 0) true in
      let labelled = label_agrees picture_signature p q i (im i) in
      let joined = pick (eqb i 0) true (edge_agrees picture_signature p q i (im (q.parent i)) (im i)) in
      let b = asked rooted (refusal_by 18) in
      let c = asked labelled (refusal_by 19) in
      let d = asked joined (refusal_by 20) in
      and_refuses P (asked within (refusal_by 17)) (and_then b (and_then c d))
      (asked_refuses P within (refusal_by 17) (by 17 (omega arith) (omega arith)))
      (and_refuses P b (and_then c d) (asked_refuses P rooted (refusal_by 18) (by 18 (omega arith) (omega arith)))
      (and_refuses P c d (asked_refuses P labelled (refusal_by 19) (by 19 (omega arith) (omega arith)))
      (asked_refuses P joined (refusal_by 20) (by 20 (omega arith) (omega arith)))))

  map_refuses : (p q : Table picture_signature) (im : ℕ → ℕ) → EveryRefusal P (map_asked p q im)
  unfolding map_asked
  map_refuses p q im = from_refuses P (row_asked p q im) q.rows 0 (λ i a b. row_refuses p q im i)

  refutation_refuses : (t u : Tree picture_signature) (e : List ℕ) → EveryRefusal P (refutation_asked t u e)
  unfolding refutation_asked
  refutation_refuses t u e =
      let passing = each (individual_ok e) (individual_count e) 0 in
      let fits = fits_test picture_signature t (model_tree e 0) in
      let fails = not (fits_test picture_signature u (model_tree e 0)) in
      let b = asked fits (refusal_by 22) in
      let c = asked fails (refusal_by 23) in
      and_refuses P (asked passing (refusal_by 21)) (and_then b c)
      (asked_refuses P passing (refusal_by 21) (by 21 (omega arith) (omega arith)))
      (and_refuses P b c (asked_refuses P fits (refusal_by 22) (by 22 (omega arith) (omega arith)))
      (asked_refuses P fails (refusal_by 23) (by 23 (omega arith) (omega arith))))

  form_refuses : (m n : Asked) → EveryRefusal P m → EveryRefusal P n → (b : Bool) → EveryRefusal P (pick b m n)
  form_refuses m n h k true = h
  form_refuses m n h k false = k

  module _ (limits : Limits) (first second e : List ℕ) where
    pub evidence_refuses : EveryRefusal P (evidence_asked limits first second e)
    unfolding evidence_asked check_asked
    evidence_refuses =
        let p = picture_table (normal_file limits first) in
        let q = picture_table (normal_file limits second) in
        let m = map_asked p q (image_of e) in
        let n = refutation_asked (picture_tree limits first) (picture_tree limits second) e in
        let formed = map_form q.rows e || refutation_form limits e in
        and_refuses P (asked formed (refusal_by 16)) (pick (map_form q.rows e) m n)
        (asked_refuses P formed (refusal_by 16) (by 16 (omega arith) (omega arith)))
        (form_refuses m n (map_refuses p q (image_of e)) (refutation_refuses (picture_tree limits first)
        (picture_tree limits second) e)
        (map_form q.rows e))
