-- A list of images for which 17 to 20 are answered yes, row by row, is a map of the theory, and the reverse.
--   row_exactly                17 to 20 of one row
--   map_yes, yes_map           of every row
use Prim.Native.Nat.{ℕ, ◌+◌, ◌<◌, ◌≤◌}
use native.Mathlib.Omega.{arith}
use borrow.Author.Tests.{eq-eqb, eqb-false, eqb-true, lt-ltb, ltb-true, ne_eqb}
use lib.Dec.{T, eqb, ltb}
use mathlib.Core.Bool.{Bool, true}
use mathlib.Core.Logic.{◌↔◌}
use mathlib.Core.Path.{◌≡◌, refl, subst, sym}
use Rattle.table.proofs.Bools.{by_test, is_true, true_is}
use Rattle.table.specs.Pick.{pick}
use Rattle.ale.specs.PictureSignature.{picture_signature}
use Rattle.ale.specs.RowMap.{IsHomomorphism, edge_agrees, label_agrees}
use Rattle.ale.specs.Table.{Table}
use Rattle.picture.proofs.Orders.{and_decides, asked_decides, from_yes, yes_so}
use Rattle.picture.specs.Asked.{and_then, asked, yes}
use Rattle.evidence.specs.Map.{map_asked, refusal_by, row_asked}

module _ (p q : Table picture_signature) (im : ℕ → ℕ) where
  -- what 17 to 20 say of row i
  pub record Answers (i : ℕ) : Type 0 where
    pub inside : im i < p.rows
    pub root : i ≡ 0 → im i ≡ 0
    pub label : T (label_agrees picture_signature p q i (im i))
    pub edge : (i ≡ 0 → ⊥) → T (edge_agrees picture_signature p q i (im (q.parent i)) (im i))

  module _ (i : ℕ) where
    abbrev within : Bool
    within = ltb (im i) p.rows

    abbrev rooted : Bool
    rooted = pick (eqb i 0) (eqb (im i) 0) true

    abbrev labelled : Bool
    labelled = label_agrees picture_signature p q i (im i)

    abbrev joined : Bool
    joined = pick (eqb i 0) true (edge_agrees picture_signature p q i (im (q.parent i)) (im i))

    pub row_exactly : (row_asked p q im i ≡ yes) ↔ Answers i
    unfolding row_asked
    row_exactly =
        let a = asked within (refusal_by 17) in
        let b = asked rooted (refusal_by 18) in
        let c = asked labelled (refusal_by 19) in
        let d = asked joined (refusal_by 20) in
        yes_so (and_then a (and_then b (and_then c d)))
        (and_decides a (and_then b (and_then c d)) (asked_decides within (refusal_by 17))
        (λ e. and_decides b (and_then c d) (asked_decides rooted (refusal_by 18))
        (λ e. and_decides c d (asked_decides labelled (refusal_by 19)) (λ e. asked_decides joined (refusal_by 20))))) (
          λ (in_range, (at_root, (same, edge))). record {
            inside = ltb-true (im i) p.rows in_range;
            root = λ z. eqb-true (im i) 0 (rw (eq-eqb i 0 z) at at_root);
            label = true_is labelled same;
            edge = λ z. true_is (edge_agrees picture_signature p q i (im (q.parent i)) (im i))
                (rw (ne_eqb i 0 z) at edge);
          },
          λ ok. (
            lt-ltb (im i) p.rows ok.inside,
            (
              by_test (eqb i 0) (λ z. rw z (eq-eqb (im i) 0 (ok.root (eqb-true i 0 z)))) (λ z. rw z),
              (
                is_true labelled ok.label,
                by_test (eqb i 0) (λ z. rw z)
                    (λ z. rw z (is_true (edge_agrees picture_signature p q i (im (q.parent i)) (im i))
                    (ok.edge (eqb-false i 0 z)))),
              ),
            ),
          ),
        )

  map_exactly : (map_asked p q im ≡ yes) ↔ ((i : ℕ) → 0 ≤ i → i < 0 + q.rows → Answers i)
  unfolding map_asked
  map_exactly = from_yes (row_asked p q im) Answers row_exactly q.rows 0

  pub map_yes : 0 < q.rows → map_asked p q im ≡ yes → IsHomomorphism picture_signature p q im
  map_yes some h =
      record {
        inside = λ i l. (at i l).inside;
        root = (at 0 some).root refl;
        labels = λ i l. (at i l).label;
        edges = λ i l z. (at i l).edge z;
      }
    where
      at : (i : ℕ) → i < q.rows → Answers i
      at i l = map_exactly.0 h i (omega arith) (omega arith)

  pub yes_map : IsHomomorphism picture_signature p q im → map_asked p q im ≡ yes
  yes_map ok =
      map_exactly.1 (λ i a b. record {
        inside = ok.inside i (omega arith);
        root = λ z. subst (λ k. im k ≡ 0) (sym z) ok.root;
        label = ok.labels i (omega arith);
        edge = λ z. ok.edges i (omega arith) z;
      })
