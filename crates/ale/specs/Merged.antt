-- 01, "A merged row stands for a set of file rows": the merged tree of a set of rows of a table.
--   label_union               the union of two labels
--   value_part, exists_parts   the successors for A, and for each c
--   successor_of_set           row j hangs from a row of the set
--   rows_below                the successors of the set, of one kind, whose role passes a test, in file-row order
--   value_rows                A: the all-successors of the set for role r (of every role including r)
--   exists_rows               the some-successors of the set by role r
--   label_of_set               the unions of the names; ⊥ if any has it
--   role_parts                one all-successor standing for A if A is not empty, then for each some-successor c one standing for c with A
--   merged                   the merged tree of a set, down to a depth; a depth that is large enough cuts nothing off (MergedDepths: `merged-deeper`)
use Rattle.std.specs.Prelude.{suc, zero, ℕ, eqb, Bool, ◌&&◌, ◌||◌, not, List, [], ◌∷◌}
use Rattle.ale.specs.Forest.{append, by_role}
use Rattle.ale.specs.Rows.{filter_below, member, with_row}
use Rattle.ale.specs.Signature.{Signature}
use Rattle.ale.specs.Table.{Table}
use Rattle.ale.specs.Tree.{Forest, Kind, Label, Tree, cons, empty_label, exists, forAll, nil, node, same_kind}

module _ (S : Signature) where
  abbrev pub label_union : Label S → Label S → Label S
  label_union l m = record {
    wanted = S.union l.wanted m.wanted;
    excluded = S.union l.excluded m.excluded;
    bottom = l.bottom || m.bottom;
  }

  abbrev pub value_part : ℕ → (List ℕ → Tree S) → List ℕ → Forest S
  value_part r h [] = nil
  value_part r h (a ∷ s) = cons forAll r (h (a ∷ s)) nil

  abbrev pub exists_parts : ℕ → (ℕ → Tree S) → List ℕ → Forest S
  exists_parts r h [] = nil
  exists_parts r h (c ∷ s) = cons exists r (h c) (exists_parts r h s)

module _ (S : Signature) (p : Table S) where
  abbrev pub successor_of_set : List ℕ → ℕ → Bool
  successor_of_set s j = not (eqb j 0) && member (p.parent j) s

  abbrev pub rows_below : List ℕ → Kind → (ℕ → Bool) → List ℕ
  rows_below s k q = filter_below (λ j. successor_of_set s j && (same_kind k (p.kind j) && q (p.role j))) p.rows

  abbrev pub value_rows : List ℕ → ℕ → List ℕ
  value_rows s r = rows_below s forAll (λ r'. S.subrole r r')

  abbrev pub exists_rows : List ℕ → ℕ → List ℕ
  exists_rows s r = rows_below s exists (λ r'. eqb r' r)

  abbrev pub label_of_set : List ℕ → Label S
  label_of_set [] = empty_label S
  label_of_set (i ∷ s) = label_union S (p.label i) (label_of_set s)

  abbrev pub role_parts : (List ℕ → Tree S) → List ℕ → ℕ → Forest S
  role_parts h s r =
      append S (value_part S r h (value_rows s r)) (exists_parts S r (λ c. h (with_row p.rows c (value_rows s r))) (exists_rows s r))

  abbrev pub merged : ℕ → List ℕ → Tree S
  merged zero s = node (label_of_set s) nil
  merged (suc n) s = node (label_of_set s) (by_role S (λ r. role_parts (λ t. merged n t) s r) S.roles)
